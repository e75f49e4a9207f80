-- Demand 1: every call has exactly one outcome for every input, and a refusal changes no lent buffer.
use mathlib.Core.Path.{refl}
use mathlib.Core.Logic.{◌⊎◌, inl, inr}
use Prim.Native.Nat.{ℕ, ◌≤◌}
use native.Mathlib.Omega.{arith}
use mathlib.Core.List.{List}
use Rattle.rules.specs.Refusals.{number_of}
use Rattle.rules.specs.Text.{write_set}
use Rattle.rules.specs.Sheet.{write_sheet}
use Rattle.rules.specs.Answers.{read_answer, read_table, read_rest, make_answer, make_buffer, read_sheet_answer, read_sheet_table, schedule_answer, schedule_buffer, verdict_answer, pattern_answer, pattern_buffer, check_number}
use Rattle.rules.specs.Report.{report_answer, report_buffer}
use Rattle.rules.specs.Generator.{next_state, drawn, draw_answer, draw_state, draw_table}
use Rattle.rules.specs.Calls.{Makes}
use Rattle.rules.specs.declared.Refusal.{Refusal}
use Rattle.rules.specs.declared.Refusal.TheVariants.{NoWord, NotFours, TooManyWords, OutOfRange, BadEnd, TooShort, BadLine, NotMisses, NoHeader, BadRecord, NoRecord}
use Rattle.rules.proofs.Untouched.{read_untouched, write_untouched, schedule_untouched, pattern_untouched, report_untouched, draw_untouched, sheet_untouched}
use Rattle.promises.specs.Demands.{One, EndsWell, Untouched}
use Rattle.std.specs.Prelude.{Result}

-- a writer, whatever is made
making : (make : List ℕ → List ℕ) (table out : List ℕ) → One (Result ℕ Refusal × List ℕ) (λ o. Makes make table out o.0 o.1)
making make table out = record {
  outcome = (make_answer make table out, make_buffer make table out);
  as_due = record { says = refl; leaves = refl };
  no_other = λ o c i. (c.says i, c.leaves i);
}

pub ends_well : EndsWell
ends_well = record {
  reading = λ text table. record {
    outcome = (read_answer text table, read_rest text table, read_table text table);
    as_due = record { says = refl; hands_back = refl; leaves = refl };
    no_other = λ o c i. (c.says i, c.hands_back i, c.leaves i);
  };
  writing = making write_set;
  scheduling = λ table z out. record {
    outcome = (schedule_answer table z out, schedule_buffer table z out);
    as_due = record { says = refl; leaves = refl };
    no_other = λ o c i. (c.says i, c.leaves i);
  };
  judging = λ table. record { outcome = verdict_answer table; as_due = refl; no_other = λ o c. c };
  showing = λ table out. record {
    outcome = (pattern_answer table out, pattern_buffer table out);
    as_due = record { says = refl; leaves = refl };
    no_other = λ o c i. (c.says i, c.leaves i);
  };
  reporting = λ number text out. record {
    outcome = (report_answer number text out, report_buffer number text out);
    as_due = record { says = refl; leaves = refl };
    no_other = λ o c i. (c.says i, c.leaves i);
  };
  checking = λ text. record { outcome = check_number text; as_due = refl; no_other = λ o c. c };
  drawing = λ s. record {
    outcome = (drawn s, next_state s);
    as_due = record { says = refl; moves = refl };
    no_other = λ o c i. (c.says i, c.moves i);
  };
  drawing_set = λ s number table. record {
    outcome = (draw_answer s number table, draw_state s number table, draw_table s number table);
    as_due = record { says = refl; moves = refl; leaves = refl };
    no_other = λ o c i. (c.says i, c.moves i, c.leaves i);
  };
  reading_sheet = λ sheet table. record {
    outcome = (read_sheet_answer sheet table, read_sheet_table sheet table);
    as_due = record { says = refl; leaves = refl };
    no_other = λ o c i. (c.says i, c.leaves i);
  };
  writing_sheet = making write_sheet;
}

-- every refusal has a number
numbered : (r : Refusal) → ((1 ≤ number_of r) × (number_of r ≤ 8)) ⊎ ((13 ≤ number_of r) × (number_of r ≤ 15))
numbered NoWord = inl (omega arith, omega arith)
numbered NotFours = inl (omega arith, omega arith)
numbered TooManyWords = inl (omega arith, omega arith)
numbered (OutOfRange i) = inl (omega arith, omega arith)
numbered BadEnd = inl (omega arith, omega arith)
numbered TooShort = inl (omega arith, omega arith)
numbered (BadLine l) = inl (omega arith, omega arith)
numbered NotMisses = inl (omega arith, omega arith)
numbered NoHeader = inr (omega arith, omega arith)
numbered (BadRecord l) = inr (omega arith, omega arith)
numbered NoRecord = inr (omega arith, omega arith)

pub untouched : Untouched
untouched = record {
  numbered = numbered;
  reading = read_untouched;
  writing = write_untouched;
  scheduling = schedule_untouched;
  showing = pattern_untouched;
  reporting = report_untouched;
  drawing = draw_untouched;
  reading_sheet = sheet_untouched;
  writing_sheet = write_untouched;
}
