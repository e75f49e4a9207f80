-- A call that answers a refusal leaves each lent buffer and state as it was; the reader hands the whole text back.
use mathlib.Core.Path.{◌≡◌}
use Prim.Native.Nat.{ℕ}
use native.Mathlib.Omega.{arith}
use mathlib.Core.List.{List}
use lib.ListN.{length}
use Rattle.rules.specs.Refusals.{answering, lent}
use Rattle.rules.specs.Dispatch.{Job, late_job}
use Rattle.rules.specs.Answers.{read_refusal, read_answer, read_table, read_rest, make_refusal, make_answer, make_buffer, read_sheet_refusal, read_sheet_answer, read_sheet_table, timing, schedule_rows, schedule_refusal, schedule_answer, schedule_buffer, pattern_refusal, pattern_answer, pattern_buffer}
use Rattle.rules.specs.Report.{report_refusal, report_answer, report_buffer}
use Rattle.rules.specs.Calls.{Reads, Makes, ReadsSheet, Schedules, Shows, Reports}
use Rattle.rules.specs.Generator.{draw_refusal, draw_answer, draw_state, draw_table, DrawsSet}
use Rattle.rules.specs.declared.Refusal.{Refusal}
use Rattle.std.specs.Prelude.{Option, Some, None, Ok, Err}

-- an answer that is a refusal, and no result, comes of one, so a buffer is lent back as it was
as_it_was : {X : Type 0} (refused : Refusal → X) (result : X) (o : Option Refusal) (r : Refusal) (written old exit : List ℕ)
    → (refused r ≡ result → ⊥) → refused r ≡ answering o refused result → exit ≡ lent o written old → exit ≡ old
as_it_was refused result None r written old exit apart e leaves = absurd (apart e)
as_it_was refused result (Some s) r written old exit apart e leaves = leaves

-- and so is what a call hands back or moves on
as_before : {X : Type 0} (o : Option Refusal) (r : Refusal) (n : ℕ) (old new exit : X)
    → Err r ≡ answering o Err (Ok n) → exit ≡ answering o (λ s. old) new → exit ≡ old
as_before None r n old new exit e back = let z : ◌≡◌ {A = ℕ} 0 1 = cc in absurd (omega arith)
as_before (Some s) r n old new exit e back = back

-- a timing is no refusal
no_timing : (n : ℕ) (o : Option Job) (r : Refusal) → Err r ≡ Ok (timing n o) → ⊥
no_timing n None r e = let z : ◌≡◌ {A = ℕ} 0 1 = cc in omega arith
no_timing n (Some j) r e = let z : ◌≡◌ {A = ℕ} 0 1 = cc in omega arith

pub read_untouched : (text table rest exit : List ℕ) (r : Refusal) → Reads text table (Err r) rest exit → (rest ≡ text) × (exit ≡ table)
unfolding read_answer read_table read_rest
read_untouched text table rest exit r c = (
  as_before (read_refusal text table) r _ text _ rest c.says c.hands_back,
  as_it_was Err _ (read_refusal text table) r _ table exit (λ e. let z : ◌≡◌ {A = ℕ} 0 1 = cc in omega arith) c.says c.leaves,
)

pub write_untouched : {make : List ℕ → List ℕ} (table out exit : List ℕ) (r : Refusal) → Makes make table out (Err r) exit → exit ≡ out
unfolding make_answer make_buffer
write_untouched {make} table out exit r c =
    as_it_was Err _ (make_refusal make table out) r _ out exit (λ e. let z : ◌≡◌ {A = ℕ} 0 1 = cc in omega arith) c.says c.leaves

pub schedule_untouched : (table out exit : List ℕ) (z : ℕ) (r : Refusal) → Schedules table z out (Err r) exit → exit ≡ out
unfolding schedule_answer schedule_buffer
schedule_untouched table out exit z r c =
    as_it_was Err _ (schedule_refusal table z out) r _ out exit
    (no_timing (length (schedule_rows table z)) (late_job (schedule_rows table z)) r) c.says c.leaves

pub pattern_untouched : (table out exit : List ℕ) (r : Refusal) → Shows table out (Err r) exit → exit ≡ out
unfolding pattern_answer pattern_buffer
pattern_untouched table out exit r c =
    as_it_was Err _ (pattern_refusal table out) r _ out exit (λ e. let z : ◌≡◌ {A = ℕ} 0 1 = cc in omega arith) c.says c.leaves

pub report_untouched : (n : ℕ) (text out exit : List ℕ) (r : Refusal) → Reports n text out (Err r) exit → exit ≡ out
unfolding report_answer report_buffer
report_untouched n text out exit r c =
    as_it_was Err _ (report_refusal n text out) r _ out exit (λ e. let z : ◌≡◌ {A = ℕ} 0 1 = cc in omega arith) c.says c.leaves

pub draw_untouched : (s number after : ℕ) (table exit : List ℕ) (r : Refusal) → DrawsSet s number table (Err r) after exit → (after ≡ s) × (exit ≡ table)
unfolding draw_answer draw_state draw_table
draw_untouched s number after table exit r c = (
  as_before (draw_refusal s number table) r _ s _ after c.says c.moves,
  as_it_was Err _ (draw_refusal s number table) r _ table exit (λ e. let z : ◌≡◌ {A = ℕ} 0 1 = cc in omega arith) c.says c.leaves,
)

pub sheet_untouched : (sheet table exit : List ℕ) (r : Refusal) → ReadsSheet sheet table (Err r) exit → exit ≡ table
unfolding read_sheet_answer read_sheet_table
sheet_untouched sheet table exit r c =
    as_it_was Err _ (read_sheet_refusal sheet table) r _ table exit (λ e. let z : ◌≡◌ {A = ℕ} 0 1 = cc in omega arith) c.says c.leaves
