-- A refusal that is told: it has words for what is wrong, and a 4 names a word of the table. The readers give 7, 13, 14 and 15, and of a table with
-- four words a task there is nothing to refuse but a word.
use mathlib.Core.Path.{◌≡◌, refl, sym, subst, ◌∙◌}
use Prim.Native.Nat.{ℕ}
use native.Mathlib.Omega.{arith}
use mathlib.Core.List.{List, [], ◌∷◌}
use lib.Dec.{eqb}
use Rattle.rules.specs.Refusals.{first_of}
use Rattle.rules.specs.Table.{table_refusal}
use Rattle.rules.specs.Text.{Lines, took, stop, read_set}
use Rattle.rules.specs.Sheet.{Sheet, tasks, wrong, no_header, read_sheet}
use Rattle.rules.specs.Answers.{line_refusal, record_refusal}
use Rattle.rules.specs.declared.Refusal.{Refusal}
use Rattle.rules.specs.declared.Refusal.TheVariants.{OutOfRange, NoHeader, BadRecord, NoRecord, BadLine}
use Rattle.rules.proofs.Calls.{alone}
use Rattle.rules.proofs.Booleans.{impossible, chosen}
use Rattle.rules.proofs.Refused.{TableSays, table_says}
use Rattle.rules.proofs.Rooms.{Fours, set_fours, sheet_words_fours}
use Rattle.exchange.specs.Exchange.{reading_refusal, words_in, refusal_of}
use Rattle.wording.specs.declared.Source.{Source}
use Rattle.wording.specs.Wording.{wrong_in, InTable}
use Rattle.std.specs.Prelude.{Option, Some, None}

pub record Tellable (source : Source) (r : Refusal) : Type 0 where
  pub named : InTable r
  pub worded : wrong_in source r ≡ [] → ⊥

record_worded : (source : Source) (l : ℕ) → wrong_in source (BadRecord l) ≡ [] → ⊥
record_worded source l = chosen (λ (words : List ℕ). words ≡ [] → ⊥) (eqb l 66) (λ e. impossible cc) (λ e. impossible cc)

range_worded : (source : Source) (i : ℕ) → wrong_in source (OutOfRange i) ≡ [] → ⊥
range_worded Source.Sheet i e = impossible cc
range_worded Source.Text i e = impossible cc

-- THE READERS'
reading_tellable : (source : Source) (input : List ℕ) (r : Refusal) → reading_refusal source input ≡ Some r → Tellable source r
reading_tellable Source.Sheet input r = by_sheet (read_sheet input)
  where
    by_sheet : (k : Sheet) → record_refusal k ≡ Some r → Tellable Source.Sheet r
    by_sheet no_header e = let f : NoHeader ≡ r = cc in subst (Tellable Source.Sheet) f (record { named = λ i g. impossible cc; worded = λ g. impossible cc })
    by_sheet (wrong l) e =
        let f : BadRecord l ≡ r = cc in
        subst (Tellable Source.Sheet) f (record { named = λ i g. impossible cc; worded = record_worded Source.Sheet l })
    by_sheet (tasks []) e = let f : NoRecord ≡ r = cc in subst (Tellable Source.Sheet) f (record { named = λ i g. impossible cc; worded = λ g. impossible cc })
    by_sheet (tasks (w ∷ ws)) e = impossible cc
reading_tellable Source.Text input r = by_set (read_set input)
  where
    by_set : (k : Lines) → line_refusal k ≡ Some r → Tellable Source.Text r
    by_set (took ws rest) e = impossible cc
    by_set (stop l) e = let f : BadLine l ≡ r = cc in subst (Tellable Source.Text) f (record { named = λ i g. impossible cc; worded = λ g. impossible cc })

-- an input that is read has four words a task
pub words_fours : (source : Source) (input : List ℕ) → reading_refusal source input ≡ None → Fours (words_in source input)
words_fours Source.Sheet input e = sheet_words_fours input e
words_fours Source.Text input e = set_fours input e

-- and its table's refusal is a word's
table_tellable : (source : Source) (ws : List ℕ) (r : Refusal) → Fours ws → table_refusal ws ≡ Some r → Tellable source r
table_tellable source ws r four e = by_case r ((table_says ws (Some r)).0 e)
  where
    by_case : (r : Refusal) → TableSays ws (Some r) → Tellable source r
    by_case r (TableSays.no_word a) = absurd (omega (arith, four.some_word))
    by_case r (TableSays.not_fours a b) = absurd (b (omega (arith, four.fours)))
    by_case r (TableSays.too_many a b c) = absurd (omega (arith, four.few))
    by_case r (TableSays.out_of_range_law {i = i} a b c first) =
        record { named = λ k g. let same : k ≡ i = cc in omega (arith, first.known, same); worded = range_worded source i }

-- so is any that is told
pub tellable : (source : Source) (input : List ℕ) (r : Refusal) → refusal_of source input ≡ Some r → Tellable source r
tellable source input r = by_reading (reading_refusal source input) refl
  where
    by_reading : (o : Option Refusal) → reading_refusal source input ≡ o → first_of (o ∷ table_refusal (words_in source input) ∷ []) ≡ Some r → Tellable source r
    by_reading (Some s) e f = reading_tellable source input r (e ∙ f)
    by_reading None e f = table_tellable source (words_in source input) r (words_fours source input e) (sym (alone (table_refusal (words_in source input))) ∙ f)
