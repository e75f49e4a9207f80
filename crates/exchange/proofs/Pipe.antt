-- What the program makes goes on: the text of a sheet is read as the sheet's words, and the sheet of a text gives the bytes of its first set back. Only
-- a table that is not refused is written, and what is written of one is read back.
use Rattle.std.specs.Prelude.{if◌then◌else◌}
use mathlib.Core.Path.{◌≡◌, refl, sym, ap, ◌∙◌}
use native.Mathlib.Omega.{arith}
use mathlib.Core.List.{List, [], ◌∷◌, append-nil}
use mathlib.Core.Bool.{Bool, true, false}
use Prim.Native.Nat.{ℕ, ◌<◌}
use lib.Dec.{ltb}
use lib.ListN.{length}
use Rattle.rules.specs.Numbers.{input_most}
use Rattle.rules.specs.Refusals.{first_of, answering}
use Rattle.rules.specs.Table.{table_refusal}
use Rattle.rules.specs.Text.{Lines, read_set, words_read, write_set}
use Rattle.rules.specs.Sheet.{Sheet, tasks, read_sheet, sheet_words, write_sheet}
use Rattle.rules.specs.Answers.{record_refusal}
use Rattle.rules.specs.declared.Refusal.{Refusal}
use Rattle.rules.proofs.Booleans.{impossible}
use Rattle.rules.proofs.Tables.{valid_of}
use Rattle.rules.proofs.SetTrips.{write_then_read, set_back}
use Rattle.rules.proofs.SheetTrips.{sheet_then_table}
use Rattle.rules.proofs.TextLengths.{sheet_most}
use Rattle.exchange.specs.Exchange.{reading_refusal, words_in, written, refusal_of, made, told, exchanged, Piped, ThereAndBack}
use Rattle.wording.specs.declared.Source.{Source}
use Rattle.wording.specs.Wording.{sentence, too_long}
use Rattle.exchange.proofs.Becomes.{is_made}
use Rattle.std.specs.Prelude.{Option, Some, None}

-- what was made is written of the input's words, a table that is not refused
was_made : (source : Source) (input vs : List ℕ) → exchanged source input ≡ made vs
    → (table_refusal (words_in source input) ≡ None) × (vs ≡ written source (words_in source input))
unfolding exchanged
was_made source input vs = by_refusals (ltb input_most (length input)) (reading_refusal source input) (table_refusal (words_in source input)) refl
  where
    by_refusals : (long : Bool) (o p : Option Refusal) → table_refusal (words_in source input) ≡ p
        → (if long then told too_long else answering (first_of (o ∷ p ∷ [])) (λ r. told (sentence source r)) (made (written source (words_in source input)))) ≡ made vs
        → (table_refusal (words_in source input) ≡ None) × (vs ≡ written source (words_in source input))
    by_refusals true o p e f = impossible cc
    by_refusals false (Some r) p e f = impossible cc
    by_refusals false None (Some r) e f = impossible cc
    by_refusals false None None e f = (e, cc)

pub piped : Piped
piped sheet text e =
    let words = sheet_words (read_sheet sheet) in
    let m = was_made Source.Sheet sheet text e in
    ap read_set (m.1 ∙ sym (append-nil (write_set words))) ∙ write_then_read words [] m.0

-- a sheet with words is not refused
some_tasks : (ws : List ℕ) → 0 < length ws → record_refusal (tasks ws) ≡ None
some_tasks [] h = absurd (omega arith)
some_tasks (w ∷ ws) h = refl

pub there_and_back : ThereAndBack
there_and_back text sheet words rest e f =
    let m = was_made Source.Text text sheet f in
    let fine : table_refusal words ≡ None = ap (λ (k : Lines). table_refusal (words_read k)) (sym e) ∙ m.0 in
    let is : sheet ≡ write_sheet words = m.1 ∙ ap (λ (k : Lines). write_sheet (words_read k)) e in
    let read : read_sheet sheet ≡ tasks words = ap read_sheet is ∙ sheet_then_table words fine in
    let unrefused : refusal_of Source.Sheet sheet ≡ None =
    ap (λ (k : Sheet). first_of (record_refusal k ∷ table_refusal (sheet_words k) ∷ [])) read ∙ ap (λ (o : Option Refusal). first_of (o ∷ table_refusal words ∷ [])) (some_tasks words (omega (arith, (valid_of words fine).words, (valid_of words fine).some_task))) ∙ ap (λ (o : Option Refusal). first_of (o ∷ [])) fine
    in (
      write_set words,
      sym (is_made Source.Sheet sheet (omega (arith, ap length is, sheet_most words fine)) unrefused)
          ∙ ap (λ (k : Sheet). made (write_set (sheet_words k))) read,
      sym (set_back text words rest e).text,
    )
