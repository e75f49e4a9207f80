-- One set's text: a set drawn is a table with a text of at most 264 bytes, so that neither its draw into a table with room for eight tasks nor its
-- text is ever refused, and the text that is written is the one of the set.
use mathlib.Core.Path.{◌≡◌, sym, ap, ◌∙◌}
use Prim.Native.Nat.{ℕ, ◌*◌, ◌≤◌}
use native.Mathlib.Omega.{arith}
use mathlib.Core.List.{List, ◌++◌}
use lib.ListN.{length, take, drop}
use Rattle.rules.specs.Text.{write_set}
use Rattle.rules.specs.Generator.{count_drawn, words_drawn, DrawsSet}
use Rattle.rules.specs.Calls.{Writes}
use Rattle.rules.proofs.Calls.{write_made}
use Rattle.rules.proofs.Drawn.{count_high}
use Rattle.rules.proofs.DrawnFine.{drawn_fine}
use Rattle.rules.proofs.DrawnTexts.{text_length, draw_answers, draw_moves, draw_words}
use Rattle.texts.specs.Texts.{text_most, PutsSet}
use Rattle.std.specs.Prelude.{Result, Ok}
use Rattle.rules.specs.declared.Refusal.{Refusal}

module _ {s number : ℕ} {table : List ℕ} {drawn : Result ℕ Refusal} {after : ℕ} {words : List ℕ} (room : 32 ≤ length table)
    (draws : DrawsSet s number table drawn after words) {n : ℕ} (e : drawn ≡ Ok n) where
  -- the count that was answered
  count_is : n ≡ count_drawn s
  count_is = let f = sym e ∙ draw_answers room draws in cc

  pub words_few : 4 * n ≤ 32
  words_few = omega (arith, count_is, count_high s)

  module _ {out : List ℕ} {written : Result ℕ Refusal} {exit : List ℕ} (fits : text_most ≤ length out) (writes : Writes (take (4 * n) words) out written exit) where
    abbrev text : List ℕ
    text = write_set (words_drawn number s)

    -- the words that were handed on are those of the set
    set_written : Writes (words_drawn number s) out written exit
    set_written = rw (draw_words room draws (4 * n) (ap (λ (k : ℕ). 4 * k) count_is)) at writes

    due : Writes (words_drawn number s) out (Ok (length text)) (text ++ drop (length text) out)
    due = write_made (words_drawn number s) out (drawn_fine number s) (omega (arith, text_length number s))

    pub write_answers : written ≡ Ok (length text)
    write_answers = set_written.says ∙ sym due.says

    pub set_put : {size : ℕ} → written ≡ Ok size → PutsSet s number out size after exit
    set_put f =
        let g = sym f ∙ write_answers in
        record { says = cc; moves = draw_moves room draws; leaves = set_written.leaves ∙ sym due.leaves }
