-- Sets drawn one after another and their texts: how long one can be, how code makes them, that the check reads them in turn, and that they can be made
-- in pieces.
use mathlib.Core.Path.{◌≡◌, refl, sym, ap, ◌∙◌}
use Prim.Native.Nat.{ℕ, zero, suc, ◌+◌, ◌*◌, ◌/◌, ◌≤◌}
use native.Mathlib.Nat.{zero-add, add-zero}
use native.Mathlib.Omega.{arith}
use mathlib.Core.List.{List, [], ◌++◌, append_assoc}
use lib.ListN.{length, take, drop}
use lib.Seq.{take_at}
use Rattle.rules.specs.Text.{took, read_set, write_set}
use Rattle.rules.specs.Generator.{count_drawn, words_drawn, state_after_set, state_after_sets, DrawsSet, generated}
use Rattle.rules.proofs.Digits.{width_one}
use Rattle.rules.proofs.SetTrips.{write_then_read}
use Rattle.rules.proofs.TextLengths.{text_high}
use Rattle.rules.proofs.Drawn.{count_high, length_words_drawn, set_given}
use Rattle.rules.proofs.DrawnFine.{drawn_fine}
use Rattle.std.specs.Prelude.{Result, Ok}
use Rattle.rules.specs.declared.Refusal.{Refusal}

-- the text of a set drawn: its first line has 8 bytes, and there are at most 32 others
pub text_length : (number s : ℕ) → length (write_set (words_drawn number s)) ≤ 264
text_length number s =
    let ws = words_drawn number s in
    let few = count_high s in
    let words = length_words_drawn number s in
    omega (arith, text_high ws (drawn_fine number s), width_one (length ws / 4) (omega arith))

-- A SET is drawn into a table with room for eight tasks
module _ {s number : ℕ} {table : List ℕ} {answer : Result ℕ Refusal} {after : ℕ} {exit : List ℕ} (room : 32 ≤ length table)
    (draws : DrawsSet s number table answer after exit) where
  given : DrawsSet s number table (Ok (count_drawn s)) (state_after_set s) (words_drawn number s ++ drop (4 * count_drawn s) table)
  given = set_given s number table (omega (arith, count_high s))

  -- it is not refused
  pub draw_answers : answer ≡ Ok (count_drawn s)
  draw_answers = draws.says ∙ sym given.says

  pub draw_moves : after ≡ state_after_set s
  draw_moves = draws.moves ∙ sym given.moves

  -- and its words stand at the start
  pub draw_words : (n : ℕ) → n ≡ 4 * count_drawn s → take n exit ≡ words_drawn number s
  draw_words n e =
      ap (take n) (draws.leaves ∙ sym given.leaves)
      ∙ take_at (words_drawn number s) (drop (4 * count_drawn s) table) n (length_words_drawn number s ∙ sym e)

-- THE STATE AFTER SEVERAL SETS: none
pub sets_none : (s : ℕ) → state_after_sets 0 s ≡ s
unfolding state_after_sets
sets_none s = refl

-- the first, and those after it
pub sets_more : (n s : ℕ) → state_after_sets (suc n) s ≡ state_after_sets n (state_after_set s)
unfolding state_after_sets
sets_more n s = refl

-- some, and others after them
pub sets_after : (m n s : ℕ) → state_after_sets n (state_after_sets m s) ≡ state_after_sets (m + n) s
unfolding state_after_sets
sets_after zero n s = ap (λ (k : ℕ). state_after_sets k s) (sym (zero-add n))
sets_after (suc m) n s =
    let e : suc (m + n) ≡ suc m + n = omega arith in
    sets_after m n (state_after_set s) ∙ ap (λ (k : ℕ). state_after_sets k s) e

-- THE TEXTS
-- no set, no text
pub texts_none : (k s : ℕ) → generated 0 k s ≡ []
unfolding generated
texts_none k s = refl

-- one set more in front
pub texts_more : (n k s : ℕ) → generated (suc n) k s ≡ write_set (words_drawn k s) ++ generated n (suc k) (state_after_set s)
unfolding generated
texts_more n k s = refl

-- the first of them is read, and the others are left
pub read_in_turn : (n k s : ℕ) → read_set (generated (suc n) k s) ≡ took (words_drawn k s) (generated n (suc k) (state_after_set s))
read_in_turn n k s = ap read_set (texts_more n k s) ∙ write_then_read (words_drawn k s) (generated n (suc k) (state_after_set s)) (drawn_fine k s)

-- a piece, and the texts after it
pub in_pieces : (m n k s : ℕ) → generated (m + n) k s ≡ generated m k s ++ generated n (k + m) (state_after_sets m s)
unfolding generated state_after_sets
in_pieces zero n k s = rw (zero-add, add-zero)
in_pieces (suc m) n k s =
    let e : suc m + n ≡ suc (m + n) = omega arith in
    let f : suc k + m ≡ k + suc m = omega arith in
    let text : List ℕ = write_set (words_drawn k s) in
    ap (λ (i : ℕ). generated i k s) e
    ∙ ap (λ (l : List ℕ). text ++ l) (in_pieces m n (suc k) (state_after_set s) ∙ ap (λ (i : ℕ). generated m (suc k) (state_after_set s) ++ generated n i (state_after_sets m (state_after_set s))) f)
    ∙ sym (append_assoc text (generated m (suc k) (state_after_set s)) (generated n (k + suc m) (state_after_sets m (state_after_set s))))
