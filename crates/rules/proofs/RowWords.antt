-- A row's finish, and rows as words, four a row.
use mathlib.Core.Path.{◌≡◌, refl, ap}
use Prim.Native.Nat.{ℕ, ◌*◌, ◌+◌}
use native.Mathlib.Omega.{arith}
use mathlib.Core.List.{List, [], ◌∷◌, ◌++◌}
use lib.ListN.{length}
use Rattle.rules.specs.Dispatch.{Row, finish, row_words}

-- a row finishes its run time after its start
pub finish_is : (w : Row) → finish w ≡ w.start + w.job.run
unfolding finish
finish_is w = refl

pub row_words_append : (ws vs : List Row) → row_words (ws ++ vs) ≡ row_words ws ++ row_words vs
unfolding row_words
row_words_append [] vs = refl
row_words_append (w ∷ ws) vs = ap (λ (l : List ℕ). w.job.task ∷ w.job.number ∷ w.start ∷ finish w ∷ l) (row_words_append ws vs)

pub length_row_words : (ws : List Row) → length (row_words ws) ≡ 4 * length ws
unfolding row_words
length_row_words [] = refl
length_row_words (w ∷ ws) = omega (arith, length_row_words ws)

pub row_words_none : row_words [] ≡ []
unfolding row_words
row_words_none = refl

-- one row: its task, its number, its start and its finish
pub row_words_one : (w : Row) → row_words (w ∷ []) ≡ w.job.task ∷ w.job.number ∷ w.start ∷ (w.start + w.job.run) ∷ []
unfolding row_words finish
row_words_one w = refl
