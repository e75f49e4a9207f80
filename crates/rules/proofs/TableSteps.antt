-- A table judged step by step: the range of a word, the words one by one, the length.
use mathlib.Core.Path.{◌≡◌, refl, ap}
use Prim.Native.Nat.{ℕ, ◌+◌, ◌%◌, ◌≤◌, ◌<◌}
use native.Mathlib.Numerals.{add-one}
use mathlib.Core.List.{List, [], ◌∷◌}
use mathlib.Core.Bool.{Bool, true, false, not}
use lib.ListN.{length}
use borrow.Author.Tests.{le-leb, lt-leb, eq-eqb, ne_eqb, lt-ltb, le-ltb}
use Rattle.rules.specs.Numbers.{table_most, word_most}
use Rattle.rules.specs.Refusals.{answering}
use Rattle.rules.specs.Table.{word_least, in_range, out_of_range, table_refusal, table_answer}
use Rattle.rules.specs.declared.Refusal.{Refusal}
use Rattle.rules.specs.declared.Refusal.TheVariants.{NoWord, NotFours, TooManyWords, OutOfRange}
use Rattle.rules.proofs.Calls.{alone}
use Rattle.std.specs.Prelude.{Option, Ok, Err}
use Rattle.std.specs.List.{enumerate_from, position_from}
use Rattle.std.specs.Option.{option_map}

-- the least value of a word: of R, and of C, D and T
module _ (i : ℕ) where
  pub least_r : i % 4 ≡ 3 → word_least i ≡ 0
  unfolding word_least
  least_r h = rw (eq-eqb (i % 4) 3 h)

  pub least_other : (i % 4 ≡ 3 → ⊥) → word_least i ≡ 1
  unfolding word_least
  least_other h = rw (ne_eqb (i % 4) 3 h)

-- a word below its range, above it, and in it
module _ (i x : ℕ) where
  pub too_low : x < word_least i → in_range i x ≡ false
  unfolding in_range
  too_low h = rw (lt-leb (word_least i) x h)

  pub too_high : word_least i ≤ x → word_most < x → in_range i x ≡ false
  unfolding in_range
  too_high l h = rw (le-leb (word_least i) x l, lt-leb x word_most h)

  pub in_between : word_least i ≤ x → x ≤ word_most → in_range i x ≡ true
  unfolding in_range
  in_between l h = rw (le-leb (word_least i) x l, le-leb x word_most h)

-- a word, with its index, is out of its range
abbrev pub is_out : ℕ × ℕ → Bool
is_out p = not (in_range p.0 p.1)

-- the words from index i on: the first that is out of its range
pub first_out : (i : ℕ) (w : List ℕ) → out_of_range i w ≡ option_map OutOfRange (position_from is_out i (enumerate_from i w))
unfolding out_of_range
first_out i [] = refl
first_out i (x ∷ w) = go (in_range i x) refl (first_out (i + 1) w)
  where
    go : (b : Bool) → in_range i x ≡ b
        → out_of_range (i + 1) w ≡ option_map OutOfRange (position_from is_out (i + 1) (enumerate_from (i + 1) w))
        → out_of_range i (x ∷ w) ≡ option_map OutOfRange (position_from is_out i (enumerate_from i (x ∷ w)))
    go true e later = rw (e, ← add-one i) later
    go false e later = rw e

-- refusals 1, 2 and 3 by the table's length, each in its turn; else the words decide
module _ (w : List ℕ) where
  pub no_word : length w ≡ 0 → table_answer w ≡ Err NoWord
  unfolding table_answer table_refusal
  no_word e = rw (eq-eqb (length w) 0 e)

  module _ (n : length w ≡ 0 → ⊥) where
    pub not_fours : (length w % 4 ≡ 0 → ⊥) → table_answer w ≡ Err NotFours
    unfolding table_answer table_refusal
    not_fours h = rw (ne_eqb (length w) 0 n, ne_eqb (length w % 4) 0 h)

    module _ (f : length w % 4 ≡ 0) where
      pub too_many : table_most < length w → table_answer w ≡ Err TooManyWords
      unfolding table_answer table_refusal
      too_many h = rw (ne_eqb (length w) 0 n, eq-eqb (length w % 4) 0 f, lt-ltb table_most (length w) h)

      pub by_words : length w ≤ table_most → table_answer w ≡ answering (out_of_range 0 w) Err (Ok tt)
      unfolding table_answer table_refusal
      by_words h =
          rw (ne_eqb (length w) 0 n, eq-eqb (length w % 4) 0 f, le-ltb table_most (length w) h)
          (ap (λ (o : Option Refusal). answering o Err (Ok (tt {0}))) (alone (out_of_range 0 w)))
