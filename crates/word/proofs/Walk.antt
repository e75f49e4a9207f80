-- The walk over a word's digits: at each byte the judgement of what is left is that of the whole word. A value that is above the greatest only
-- grows with more digits, and another byte makes the word wrong too, so that the walk may stop there.
use Rattle.std.specs.Prelude.{if◌then◌else◌, Some, None}
use mathlib.Core.Path.{◌≡◌, refl, sym, ◌∙◌}
use Prim.Native.Nat.{ℕ, ◌+◌, ◌-◌, ◌*◌, ◌≤◌, ◌<◌}
use native.Mathlib.Numerals.{add-one}
use native.Mathlib.Omega.{arith}
use mathlib.Core.List.{List, [], ◌∷◌}
use mathlib.Core.Bool.{Bool, true, false}
use lib.ListN.{length, drop, get_or, drop_of_length-le}
use lib.Seq.{drop-cons}
use borrow.Author.Tests.{le-leb, lt-leb}
use Rattle.std.specs.Char.{digit_value, NotDecimalDigitIn, IsDigitOf}
use Rattle.rules.specs.Text.{digit}
use Rattle.rules.proofs.ReadSteps.{first_of, below_digits, above_digits, a_digit}
use Rattle.word.specs.Word.{value_from, judged, number_in}
use Rattle.std.proofs.lemmas.List.{nil_from_length}

-- std's digits are the rules'
pub no_digit : (b : ℕ) {k : ℕ} → k ≡ b → NotDecimalDigitIn 10 k → digit b ≡ false
no_digit b e h = grind (arith, below_digits b, above_digits b)

pub a_digit_read : (b : ℕ) {k d : ℕ} → k ≡ b → (digit_value k < 10) × (d ≡ digit_value k) → IsDigitOf k d → (digit b ≡ true) × (d ≡ b - 48)
a_digit_read b {k} {d} e v h = (a_digit b (grind arith) (grind arith), grind arith)

-- a value above the greatest stays wrong, whatever follows
great : (most v : ℕ) (s : List ℕ) → most < v → judged most (value_from v s) ≡ None
unfolding judged value_from
great most v [] h = rw (lt-leb v most h)
great most v (b ∷ s) h = go (digit b) (great most (v * 10 + (b - 48)) s (omega arith))
  where
    go : (d : Bool) → judged most (value_from (v * 10 + (b - 48)) s) ≡ None → judged most (if d then value_from (v * 10 + (b - 48)) s else None) ≡ None
    go true ih = ih
    go false ih = refl

module _ (word : List ℕ) (most : ℕ) where
  -- the digits before place i make v
  pub record ReadTo (v i : ℕ) : Type 0 where
    pub within : i ≤ length word
    pub small : v ≤ most
    pub same : judged most (value_from v (drop i word)) ≡ number_in word most

  -- a word of no byte
  pub at_none : length word ≡ 0 → None ≡ number_in word most
  unfolding number_in
  at_none e = rw (nil_from_length word e)

  -- the first byte
  pub at_first : 0 < length word → ReadTo 0 0
  unfolding number_in
  at_first h = record { within = omega arith; small = omega arith; same = rw (first_of word h) }

  module _ {v i : ℕ} (read : ReadTo v i) where
    -- no byte is left
    pub at_end : length word ≤ i → Some v ≡ number_in word most
    unfolding judged value_from
    at_end h = sym (rw (drop_of_length-le word h, le-leb v most read.small)) ∙ read.same

    module _ (h : i < length word) where
      open_word : drop i word ≡ get_or word i 0 ∷ drop (i + 1) word
      open_word = rw (add-one, drop-cons word i 0)

      -- a byte that is no digit
      pub at_other : digit (get_or word i 0) ≡ false → None ≡ number_in word most
      unfolding judged value_from
      at_other e = sym (rw (open_word, e)) ∙ read.same

      -- a digit
      module _ (e : digit (get_or word i 0) ≡ true) where
        same_on : judged most (value_from (v * 10 + (get_or word i 0 - 48)) (drop (i + 1) word)) ≡ number_in word most
        unfolding judged value_from
        same_on = sym (rw (open_word, e)) ∙ read.same

        pub at_great : most < v * 10 + (get_or word i 0 - 48) → None ≡ number_in word most
        at_great g = sym (great most (v * 10 + (get_or word i 0 - 48)) (drop (i + 1) word) g) ∙ same_on

        pub at_next : {w : ℕ} → w ≡ v * 10 + (get_or word i 0 - 48) → w ≤ most → ReadTo w (i + 1)
        at_next f g = record { within = omega arith; small = g; same = rw f same_on }
