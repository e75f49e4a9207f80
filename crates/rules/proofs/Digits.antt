-- The decimal digits of a number.
use mathlib.Core.Path.{◌≡◌, refl, sym, ap, ◌∙◌}
use Prim.Native.Nat.{ℕ, zero, suc, ◌+◌, ◌/◌, ◌%◌, ◌^◌, ◌≤◌, ◌<◌}
use native.Mathlib.Decide.{dec_lt}
use native.Mathlib.Numerals.{add-one}
use native.Mathlib.Omega.{arith}
use mathlib.Core.List.{List, [], ◌∷◌, ◌++◌}
use lib.ListN.{length, length-append}
use borrow.Author.Tests.{lt-ltb, le-ltb}
use Rattle.rules.specs.Text.{digits_within, digits}

one_more : (l : List ℕ) (x : ℕ) → length (l ++ (x ∷ [])) ≡ suc (length l)
one_more l x = length-append l (x ∷ []) ∙ add-one (length l)

within_one : (f v : ℕ) → v < 10 → digits_within (suc f) v ≡ (48 + v) ∷ []
unfolding digits_within
within_one f v h = rw (lt-ltb v 10 h)

within_more : (f v : ℕ) → 10 ≤ v → digits_within (suc f) v ≡ digits_within f (v / 10) ++ ((48 + v % 10) ∷ [])
unfolding digits_within
within_more f v h = rw (le-ltb v 10 h)

-- room for one more digit changes nothing
within_enough : (f v : ℕ) → v < 10 ^ suc f → digits_within (suc f) v ≡ digits_within (suc (suc f)) v
within_enough zero v h = within_one 0 v h ∙ sym (within_one 1 v h)
within_enough (suc f) v h = choose (dec_lt v 10) (within_enough f (v / 10) (omega arith))
  where
    choose : Dec (v < 10) → digits_within (suc f) (v / 10) ≡ digits_within (suc (suc f)) (v / 10) → digits_within (suc (suc f)) v ≡ digits_within (suc (suc (suc f))) v
    choose (yes a) ih = within_one (suc f) v a ∙ sym (within_one (suc (suc f)) v a)
    choose (no a) ih =
        let h : 10 ≤ v = omega arith in
        within_more (suc f) v h ∙ ap (λ (l : List ℕ). l ++ ((48 + v % 10) ∷ [])) ih ∙ sym (within_more (suc (suc f)) v h)

within_most : (f v : ℕ) → length (digits_within f v) ≤ f
unfolding digits_within
within_most zero v = omega arith
within_most (suc f) v = choose (dec_lt v 10) (within_most f (v / 10))
  where
    choose : Dec (v < 10) → length (digits_within f (v / 10)) ≤ f → length (digits_within (suc f) v) ≤ suc f
    choose (yes a) ih = rw (within_one f v a) (omega arith)
    choose (no a) ih = let e = within_more f v (omega arith) in rw (e, one_more (digits_within f (v / 10)) (48 + v % 10)) (omega arith)

-- the last k digits of v
unfoldable pub lasts : ℕ → ℕ → List ℕ
lasts zero v = []
lasts (suc k) v = lasts k (v / 10) ++ ((48 + v % 10) ∷ [])

-- none of them; and one more
pub lasts_none : (v : ℕ) → lasts 0 v ≡ []
unfolding lasts
lasts_none v = refl

pub lasts_more : (k v : ℕ) → lasts (suc k) v ≡ lasts k (v / 10) ++ ((48 + v % 10) ∷ [])
unfolding lasts
lasts_more k v = refl

lasts_one : (v : ℕ) → v < 10 → (48 + v) ∷ [] ≡ lasts 1 v
unfolding lasts
lasts_one v h = let e : v ≡ v % 10 = omega arith in ap (λ (x : ℕ). (48 + x) ∷ []) e

pub lasts_length : (k v : ℕ) → length (lasts k v) ≡ k
unfolding lasts
lasts_length zero v = refl
lasts_length (suc k) v = one_more (lasts k (v / 10)) (48 + v % 10) ∙ ap suc (lasts_length k (v / 10))

within_lasts : (f v : ℕ) → v < 10 ^ suc f → digits_within (suc f) v ≡ lasts (length (digits_within (suc f) v)) v
unfolding lasts
within_lasts zero v h = rw (within_one 0 v h) (lasts_one v h)
within_lasts (suc f) v h = choose (dec_lt v 10) (within_lasts f (v / 10) (omega arith))
  where
    choose : Dec (v < 10) → digits_within (suc f) (v / 10) ≡ lasts (length (digits_within (suc f) (v / 10))) (v / 10)
        → digits_within (suc (suc f)) v ≡ lasts (length (digits_within (suc (suc f)) v)) v
    choose (yes a) ih = rw (within_one (suc f) v a) (lasts_one v a)
    choose (no a) ih =
        let e = within_more (suc f) v (omega arith) in
        rw (e, one_more (digits_within (suc f) (v / 10)) (48 + v % 10)) (ap (λ (l : List ℕ). l ++ ((48 + v % 10) ∷ [])) ih)

module _ (v : ℕ) where
  pub digits_one : v < 10 → digits v ≡ (48 + v) ∷ []
  unfolding digits
  digits_one h = within_one 9 v h

  pub digits_more : 10 ≤ v → v < 10 ^ 10 → digits v ≡ digits (v / 10) ++ ((48 + v % 10) ∷ [])
  unfolding digits
  digits_more h l = within_more 9 v h ∙ ap (λ (l : List ℕ). l ++ ((48 + v % 10) ∷ [])) (within_enough 8 (v / 10) (omega arith))

  pub digits_most : length (digits v) ≤ 10
  unfolding digits
  digits_most = within_most 10 v

  pub width_one : v < 10 → length (digits v) ≡ 1
  width_one h = ap length (digits_one h)

  pub width_more : 10 ≤ v → v < 10 ^ 10 → length (digits v) ≡ suc (length (digits (v / 10)))
  width_more h l = ap length (digits_more h l) ∙ one_more (digits (v / 10)) (48 + v % 10)

  -- there is one at least
  pub digits_least : 1 ≤ length (digits v)
  unfolding digits
  digits_least =
      elim (dec_lt v 10) [
        | yes a ↦ omega (arith, ap length (within_one 9 v a))
        | no a ↦ omega (arith, ap length (within_more 9 v (omega arith)), one_more (digits_within 9 (v / 10)) (48 + v % 10))
      ]

  pub digits_lasts : v < 10 ^ 10 → digits v ≡ lasts (length (digits v)) v
  unfolding digits
  digits_lasts l = within_lasts 9 v l
