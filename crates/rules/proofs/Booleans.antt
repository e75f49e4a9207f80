-- Tests joined by "and", read and made; the choice by a test; of two numbers one order or the other.
use Rattle.std.specs.Prelude.{if◌then◌else◌}
use mathlib.Core.Path.{◌≡◌, refl}
use mathlib.Core.Logic.{◌⊎◌, inl, inr}
use Prim.Native.Nat.{ℕ, ◌≤◌, ◌<◌}
use native.Mathlib.Nat.{lt_of_not-le}
use native.Mathlib.Decide.{dec_le}
use native.Mathlib.Omega.{arith}
use mathlib.Core.Bool.{Bool, true, false, ◌&&◌}
use lib.Dec.{leb, ltb}
use borrow.Author.Tests.{le-leb, ltb-false}

-- an equation of two constructors, of which `cc` makes this one, shows anything
pub impossible : {A : Type 0} → ◌≡◌ {A = ℕ} 0 1 → A
impossible e = absurd (omega arith)

pub true_is_not_false : {A : Type 0} → ◌≡◌ {A = Bool} true false → A
true_is_not_false e = impossible cc

pub both_false : (a b : Bool) → a && b ≡ false → a ≡ true → b ≡ true → ⊥
both_false a b e p q = true_is_not_false (rw (p, q) at e)

-- what holds of two holds of the one that a test chooses
pub chosen : {X : Type 0} (P : X → Type 0) (t : Bool) {x y : X} → P x → P y → P (if t then x else y)
chosen P true p q = p
chosen P false p q = q

-- of two numbers, by the tests
pub lt_or_ge : (a b : ℕ) → (ltb a b ≡ true) ⊎ (leb b a ≡ true)
lt_or_ge a b = go (ltb a b) refl
  where
    go : (t : Bool) → ltb a b ≡ t → (ltb a b ≡ true) ⊎ (leb b a ≡ true)
    go true e = inl e
    go false e = inr (le-leb b a (ltb-false a b e))

-- and by the order itself
pub split {ℓ} : {X : Type ℓ} (a b : ℕ) → (a ≤ b → X) → (b < a → X) → X
split a b f g = elim (dec_le a b) [ yes h ↦ f h | no h ↦ g (lt_of_not-le h) ]
