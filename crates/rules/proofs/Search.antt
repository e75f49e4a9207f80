-- What `least` finds: it passes, it lies in the range, and nothing before it passes; and back.
use mathlib.Core.Path.{◌≡◌, refl, sym, ap, ◌∙◌}
use Prim.Native.Nat.{ℕ, zero, suc, ◌+◌, ◌≤◌, ◌<◌}
use native.Mathlib.Omega.{arith}
use mathlib.Core.Bool.{Bool, true, false}
use lib.Dec.{eqb}
use borrow.Author.Tests.{eqb-true, eqb-false}
use Rattle.rules.specs.Choice.{least}
use Rattle.rules.proofs.Booleans.{true_is_not_false}
use Rattle.std.specs.Prelude.{Some, None}

-- none of the numbers from k up to below e passes
abbrev pub NonePasses : (ℕ → Bool) → ℕ → ℕ → Type 0
NonePasses p k e = (y : ℕ) → k ≤ y → y < e → p y ≡ false

-- x passes, lies among the n numbers from k on, and none of them before it passes
pub record Least (p : ℕ → Bool) (n k x : ℕ) : Type 0 where
  pub passes : p x ≡ true
  pub low : k ≤ x
  pub high : x < k + n
  pub none_before : NonePasses p k x

-- y is k, or lies further on
at_or_on : {P : Type 0} (k y : ℕ) → k ≤ y → (y ≡ k → P) → (suc k ≤ y → P) → P
at_or_on {P} k y h f g = go (eqb y k) refl
  where
    go : (b : Bool) → eqb y k ≡ b → P
    go true e = f (eqb-true y k e)
    go false e = g (let n = eqb-false y k e in omega arith)

module _ (p : ℕ → Bool) where
  -- one that does not pass, before those further on
  pub none_more : (k e : ℕ) → p k ≡ false → NonePasses p (suc k) e → NonePasses p k e
  none_more k e q later y a b = at_or_on k y a (λ i. rw i q) (λ i. later y i b)

  -- and after those before it
  pub none_until : (k e : ℕ) → NonePasses p k e → p e ≡ false → NonePasses p k (e + 1)
  none_until k e before q y a b = at_or_on y e (omega arith) (λ i. rw (← i) q) (λ i. before y a i)

  here : (n k : ℕ) → p k ≡ true → least p (suc n) k ≡ Some k
  unfolding least
  here n k q = rw q

  later : (n k : ℕ) → p k ≡ false → least p (suc n) k ≡ least p n (suc k)
  unfolding least
  later n k q = rw q

  -- what was found is the least that passes
  pub found : (n k x : ℕ) → least p n k ≡ Some x → Least p n k x
  unfolding least
  found zero k x e = let z : ◌≡◌ {A = ℕ} 0 1 = cc in absurd (omega arith)
  found (suc n) k x e = go (p k) refl (found n (suc k) x)
    where
      go : (b : Bool) → p k ≡ b → (least p n (suc k) ≡ Some x → Least p n (suc k) x) → Least p (suc n) k x
      go true q ih =
          let i : k ≡ x = cc (here n k q) in
          rw (← i) (record { passes = q; low = omega arith; high = omega arith; none_before = λ y a b. absurd (omega arith) })
      go false q ih =
          let f = ih (sym (later n k q) ∙ e) in
          record { passes = f.passes; low = omega arith; high = omega arith; none_before = none_more k x q f.none_before }

  -- and the least that passes is found
  pub finds : (n k x : ℕ) → Least p n k x → least p n k ≡ Some x
  finds zero k x f = absurd (omega arith)
  finds (suc n) k x f = go (p k) refl (finds n (suc k) x)
    where
      go : (b : Bool) → p k ≡ b → (Least p n (suc k) x → least p n (suc k) ≡ Some x) → least p (suc n) k ≡ Some x
      go true q ih =
          at_or_on k x f.low (λ i. here n k q ∙ ap Some (sym i))
          (λ i. true_is_not_false (sym q ∙ f.none_before k (omega arith) i))
      go false q ih =
          at_or_on k x f.low (λ i. true_is_not_false (sym f.passes ∙ ap p i ∙ q))
          (λ i. later n k q ∙ ih (record { passes = f.passes; low = i; high = omega arith; none_before = λ y a b. f.none_before y (omega arith) b }))

  -- where none was found, none passes
  pub none_found : (n k : ℕ) → least p n k ≡ None → NonePasses p k (k + n)
  none_found zero k e = λ y a b. absurd (omega arith)
  none_found (suc n) k e = go (p k) refl (none_found n (suc k))
    where
      go : (b : Bool) → p k ≡ b → (least p n (suc k) ≡ None → NonePasses p (suc k) (suc k + n)) → NonePasses p k (k + suc n)
      go true q ih = let z : ◌≡◌ {A = ℕ} 0 1 = cc (here n k q) in absurd (omega arith)
      go false q ih = none_more k (k + suc n) q (λ y a b. ih (sym (later n k q) ∙ e) y a (omega arith))

  -- and where none passes, none is found
  pub finds_none : (n k : ℕ) → NonePasses p k (k + n) → least p n k ≡ None
  unfolding least
  finds_none zero k h = refl
  finds_none (suc n) k h = later n k (h k (omega arith) (omega arith)) ∙ finds_none n (suc k) (λ y a b. h y (omega arith) (omega arith))
