-- How many digits a number has, by the powers of ten up to it.
use mathlib.Core.Path.{◌≡◌, sym, ap, ◌∙◌}
use Prim.Native.Nat.{ℕ, zero, suc, ◌+◌, ◌*◌, ◌/◌, ◌^◌, ◌≤◌, ◌<◌}
use native.Mathlib.Decide.{dec_lt}
use native.Mathlib.Omega.{arith}
use mathlib.Core.List.{List, [], ◌∷◌}
use mathlib.Core.Bool.{not, cond}
use lib.Dec.{ltb}
use lib.ListN.{length}
use borrow.Author.Tests.{lt-ltb, le-ltb}
use Rattle.std.proofs.Math.Nat.{pow-succ'}
use Rattle.std.proofs.lemmas.List.Sums.{prefix_len-le-length}
use Rattle.std.specs.List.{position_or_len}
use Rattle.std.specs.Option.{unwrap_or}
use Rattle.std.specs.Prelude.{Option, Some, None}
use Rattle.rules.specs.Text.{digits}
use Rattle.rules.proofs.Digits.{width_one, width_more}

-- the same power one tenth down
low_tenth : (p v : ℕ) → 10 * p ≤ v → p ≤ v / 10
low_tenth p v h = omega arith

high_tenth : (p v : ℕ) → v < 10 * (10 * p) → v / 10 < 10 * p
high_tenth p v h = omega arith

width_log : (k v : ℕ) → v < 10 ^ 10 → 10 ^ k ≤ v → v < 10 * 10 ^ k → length (digits v) ≡ suc k
width_log zero v l low high = width_one v (omega arith)
width_log (suc k) v l low high =
    let power = pow-succ' 10 k in
    let low_next : 10 ^ k ≤ v / 10 = low_tenth (10 ^ k) v (rw power at low) in
    let high_next : v / 10 < 10 * 10 ^ k = high_tenth (10 ^ k) v (rw power at high) in
    width_more v (omega arith) l ∙ ap suc (width_log k (v / 10) (omega arith) low_next high_next)

-- and 0 has one
width_is : (k v : ℕ) → v < 10 ^ 10 → (0 < k → 10 ^ k ≤ v) → v < 10 ^ suc k → length (digits v) ≡ suc k
width_is zero v l low high = width_one v (omega arith)
width_is (suc k) v l low high = width_log (suc k) v l (low (omega arith)) (rw (← pow-succ' 10 (suc k)) high)

-- so many powers of ten, from p on
abbrev powers : ℕ → ℕ → List ℕ
powers zero p = []
powers (suc n) p = p ∷ powers n (10 * p)

-- a number has a digit more than there are powers of ten up to it, from 10 on
passed : (n k v : ℕ) → v < 10 ^ 10 → (0 < k → 10 ^ k ≤ v) → v < 10 ^ (suc k + n) → length (digits v) ≡ suc k + position_or_len (ltb v) (powers n (10 ^ suc k))
passed zero k v l low high =
    let e : suc k + 0 ≡ suc k = omega arith in
    width_is k v l low (rw e at high) ∙ sym e
passed (suc n) k v l low high =
    elim (dec_lt v (10 ^ suc k)) [
      | yes a ↦ (let e : suc k + 0 ≡ suc k = omega arith in rw (lt-ltb v (10 ^ suc k) a) (width_is k v l low a ∙ sym e))
      | no a ↦ (
          let next : 10 ^ suc (suc k) ≡ 10 * 10 ^ suc k = pow-succ' 10 (suc k) in
          let e : suc k + suc n ≡ suc (suc k) + n = omega arith in
          let more = rw next at (passed n (suc k) v l (λ _. omega arith) (rw e at high)) in
          rw (le-ltb v (10 ^ suc k) (omega arith)) (omega arith)
          )
    ]

-- as the library's `position` finds the first that is greater
pub first_above : (xs : List ℕ) (v : ℕ) (r : Option ℕ)
    → xs ≡ 10 ∷ 100 ∷ 1000 ∷ 10000 ∷ 100000 ∷ 1000000 ∷ 10000000 ∷ 100000000 ∷ 1000000000 ∷ [] → v < 10 ^ 10
    → r ≡ cond (ltb (position_or_len (ltb v) xs) (length xs)) (Some (position_or_len (ltb v) xs)) None → unwrap_or r 9 + 1 ≡ length (digits v)
first_above xs v r e l found =
    let m = position_or_len (ltb v) xs in
    let n : length xs ≡ 9 = ap length e in
    let is : length (digits v) ≡ 1 + m = rw e (passed 9 0 v l (λ h. absurd (omega arith)) l) in
    let most = prefix_len-le-length (λ (x : ℕ). not (ltb v x)) xs in
    elim (dec_lt m (length xs)) [
      | yes a ↦ rw (found, lt-ltb m (length xs) a) (omega arith)
      | no a ↦ rw (found, le-ltb m (length xs) (omega arith)) (omega arith)
    ]
