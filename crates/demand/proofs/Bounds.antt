-- That one task's part of a sum fits, and a quotient rounded up.
use mathlib.Core.Path.{◌≡◌}
use mathlib.Core.Logic.{⊎_elim}
use Prim.Native.Nat.{ℕ, ◌+◌, ◌-◌, ◌*◌, ◌/◌, ◌%◌, ◌^◌, ◌≤◌, ◌<◌}
use native.Mathlib.Nat.{mul-le-mul, add-mul}
use native.Mathlib.Omega.{arith}
use borrow.Author.Tests.{ltb-true, leb-true}
use Rattle.std.specs.Int.{div_ceil}
use Rattle.std.proofs.lemmas.Nat.{div-add-mod', div-mul-add}
use Rattle.rules.specs.Numbers.{word_most}
use Rattle.rules.proofs.Booleans.{lt_or_ge}

-- C times a number of at most 33 bits
pub times_small : (c n : ℕ) → c ≤ word_most → n ≤ 2 ^ 33 → c * n ≤ 2 ^ 49
times_small c n h k = omega (arith, mul-le-mul {n₁ = c} {m₁ = n} {n₂ = word_most} {m₂ = 2 ^ 33} h k)

-- a quotient rounded up, as std has it and as document 01 does
pub rounded_up : (t T : ℕ) → 0 < T → div_ceil t T ≡ (t + T - 1) / T
rounded_up t T h =
    ⊎_elim
    (λ a.
    let more = ltb-true 0 (t % T) a in
    let above : t + T - 1 ≡ (t / T + 1) * T + (t % T - 1) = omega (arith, div-add-mod' t T, add-mul (t / T) 1 T) in
    rw (above, div-mul-add (t / T + 1) T (t % T - 1) (omega arith)) (omega arith))
    (λ a.
    let none = leb-true (t % T) 0 a in
    let even : t + T - 1 ≡ t / T * T + (T - 1) = omega (arith, div-add-mod' t T) in
    rw (even, div-mul-add (t / T) T (T - 1) (omega arith)) (omega arith))
    (lt_or_ge 0 (t % T))
