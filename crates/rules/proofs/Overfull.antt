-- A run that has more to do than there is time for has a late row.
use mathlib.Core.Path.{◌≡◌, refl}
use mathlib.Core.Logic.{◌⊎◌, inl, inr}
use Prim.Native.Nat.{ℕ, ◌+◌, ◌≤◌, ◌<◌}
use native.Mathlib.Omega.{arith}
use mathlib.Core.List.Memᴰ
use mathlib.Core.List.{List, ◌∷◌, Memᴰ}
use mathlib.Core.Bool.{Bool, true, false}
use borrow.Author.Tests.{leb-true, ltb-true, lt-ltb, lt-leb}
use lib.Dec.{leb, ltb}
use Rattle.rules.specs.Dispatch.{Job, Row, finish, late, ready}
use Rattle.rules.proofs.Booleans.{lt_or_ge}
use Rattle.rules.proofs.Taken.{taken_mem}
use Rattle.rules.proofs.Picked.{earliest_least}
use Rattle.rules.proofs.Runs.{Run, done, step}
use Rattle.rules.proofs.Loads.{amount, total, total_taken, total_stays, since}

-- some row is late
abbrev pub LateIn : List Row → Type 0
LateIn ws = (w : Row) × Memᴰ w ws × (late w ≡ true)

late_later : {w : Row} {ws : List Row} → LateIn ws → LateIn (w ∷ ws)
late_later x = (x.0, Memᴰ.tail x.1, x.2)

-- the jobs that pass p are all due by X, and there is more of them to do than fits before X
pub late_run : (p : Job → Bool) (X : ℕ) {t : ℕ} {js : List Job} {ws : List Row} → Run t js ws
    → ((j : Job) → Memᴰ j js → p j ≡ true → j.deadline ≤ X) → 1 ≤ total p js → X < t + total p js → LateIn ws
unfolding total amount late finish ready
late_run p X done by some more = absurd (omega arith)
late_run p X {t} (step {i = i} {j = j} {js = is} {ks = ks} {ws = us} s e P k r) by some more =
    go (p j) refl (total_taken p k) (lt_or_ge X (s + j.run)) (λ a b. late_run p X r (λ i m. by i (taken_mem k i m)) a b)
  where
    after : t ≤ s
    after = omega arith

    go : (c : Bool) → p j ≡ c → total p (i ∷ is) ≡ amount c j + total p ks
        → (ltb X (s + j.run) ≡ true) ⊎ (leb (s + j.run) X ≡ true)
        → (1 ≤ total p ks → X < s + j.run + total p ks → LateIn us) → LateIn (record { job = j; start = s } ∷ us)
    go false c e o ih = late_later (ih (omega arith) (omega (arith, after)))
    go true c e (inr o) ih = let le : s + j.run ≤ X = leb-true _ _ o in late_later (ih (omega (arith, after)) (omega (arith, after)))
    go true c e (inl o) ih =
        let d = by j P.mem c in
        (record { job = j; start = s }, Memᴰ.head refl, lt-ltb j.deadline (s + j.run) (omega (arith, ltb-true)))

-- one job is released at 0, and any such runs for c; those released later are all due by X, and there is more of them to do than fits after it
pub late_behind : (X c : ℕ) {js : List Job} {ws : List Row} → Run 0 js ws → (b : Job) → Memᴰ b js → b.release ≡ 0
    → ((j : Job) → Memᴰ j js → j.release ≡ 0 → j.run ≡ c)
    → ((j : Job) → Memᴰ j js → since 1 j ≡ true → j.deadline ≤ X)
    → 1 ≤ total (since 1) js → X < c + total (since 1) js → LateIn ws
unfolding since ready
late_behind X c done b m z full by some more = absurd (Memᴰ.not-nil m)
late_behind X c (step {i = i} {j = j} {js = is} {ks = ks} s e P k r) b m z full by some more =
    let h = earliest_least i is b m in
    let f = full j P.mem (omega arith) in
    let t = total_stays (since 1) k (lt-leb 1 j.release (omega arith)) in
    late_later (late_run (since 1) X r (λ x n. by x (taken_mem k x n)) (omega arith) (omega arith))
