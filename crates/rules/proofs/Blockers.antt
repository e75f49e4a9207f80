-- The wait and the blocker are those of document 01: the greatest C − 1, and the lowest-numbered task with the greatest C.
use Rattle.std.specs.Prelude.{if◌then◌else◌, Some, None}
use mathlib.Core.Path.{◌≡◌, refl, ap, subst}
use mathlib.Core.Logic.{◌↔◌}
use Prim.Native.Nat.{ℕ, zero, suc, ◌+◌, ◌-◌, ◌≤◌, ◌<◌, max}
use native.Mathlib.Omega.{arith}
use native.Mathlib.Decide.{dec_lt}
use mathlib.Core.List.{List, [], ◌∷◌}
use mathlib.Core.Bool.{Bool, true, false, ◌&&◌}
use lib.Dec.{ltb, eqb}
use lib.ListN.{length}
use borrow.Author.Tests.{ltb-true, ltb-false, lt-ltb, eqb-true, eqb-false}
use Rattle.rules.specs.Task.{task_at}
use Rattle.rules.specs.declared.Task.{Task}
use Rattle.rules.specs.Demand.{wait, longest_wait, first_waiting, blocker, Blocks}

-- Wait(L) is at least C − 1 of each task with D above L
pub wait_most : (L : ℕ) (ts : List Task) (k : ℕ) → k < length ts → L < (task_at ts k).D → (task_at ts k).C - 1 ≤ longest_wait L ts
unfolding longest_wait wait task_at
wait_most L [] k h d = absurd (omega arith)
wait_most L (τ ∷ ts) zero h d = rw (lt-ltb L τ.D d) (omega arith)
wait_most L (τ ∷ ts) (suc k) h d = let ih = wait_most L ts k (omega arith) d in omega arith

-- the first task, from number k on, that has D above L and C − 1 equal to W
record First (W L k : ℕ) (ts : List Task) (b : ℕ) (p : ℕ) : Type 0 where
  place : b ≡ k + p
  known : p < length ts
  above : L < (task_at ts p).D
  reaches : (task_at ts p).C - 1 ≡ W
  lowest : (i : ℕ) → i < p → L < (task_at ts i).D → (task_at ts i).C - 1 ≡ W → ⊥

first_waiting_law : (W L k : ℕ) (ts : List Task) → 0 < W → longest_wait L ts ≡ W → (p : ℕ) × First W L k ts (first_waiting W L k ts) p
unfolding longest_wait wait first_waiting task_at
first_waiting_law W L k [] pos e = absurd (omega arith)
first_waiting_law W L k (τ ∷ ts) pos e = go (ltb L τ.D) refl (eqb (τ.C - 1) W) refl e (first_waiting_law W L (suc k) ts pos)
  where
    later : (L < τ.D → τ.C - 1 ≡ W → ⊥) → (p : ℕ) × First W L (suc k) ts (first_waiting W L (suc k) ts) p
        → (p : ℕ) × First W L k (τ ∷ ts) (first_waiting W L (suc k) ts) p
    later no_head (p, x) = (
      suc p,
      record {
        place = omega arith;
        known = omega arith;
        above = x.above;
        reaches = x.reaches;
        lowest = elim [ zero ↦ λ h. no_head | suc i ↦ λ h. x.lowest i (omega arith) ];
      },
    )

    go : (a : Bool) → ltb L τ.D ≡ a → (c : Bool) → eqb (τ.C - 1) W ≡ c → max (if a then τ.C - 1 else 0) (longest_wait L ts) ≡ W
        → (longest_wait L ts ≡ W → (p : ℕ) × First W L (suc k) ts (first_waiting W L (suc k) ts) p)
        → (p : ℕ) × First W L k (τ ∷ ts) (if a && c then k else first_waiting W L (suc k) ts) p
    go true f true g h ih = (
      0,
      record {
        place = omega arith;
        known = omega arith;
        above = ltb-true L τ.D f;
        reaches = eqb-true (τ.C - 1) W g;
        lowest = λ i l. absurd (omega arith);
      },
    )
    go true f false g h ih = let n = eqb-false (τ.C - 1) W g in later (λ d. n) (ih (omega arith))
    go false f c g h ih = let n = ltb-false L τ.D f in later (λ d. absurd (omega arith)) (ih (omega arith))

-- and it is that of one of them, where it is above 0
pub wait_reached : (L : ℕ) (ts : List Task) → 0 < longest_wait L ts
    → (k : ℕ) × (k < length ts) × (L < (task_at ts k).D) × ((task_at ts k).C - 1 ≡ longest_wait L ts)
wait_reached L ts pos = let (k, x) = first_waiting_law (longest_wait L ts) L 0 ts pos refl in (k, x.known, x.above, x.reaches)

-- there is at most one
blocks_once : (L : ℕ) (ts : List Task) (a b : ℕ) → Blocks L ts a → Blocks L ts b → a ≡ b
blocks_once L ts a b x y = go (dec_lt a b) (dec_lt b a)
  where
    go : Dec (a < b) → Dec (b < a) → a ≡ b
    go (yes l) q = let g = x.greatest b y.known y.above in let m = y.lowest a l x.above in absurd (omega arith)
    go (no l) (yes m) = let g = y.greatest a x.known x.above in let n = x.lowest b m y.above in absurd (omega arith)
    go (no l) (no m) = omega arith

-- where Wait(L) is above 0 it is the first task that reaches it
first_blocks : (L : ℕ) (ts : List Task) → 0 < longest_wait L ts → Blocks L ts (first_waiting (longest_wait L ts) L 0 ts)
first_blocks L ts pos =
    let (p, x) = first_waiting_law (longest_wait L ts) L 0 ts pos refl in
    let e : p ≡ first_waiting (longest_wait L ts) L 0 ts = omega arith in
    subst (Blocks L ts) e (record {
      known = x.known;
      above = x.above;
      greatest = λ k h d. let m = wait_most L ts k h d in omega arith;
      lowest = λ k h d. let m = wait_most L ts k (omega arith) d in let n = x.lowest k h d in omega arith;
    })

-- the blocker is a task exactly if Wait(L) is above 0: the lowest-numbered with the greatest C among those with D above L
pub blocker_task : (L : ℕ) (ts : List Task) (b : ℕ) → (blocker L ts ≡ Some b) ↔ ((0 < longest_wait L ts) × Blocks L ts b)
unfolding blocker
blocker_task L ts b = go (ltb 0 (longest_wait L ts)) refl
  where
    go : (t : Bool) → ltb 0 (longest_wait L ts) ≡ t
        → ((if t then Some (first_waiting (longest_wait L ts) L 0 ts) else None) ≡ Some b) ↔ ((0 < longest_wait L ts) × Blocks L ts b)
    go true e =
        let pos = ltb-true 0 (longest_wait L ts) e in
        let x = first_blocks L ts pos in (
          λ q. (pos, let h : first_waiting (longest_wait L ts) L 0 ts ≡ b = cc in subst (Blocks L ts) h x),
          λ y. ap Some (blocks_once L ts _ b x y.1),
        )
    go false e =
        let z = ltb-false 0 (longest_wait L ts) e in
        (λ q. let h : ◌≡◌ {A = ℕ} 0 1 = cc in absurd (omega arith), λ y. absurd (omega arith))

-- it is nobody exactly if Wait(L) is 0
pub blocker_nobody : (L : ℕ) (ts : List Task) → (blocker L ts ≡ None) ↔ (longest_wait L ts ≡ 0)
unfolding blocker
blocker_nobody L ts = go (ltb 0 (longest_wait L ts)) refl
  where
    go : (t : Bool) → ltb 0 (longest_wait L ts) ≡ t
        → ((if t then Some (first_waiting (longest_wait L ts) L 0 ts) else None) ≡ None) ↔ (longest_wait L ts ≡ 0)
    go true e =
        let pos = ltb-true 0 (longest_wait L ts) e in
        (λ q. let h : ◌≡◌ {A = ℕ} 0 1 = cc in absurd (omega arith), λ y. absurd (omega arith))
    go false e = let z = ltb-false 0 (longest_wait L ts) e in (λ q. omega arith, λ y. refl)
