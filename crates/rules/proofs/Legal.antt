-- Legal patterns: each job fits, and a pattern stays legal where a job is taken out of it.
use mathlib.Core.Path.{◌≡◌, refl, sym}
use Prim.Native.Nat.{ℕ, zero, suc, ◌≤◌, ◌<◌}
use native.Mathlib.Omega.{arith}
use mathlib.Core.List.Memᴰ
use mathlib.Core.List.{List, [], ◌∷◌, Memᴰ}
use mathlib.Core.Bool.{Bool, true, false}
use mathlib.Core.Logic.{◌⊎◌, inl, inr}
use borrow.Author.Tests.{leb-true, ltb-true}
use lib.Dec.{leb, ltb}
use lib.ListN.{length}
use Rattle.rules.specs.Task.{task_at, Sound, AllSound}
use Rattle.rules.specs.declared.Task.{Task}
use Rattle.rules.specs.Dispatch.{Job, same}
use Rattle.rules.specs.Legal.{Fits, Apart, Legal}
use Rattle.rules.proofs.Booleans.{lt_or_ge}
use Rattle.rules.proofs.Taken.{Taken, now, later, taken_mem, same_true, Distinct}

-- the task of a number below the length is one of the list
pub task_at_mem : (ts : List Task) (k : ℕ) → k < length ts → Memᴰ (task_at ts k) ts
unfolding task_at
task_at_mem [] k h = absurd (omega arith)
task_at_mem (τ ∷ ts) zero h = Memᴰ.head refl
task_at_mem (τ ∷ ts) (suc k) h = Memᴰ.tail (task_at_mem ts k (omega arith))

pub task_at_sound : (ts : List Task) → AllSound ts → (k : ℕ) → k < length ts → Sound (task_at ts k)
task_at_sound ts sound k h = sound (task_at ts k) (task_at_mem ts k h)

-- a job of a legal pattern fits
pub legal_fits : (ts : List Task) (js : List Job) → Legal ts js → (j : Job) → Memᴰ j js → Fits ts j
legal_fits ts [] l j m = absurd (Memᴰ.not-nil m)
legal_fits ts (i ∷ js) l j (Memᴰ.head e) = rw e l.0
legal_fits ts (i ∷ js) l j (Memᴰ.tail m) = legal_fits ts js l.2 j m

pub taken_legal : (ts : List Task) {j : Job} {js ks : List Job} → Taken j js ks → Legal ts js → Legal ts ks
taken_legal ts (now e) l = l.2
taken_legal ts (later t) l = (l.0, λ i m. l.1 i (taken_mem t i m), taken_legal ts t l.2)

-- two jobs of one task have different numbers: their releases are apart, and the numbers grow with them
apart_differ : (ts : List Task) (i j : Job) → Apart ts j i → 1 ≤ (task_at ts j.task).T → same i j ≡ false
apart_differ ts i j A pos = go (same i j) refl
  where
    one : same i j ≡ true → j.task ≡ i.task
    one e = sym (same_true i j e).0

    clash : (e : same i j ≡ true) → (ltb j.release i.release ≡ true) ⊎ (leb i.release j.release ≡ true) → ⊥
    clash e (inl h) =
        let n = (same_true i j e).1 in
        let up = A.up (one e) (ltb-true _ _ h) in
        omega arith
    clash e (inr h) =
        let le : i.release ≤ j.release = leb-true _ _ h in
        let n = (same_true i j e).1 in
        let gap = A.gap (one e) in
        let down = A.down (one e) (omega arith) in
        omega arith

    go : (b : Bool) → same i j ≡ b → b ≡ false
    go false e = refl
    go true e = absurd (clash e (lt_or_ge j.release i.release))

pub legal_distinct : (ts : List Task) → AllSound ts → (js : List Job) → Legal ts js → Distinct js
legal_distinct ts sound [] l = tt
legal_distinct ts sound (j ∷ js) l = (
  λ i m. apart_differ ts i j (l.1 i m) (task_at_sound ts sound j.task l.0.known).t_pos,
  legal_distinct ts sound js l.2,
)
