-- Trains of jobs make a legal pattern, whatever their first releases and their counts.
use mathlib.Core.Path.{◌≡◌, refl, sym, subst}
use mathlib.Core.Logic.{◌⊎◌, inl, inr}
use Prim.Native.Nat.{ℕ, zero, suc, ◌+◌, ◌≤◌, ◌<◌}
use native.Mathlib.Omega.{arith}
use mathlib.Core.List.Memᴰ
use mathlib.Core.List.{List, [], ◌∷◌, ◌++◌, Memᴰ}
use lib.ListN.{length}
use Rattle.rules.specs.Task.{task_at, AllSound}
use Rattle.rules.specs.declared.Task.{Task}
use Rattle.rules.specs.Dispatch.{Job}
use Rattle.rules.specs.Jobs.{Train, train, trains}
use Rattle.rules.specs.Legal.{Apart, Legal}
use Rattle.rules.proofs.TasksFrom.{Rest, rest_all, rest_here, rest_next}
use Rattle.rules.proofs.Legal.{task_at_sound}

-- the jobs of a train are those of its task, from its first number and its first release on
train_from : (n q r k : ℕ) (τ : Task) (j : Job) → Memᴰ j (train n q r k τ) → (j.task ≡ k) × (q ≤ j.number) × (r ≤ j.release)
unfolding train
train_from zero q r k τ j m = absurd (Memᴰ.not-nil m)
train_from (suc n) q r k τ j (Memᴰ.head e) = rw e (refl, omega arith, omega arith)
train_from (suc n) q r k τ j (Memᴰ.tail m) =
    let h = train_from n (suc q) (r + τ.T) k τ j m in
    (h.0, omega arith, omega arith)

-- the train of a task is legal
train_legal : (ts : List Task) → AllSound ts → (n q r k : ℕ) → k < length ts → Legal ts (train n q r k (task_at ts k))
unfolding train
train_legal ts sound zero q r k h = tt
train_legal ts sound (suc n) q r k h = (
  record { known = h; due = refl; runs = (task_at_sound ts sound k h).c_pos; within = omega arith },
  λ i m.
      let f = train_from n (suc q) (r + (task_at ts k).T) k (task_at ts k) i m in
      record { gap = λ e. omega arith; up = λ e x. omega arith; down = λ e x. absurd (omega arith) },
  train_legal ts sound n (suc q) (r + (task_at ts k).T) k h,
)

-- two legal lists whose jobs are apart make a legal list
append_legal : (ts : List Task) (xs ys : List Job) → Legal ts xs → Legal ts ys
    → ((i : Job) → Memᴰ i xs → (j : Job) → Memᴰ j ys → Apart ts i j) → Legal ts (xs ++ ys)
append_legal ts [] ys l k h = k
append_legal ts (x ∷ xs) ys l k h = (
  l.0,
  λ j m. go j (Memᴰ.append_cases xs m),
  append_legal ts xs ys l.2 k (λ i m. h i (Memᴰ.tail m)),
)
  where
    go : (j : Job) → Memᴰ j xs ⊎ Memᴰ j ys → Apart ts x j
    go j (inl m) = l.1 j m
    go j (inr m) = h x (Memᴰ.head refl) j m

-- the train of task k by a plan
abbrev pub train_of : (ℕ → Task → Train) → ℕ → Task → List Job
train_of plan k τ = train (plan k τ).count 0 (plan k τ).first k τ

-- the trains from task k on have no job of a lower task
trains_from : (plan : ℕ → Task → Train) (k : ℕ) (us : List Task) (j : Job) → Memᴰ j (trains plan k us) → k ≤ j.task
unfolding trains
trains_from plan k [] j m = absurd (Memᴰ.not-nil m)
trains_from plan k (τ ∷ us) j m = go (Memᴰ.append_cases (train_of plan k τ) m) (trains_from plan (suc k) us j)
  where
    go : Memᴰ j (train_of plan k τ) ⊎ Memᴰ j (trains plan (suc k) us) → (Memᴰ j (trains plan (suc k) us) → suc k ≤ j.task) → k ≤ j.task
    go (inl n) ih = let f = train_from (plan k τ).count 0 (plan k τ).first k τ j n in omega arith
    go (inr n) ih = let f = ih n in omega arith

legal_from : (plan : ℕ → Task → Train) (ts : List Task) → AllSound ts → (k : ℕ) (us : List Task) → Rest ts k us → Legal ts (trains plan k us)
unfolding trains
legal_from plan ts sound k [] R = tt
legal_from plan ts sound k (τ ∷ us) R =
    append_legal ts (train_of plan k τ) (trains plan (suc k) us) own (legal_from plan ts sound (suc k) us (rest_next ts k τ us R)) apart
  where
    own : Legal ts (train_of plan k τ)
    own =
        subst (λ (x : Task). Legal ts (train (plan k τ).count 0 (plan k τ).first k x)) (sym (rest_here ts k τ us R))
        (train_legal ts sound (plan k τ).count 0 (plan k τ).first k (omega arith))

    apart : (i : Job) → Memᴰ i (train_of plan k τ) → (j : Job) → Memᴰ j (trains plan (suc k) us) → Apart ts i j
    apart i m j n =
        let f = train_from (plan k τ).count 0 (plan k τ).first k τ i m in
        let g = trains_from plan (suc k) us j n in
        record { gap = λ e. absurd (omega arith); up = λ e x. absurd (omega arith); down = λ e x. absurd (omega arith) }

-- the trains of the tasks are a legal pattern
pub trains_legal : (plan : ℕ → Task → Train) (ts : List Task) → AllSound ts → Legal ts (trains plan 0 ts)
trains_legal plan ts sound = legal_from plan ts sound 0 ts (rest_all ts)
