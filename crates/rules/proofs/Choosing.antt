-- The dispatcher's choice step by step: of one job more, of a train more, and after a row.
use mathlib.Core.Path.{◌≡◌, refl, sym, ap, ◌∙◌}
use Prim.Native.Nat.{ℕ, zero, suc, ◌+◌, ◌≤◌, ◌<◌, min, max}
use native.Mathlib.Omega.{arith}
use mathlib.Core.List.{List, [], ◌∷◌, ◌++◌, Memᴰ}
use lib.ListN.{length}
use borrow.Author.Tests.{le-leb, lt-leb, ne_eqb}
use Rattle.rules.specs.declared.Task.{Task}
use Rattle.rules.specs.Dispatch.{Job, Row, sooner, pick, same, without, earliest, ready, rows, dispatch}
use Rattle.rules.specs.Jobs.{train}
use Rattle.rules.proofs.Booleans.{split}
use Rattle.rules.proofs.Order.{sooner_none, sooner_absorbs}
use Rattle.rules.proofs.Taken.{same_self, without_shorter}
use Rattle.rules.proofs.Picked.{earliest_least, Pick, somebody, picks}
use Rattle.std.specs.Prelude.{Option, Some, None}

-- ONE JOB MORE
-- it is released
pub pick_come : (s : ℕ) (j : Job) (js : List Job) → j.release ≤ s → pick s (j ∷ js) ≡ sooner j (pick s js)
unfolding pick
pick_come s j js h = rw (le-leb j.release s h)

-- it is not
pub pick_not : (s : ℕ) (j : Job) (js : List Job) → s < j.release → pick s (j ∷ js) ≡ pick s js
unfolding pick
pick_not s j js h = rw (lt-leb j.release s h)

-- it is, and no other
pub pick_one : (s : ℕ) (j : Job) (js : List Job) → j.release ≤ s → pick s js ≡ None → pick s (j ∷ js) ≡ Some j
pick_one s j js h e = pick_come s j js h ∙ ap (sooner j) e ∙ sooner_none j

-- of no job none is picked
pub pick_nobody : (s : ℕ) (js : List Job) → js ≡ [] → pick s js ≡ None
unfolding pick
pick_nobody s js e = rw e

-- nor of jobs that are ready later
pub not_yet : (t s : ℕ) (js : List Job) → t ≤ s → s < ready t js → pick s js ≡ None
unfolding ready
not_yet t s [] h g = pick_nobody s [] refl
not_yet t s (i ∷ js) h g = go (pick s (i ∷ js)) (picks s (i ∷ js))
  where
    go : (o : Option Job) → Pick s (i ∷ js) o → o ≡ None
    go None p = refl
    go (Some j) (somebody P) = absurd (omega (arith, P.come, earliest_least i js j P.mem))

-- nothing starts before the tile is free
pub ready_after : (t : ℕ) (js : List Job) → t ≤ ready t js
unfolding ready
ready_after t [] = omega arith
ready_after t (j ∷ js) = omega arith

-- one job alone starts when the tile is free or at its release
pub ready_one : (t : ℕ) (j : Job) (js : List Job) → js ≡ [] → ready t (j ∷ js) ≡ max t j.release
unfolding ready earliest
ready_one t j js e = rw e

-- among others, of which one is picked, then or with them
pub ready_more : (t s : ℕ) (j i : Job) (js : List Job) → pick s js ≡ Some i → ready t (j ∷ js) ≡ min (max t j.release) (ready t js)
unfolding ready earliest pick
ready_more t s j i [] e = let z : ◌≡◌ {A = ℕ} 0 1 = cc in absurd (omega arith)
ready_more t s j i (k ∷ js) e = omega arith

-- A TRAIN MORE: its first job stands for all of it
-- the first job of a train
abbrev pub train_head : ℕ → ℕ → ℕ → Task → Job
train_head q r k τ = record { task = k; number = q; release = r; deadline = r + τ.D; run = τ.C }

pub pick_train : (s n q r k : ℕ) (τ : Task) (js : List Job) → pick s (train (suc n) q r k τ ++ js) ≡ pick s (train_head q r k τ ∷ js)
unfolding train
pick_train s zero q r k τ js = refl
pick_train s (suc n) q r k τ js =
    let i : Job = train_head q r k τ in
    let j : Job = train_head (suc q) (r + τ.T) k τ in
    let rest : List Job = train (suc n) (suc q) (r + τ.T) k τ ++ js in
    let ih : pick s rest ≡ pick s (j ∷ js) = pick_train s n (suc q) (r + τ.T) k τ js in
    let behind = sooner_absorbs i j (record { deadline = omega arith; task = λ e. omega arith }) (pick s js) in
    split r s
    (λ h.
    pick_come s i rest h
    ∙ ap (sooner i) ih
    ∙ split (r + τ.T) s (λ g. ap (sooner i) (pick_come s j js g) ∙ behind) (λ g. ap (sooner i) (pick_not s j js g))
    ∙ sym (pick_come s i js h))
    (λ h. pick_not s i rest h ∙ ih ∙ pick_not s j js (omega arith) ∙ sym (pick_not s i js h))

earliest_next : (q r k : ℕ) (τ : Task) (js : List Job) → min r (earliest (train_head (suc q) (r + τ.T) k τ) js) ≡ earliest (train_head q r k τ) js
unfolding earliest
earliest_next q r k τ [] = omega arith
earliest_next q r k τ (i ∷ js) = omega arith

earliest_train : (n q r k : ℕ) (τ : Task) (js : List Job) → earliest (train_head q r k τ) (train n (suc q) (r + τ.T) k τ ++ js) ≡ earliest (train_head q r k τ) js
unfolding train earliest
earliest_train zero q r k τ js = refl
earliest_train (suc n) q r k τ js = ap (min r) (earliest_train n (suc q) (r + τ.T) k τ js) ∙ earliest_next q r k τ js

pub ready_train : (t n q r k : ℕ) (τ : Task) (js : List Job) → ready t (train (suc n) q r k τ ++ js) ≡ ready t (train_head q r k τ ∷ js)
unfolding train ready
ready_train t n q r k τ js = ap (max t) (earliest_train n q r k τ js)

-- a train of no job changes nothing
pub train_none : (n q r k : ℕ) (τ : Task) (js : List Job) → n ≡ 0 → train n q r k τ ++ js ≡ js
unfolding train
train_none n q r k τ js e = rw e

-- A JOB TAKEN OUT
without_first : (j i : Job) (js : List Job) → j ≡ i → without j (i ∷ js) ≡ js
unfolding without
without_first j i js e = rw (e, same_self i)

without_later : (j i : Job) (js : List Job) → (j.task ≡ i.task → ⊥) → without j (i ∷ js) ≡ i ∷ without j js
unfolding without same
without_later j i js h = rw (ne_eqb j.task i.task h)

-- of another task than the train's
pub without_train : (i : Job) (n q r k : ℕ) (τ : Task) (js : List Job) → (i.task ≡ k → ⊥) → without i (train n q r k τ ++ js) ≡ train n q r k τ ++ without i js
unfolding train
without_train i zero q r k τ js h = refl
without_train i (suc n) q r k τ js h =
    without_later i (train_head q r k τ) (train n (suc q) (r + τ.T) k τ ++ js) h
    ∙ ap (λ (l : List Job). train_head q r k τ ∷ l) (without_train i n (suc q) (r + τ.T) k τ js h)

-- the train's first job
pub without_head : (n q r k : ℕ) (τ : Task) (js : List Job) → without (train_head q r k τ) (train (suc n) q r k τ ++ js) ≡ train n (suc q) (r + τ.T) k τ ++ js
unfolding train
without_head n q r k τ js = without_first (train_head q r k τ) (train_head q r k τ) (train n (suc q) (r + τ.T) k τ ++ js) refl

-- ONE ROW
-- the job that is picked takes the next row
pub rows_step : (n t s : ℕ) (js : List Job) (j : Job) → ready t js ≡ s → pick s js ≡ Some j
    → rows (suc n) t js ≡ record { job = j; start = s } ∷ rows n (s + j.run) (without j js)
unfolding rows
rows_step n t s js j er ep = ap (λ (x : ℕ). first x (pick x js)) er ∙ ap (first s) ep
  where
    first : ℕ → Option Job → List Row
    first x o = elim o as (λ _. List Row) [ None ↦ [] | Some i ↦ record { job = i; start = x } ∷ rows n (x + i.run) (without i js) ]

-- and there is one job less
pub one_less : (s : ℕ) (js : List Job) (j : Job) → pick s js ≡ Some j → length js ≡ suc (length (without j js))
one_less s js j e = without_shorter js j (go (pick s js) (picks s js) e)
  where
    go : (o : Option Job) → Pick s js o → o ≡ Some j → Memᴰ j js
    go None p q = let z : ◌≡◌ {A = ℕ} 0 1 = cc in absurd (omega arith)
    go (Some i) (somebody P) q = let h : i ≡ j = cc in rw (← h) P.mem

-- no job, no row
pub rows_none : (t : ℕ) (js : List Job) → rows 0 t js ≡ []
unfolding rows
rows_none t js = refl

-- all rows, from the start
pub rows_all : (n : ℕ) (js : List Job) → length js ≡ n → dispatch js ≡ rows n 0 js
unfolding dispatch
rows_all n js e = rw e
