-- How long the jobs of a legal pattern can run in all: those due in a window at most Due, those released in one at most work.
use mathlib.Core.Path.{◌≡◌, refl, ◌∙◌}
use Prim.Native.Nat.{ℕ, zero, suc, ◌+◌, ◌-◌, ◌*◌, ◌/◌, max, min, ◌≤◌, ◌<◌}
use native.Mathlib.Nat.{lt-mul-div-succ, mul-add, mul-suc, add_comm, zero-add}
use native.Mathlib.Omega.{arith}
use mathlib.Core.List.Memᴰ
use mathlib.Core.List.{List, [], ◌∷◌, Memᴰ}
use mathlib.Core.Bool.{Bool, true, false, not, ◌&&◌}
use borrow.Author.Tests.{not-true, eqb-true, eqb-false, leb-true, ltb-true, ltb-false, le-leb, lt-ltb}
use lib.Dec.{eqb, leb, ltb}
use Rattle.rules.specs.Task.{task_at, AllSound}
use Rattle.rules.specs.declared.Task.{Task}
use Rattle.rules.specs.Dispatch.{Job}
use Rattle.rules.specs.Legal.{Legal}
use Rattle.rules.specs.Demand.{count_within, due, total_due, ceiling, work}
use Rattle.rules.proofs.Taken.{Taken, now, later}
use Rattle.rules.proofs.Legal.{task_at_sound, legal_fits}
use Rattle.rules.proofs.TasksFrom.{Rest, rest_all, rest_here, rest_next}
use Rattle.std.proofs.lemmas.Bool.{and_parts}

-- what a job that passes or fails a test adds to a total
unfoldable pub amount : Bool → Job → ℕ
amount true j = j.run
amount false j = 0

-- the run times of the jobs that pass a test, added up
unfoldable pub total : (Job → Bool) → List Job → ℕ
total p [] = 0
total p (j ∷ js) = amount (p j) j + total p js

-- no job passes
pub total_none : (p : Job → Bool) (js : List Job) → ((j : Job) → Memᴰ j js → p j ≡ true → ⊥) → total p js ≡ 0
unfolding total amount
total_none p [] h = refl
total_none p (j ∷ js) h = go (p j) refl (total_none p js (λ i m. h i (Memᴰ.tail m)))
  where
    go : (b : Bool) → p j ≡ b → total p js ≡ 0 → amount b j + total p js ≡ 0
    go true e ih = absurd (h j (Memᴰ.head refl) e)
    go false e ih = omega arith

-- a job that passes has its part in the total
pub total_some : (p : Job → Bool) (js : List Job) (j : Job) → Memᴰ j js → p j ≡ true → j.run ≤ total p js
unfolding total amount
total_some p [] j m e = absurd (Memᴰ.not-nil m)
total_some p (i ∷ js) j (Memᴰ.head q) e = rw q (rw (← q, e) (omega arith))
total_some p (i ∷ js) j (Memᴰ.tail m) e = let ih : j.run ≤ total p js = total_some p js j m e in omega arith

-- a job is taken out
pub total_taken : (p : Job → Bool) {j : Job} {js ks : List Job} → Taken j js ks → total p js ≡ amount (p j) j + total p ks
unfolding total
total_taken p (now e) = rw e
total_taken p (later t) = let ih = total_taken p t in omega arith

-- a job that passes is taken out
pub total_drops : (p : Job → Bool) {j : Job} {js ks : List Job} → Taken j js ks → p j ≡ true → total p js ≡ j.run + total p ks
unfolding amount
total_drops p t e = rw e at (total_taken p t)

-- one that does not pass
pub total_stays : (p : Job → Bool) {j : Job} {js ks : List Job} → Taken j js ks → p j ≡ false → total p js ≡ total p ks
unfolding amount
total_stays p t e = (rw e at (total_taken p t)) ∙ zero-add _

-- those that pass, cut in two by another test
total_cut : (p t : Job → Bool) (js : List Job) → total p js ≡ total (λ j. p j && t j) js + total (λ j. p j && not (t j)) js
unfolding total amount
total_cut p t [] = refl
total_cut p t (j ∷ js) = let one = go (p j) (t j) in let ih = total_cut p t js in omega arith
  where
    go : (a b : Bool) → amount a j ≡ amount (a && b) j + amount (a && not b) j
    go true true = omega arith
    go true false = omega arith
    go false b = omega arith

-- a job of task k that is released in the w ticks from x on
record Within (k x w : ℕ) (j : Job) : Type 0 where
  task : j.task ≡ k
  low : x ≤ j.release
  high : j.release < x + w

-- every job that passes is one
abbrev AllWithin : List Job → ℕ → ℕ → ℕ → (Job → Bool) → Type 0
AllWithin js k x w p = (j : Job) → Memᴰ j js → p j ≡ true → Within k x w j

-- in a window no longer than the period there is at most one job of a task
single : (ts : List Task) (js : List Job) → Legal ts js → (k x : ℕ) (p : Job → Bool) → AllWithin js k x (task_at ts k).T p
    → total p js ≤ (task_at ts k).C
unfolding total amount
single ts [] l k x p h = omega arith
single ts (j ∷ js) l k x p h = go (p j) refl (single ts js l.2 k x p (λ i m. h i (Memᴰ.tail m)))
  where
    alone : p j ≡ true → (i : Job) → Memᴰ i js → p i ≡ true → ⊥
    alone e i m f =
        let hj = h j (Memᴰ.head refl) e in
        let hi = h i (Memᴰ.tail m) f in
        let gap : (task_at ts k).T ≤ max j.release i.release - min j.release i.release = rw hj.task at ((l.1 i m).gap (cc)) in
        omega arith

    go : (b : Bool) → p j ≡ b → total p js ≤ (task_at ts k).C → amount b j + total p js ≤ (task_at ts k).C
    go false e ih = omega arith
    go true e ih =
        let c = rw (h j (Memᴰ.head refl) e).task at l.0.within in
        omega (arith, total_none p js (alone e))

-- in a window of n periods there are at most n: one in the first period, the others in the rest
packed : (ts : List Task) (js : List Job) → Legal ts js → (k n x : ℕ) (p : Job → Bool) → AllWithin js k x ((task_at ts k).T * n) p
    → total p js ≤ (task_at ts k).C * n
packed ts js l k zero x p h = omega (arith, total_none p js (λ j m e. let w = h j m e in omega arith))
packed ts js l k (suc n) x p h =
    let one : total (λ j. p j && near j) js ≤ (task_at ts k).C = single ts js l k x _ first in
    let others : total (λ j. p j && not (near j)) js ≤ (task_at ts k).C * n = packed ts js l k n (x + (task_at ts k).T) _ rest in
    omega (arith, total_cut p near js, mul-suc (task_at ts k).C n)
  where
    near : Job → Bool
    near j = ltb j.release (x + (task_at ts k).T)

    first : AllWithin js k x (task_at ts k).T (λ j. p j && near j)
    first j m e =
        let b = and_parts (p j) (near j) e in
        let w = h j m b.0 in
        record { task = w.task; low = w.low; high = ltb-true _ _ b.1 }

    rest : AllWithin js k (x + (task_at ts k).T) ((task_at ts k).T * n) (λ j. p j && not (near j))
    rest j m e =
        let b = and_parts (p j) (not (near j)) e in
        let w = h j m b.0 in
        record { task = w.task; low = ltb-false _ _ (not-true _ b.1); high = omega (arith, mul-suc (task_at ts k).T n) }

-- n jobs of each task: the sum over the tasks of C × n
unfoldable pub load : (Task → ℕ) → List Task → ℕ
load n [] = 0
load n (τ ∷ ts) = τ.C * n τ + load n ts

-- a job that is released in n periods of its task from x on
pub record Inside (ts : List Task) (n : Task → ℕ) (x : ℕ) (j : Job) : Type 0 where
  pub low : x ≤ j.release
  pub high : j.release < x + (task_at ts j.task).T * n (task_at ts j.task)

module _ (ts : List Task) (js : List Job) (l : Legal ts js) (n : Task → ℕ) (x : ℕ) where
  -- the jobs of the tasks from k on: those of task k, and the others
  load_from : (k : ℕ) (us : List Task) → Rest ts k us → (p : Job → Bool)
      → ((j : Job) → Memᴰ j js → p j ≡ true → (k ≤ j.task) × Inside ts n x j) → total p js ≤ load n us
  unfolding load
  load_from k [] R p h =
      omega (arith, total_none p js (λ j m e. let w = h j m e in let f = (legal_fits ts js l j m).known in omega arith))
  load_from k (τ ∷ us) R p h =
      let one : total (λ j. p j && here j) js ≤ τ.C * n τ = rw (rest_here ts k τ us R) (packed ts js l k (n (task_at ts k)) x _ first) in
      let others : total (λ j. p j && not (here j)) js ≤ load n us = load_from (suc k) us (rest_next ts k τ us R) _ rest in
      omega (arith, total_cut p here js)
    where
      here : Job → Bool
      here j = eqb j.task k

      first : AllWithin js k x ((task_at ts k).T * n (task_at ts k)) (λ j. p j && here j)
      first j m e =
          let b = and_parts (p j) (here j) e in
          let t : j.task ≡ k = eqb-true _ _ b.1 in
          let w = (h j m b.0).1 in
          record { task = t; low = w.low; high = rw t at w.high }

      rest : (j : Job) → Memᴰ j js → p j && not (here j) ≡ true → (suc k ≤ j.task) × Inside ts n x j
      rest j m e =
          let b = and_parts (p j) (not (here j)) e in
          let ne : j.task ≡ k → ⊥ = eqb-false _ _ (not-true _ b.1) in
          let w = h j m b.0 in
          (omega arith, w.1)

  -- jobs that are released in n periods of their tasks run at most the load of n jobs a task
  pub total_load : (p : Job → Bool) → ((j : Job) → Memᴰ j js → p j ≡ true → Inside ts n x j) → total p js ≤ load n ts
  total_load p h = load_from 0 ts (rest_all ts) p (λ j m e. (omega arith, h j m e))

-- Due and work are loads
pub due_load : (L : ℕ) (τ : Task) → τ.C * count_within L τ ≡ due L τ
unfolding due
due_load L τ = refl

pub total_due_load : (L : ℕ) (ts : List Task) → load (count_within L) ts ≡ total_due L ts
unfolding load total_due
total_due_load L [] = refl
total_due_load L (τ ∷ ts) = rw (due_load L τ, total_due_load L ts)

work_load : (t : ℕ) (ts : List Task) → load (λ τ. ceiling t τ.T) ts ≡ work t ts
unfolding load work
work_load t [] = refl
work_load t (τ ∷ ts) = rw (work_load t ts)

-- a release is in the periods that are counted, if its deadline is within L of their start
within_covers : (L m : ℕ) (τ : Task) → 1 ≤ τ.T → m + τ.D ≤ L → m < τ.T * count_within L τ
unfolding count_within
within_covers L m τ pos h =
    let q : L - τ.D < τ.T * (1 + (L - τ.D) / τ.T) = rw (add_comm 1) (lt-mul-div-succ _ pos) in
    let le : τ.D ≤ L = omega arith in
    rw (le-leb _ _ le) (omega arith)

-- t ticks are covered by the periods rounded up
ceiling_covers : (t T : ℕ) → 1 ≤ T → t ≤ T * ceiling t T
unfolding ceiling
ceiling_covers t T pos = let q = lt-mul-div-succ (t + T - 1) pos in omega (arith, mul-add T ((t + T - 1) / T) 1)

-- the jobs due by tick d, those released before tick x, and those released at x or later
unfoldable pub due_by : ℕ → Job → Bool
due_by d j = leb j.deadline d

unfoldable pub early : ℕ → Job → Bool
early x j = ltb j.release x

unfoldable pub since : ℕ → Job → Bool
since x j = leb x j.release

pub is_due : (d : ℕ) (j : Job) → j.deadline ≤ d → due_by d j ≡ true
unfolding due_by
is_due d j h = le-leb _ _ h

pub is_early : (x : ℕ) (j : Job) → j.release < x → early x j ≡ true
unfolding early
is_early x j h = lt-ltb _ _ h

-- BY DEADLINES: if all jobs due by d are released from a on, they run at most Due (d − a) in all
pub count_due : (ts : List Task) → AllSound ts → (js : List Job) → Legal ts js → (a d : ℕ)
    → ((j : Job) → Memᴰ j js → j.deadline ≤ d → a ≤ j.release) → total (due_by d) js ≤ total_due (d - a) ts
unfolding due_by
count_due ts sound js l a d from = rw (← total_due_load (d - a) ts) (total_load ts js l (count_within (d - a)) a (due_by d) inside)
  where
    inside : (j : Job) → Memᴰ j js → leb j.deadline d ≡ true → Inside ts (count_within (d - a)) a j
    inside j m e =
        let f = legal_fits ts js l j m in
        let by : j.deadline ≤ d = leb-true _ _ e in
        let low = from j m by in
        let c = within_covers (d - a) (j.release - a) (task_at ts j.task) (task_at_sound ts sound j.task f.known).t_pos (omega arith) in
        record { low = low; high = omega arith }

-- BY RELEASES: if all jobs are released from b on, those released before b + s run at most work s in all
pub count_work : (ts : List Task) → AllSound ts → (js : List Job) → Legal ts js → (b s : ℕ)
    → ((j : Job) → Memᴰ j js → b ≤ j.release) → total (early (b + s)) js ≤ work s ts
unfolding early
count_work ts sound js l b s from = rw (← work_load s ts) (total_load ts js l (λ τ. ceiling s τ.T) b (early (b + s)) inside)
  where
    inside : (j : Job) → Memᴰ j js → ltb j.release (b + s) ≡ true → Inside ts (λ τ. ceiling s τ.T) b j
    inside j m e =
        let f = legal_fits ts js l j m in
        let by : j.release < b + s = ltb-true _ _ e in
        let c = ceiling_covers s (task_at ts j.task).T (task_at_sound ts sound j.task f.known).t_pos in
        record { low = from j m; high = omega arith }
