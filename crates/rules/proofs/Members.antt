-- Trains of jobs: their members, their length, and their counts as document 01 puts them, "while the deadline is at most ..".
use Rattle.std.specs.Prelude.{if◌then◌else◌, Some, None}
use mathlib.Core.Path.{◌≡◌, refl, sym, ap, subst}
use mathlib.Core.Logic.{◌↔◌, ◌⊎◌, inl, inr}
use Prim.Native.Nat.{ℕ, zero, suc, ◌+◌, ◌-◌, ◌*◌, ◌/◌, ◌≤◌, ◌<◌}
use native.Mathlib.Nat.{le-div_iff_mul-le}
use native.Mathlib.Omega.{arith}
use native.Mathlib.Decide.{ℕ_discrete}
use mathlib.Core.List.Memᴰ
use mathlib.Core.List.{List, [], ◌∷◌, Memᴰ}
use mathlib.Core.Bool.{Bool, true, false}
use lib.Dec.{leb, ltb}
use lib.ListN.{length}
use borrow.Author.Tests.{leb-true, leb-false, ltb-true, ltb-false, eq-eqb, ne_eqb}
use Rattle.rules.specs.Task.{task_at, AllSound}
use Rattle.rules.specs.declared.Task.{Task}
use Rattle.rules.specs.Dispatch.{Job}
use Rattle.rules.specs.Jobs.{Train, OnTrain, train, trains, count_before, concrete_train, planned, concrete, named_train, named}
use Rattle.rules.specs.Demand.{count_within, blocker}
use Rattle.rules.proofs.Legal.{task_at_sound}

-- the whole part of a quotient, as a count
div_counts : (i m T : ℕ) → 1 ≤ T → (i < 1 + m / T) ↔ (i * T ≤ m)
div_counts i m T pos = (λ h. (le-div_iff_mul-le pos).0 (omega arith), λ h. let l = (le-div_iff_mul-le pos).1 h in omega arith)

-- a train of `count_within L` jobs has those whose deadline lies at most L after the first release
pub count_within_law : (L i : ℕ) (τ : Task) → 1 ≤ τ.T → (i < count_within L τ) ↔ (i * τ.T + τ.D ≤ L)
unfolding count_within
count_within_law L i τ pos = go (leb τ.D L) refl
  where
    go : (b : Bool) → leb τ.D L ≡ b → (i < (if b then 1 + (L - τ.D) / τ.T else 0)) ↔ (i * τ.T + τ.D ≤ L)
    go true e =
        let d = leb-true τ.D L e in
        let c = div_counts i (L - τ.D) τ.T pos in
        (λ h. let l = c.0 h in omega arith, λ h. c.1 (omega arith))
    go false e = let d = leb-false τ.D L e in (λ h. absurd (omega arith), λ h. absurd (omega arith))

-- a train of `count_before Z` jobs has those released before Z
pub count_before_law : (Z i : ℕ) (τ : Task) → 1 ≤ τ.T → (i < count_before Z τ) ↔ (τ.R + i * τ.T < Z)
unfolding count_before
count_before_law Z i τ pos = go (ltb τ.R Z) refl
  where
    go : (b : Bool) → ltb τ.R Z ≡ b → (i < (if b then 1 + (Z - 1 - τ.R) / τ.T else 0)) ↔ (τ.R + i * τ.T < Z)
    go true e =
        let d = ltb-true τ.R Z e in
        let c = div_counts i (Z - 1 - τ.R) τ.T pos in
        (λ h. let l = c.0 h in omega arith, λ h. c.1 (omega arith))
    go false e = let d = ltb-false τ.R Z e in (λ h. absurd (omega arith), λ h. absurd (omega arith))

-- a train has as many jobs as it says
pub length_train : (n q r k : ℕ) (τ : Task) → length (train n q r k τ) ≡ n
unfolding train
length_train zero q r k τ = refl
length_train (suc n) q r k τ = let ih = length_train n (suc q) (r + τ.T) k τ in omega arith

-- a job of task number k on a train that begins at r, with a number from q to q + n
record Numbered (q n r k : ℕ) (τ : Task) (j : Job) : Type 0 where
  of_task : j.task ≡ k
  low : q ≤ j.number
  high : j.number < q + n
  on_train : OnTrain r τ j

-- the members of a train that goes on from job number q
members_from : (n q s r k : ℕ) (τ : Task) (j : Job) → s ≡ r + q * τ.T → Memᴰ j (train n q s k τ) ↔ Numbered q n r k τ j
unfolding train
members_from zero q s r k τ j e = (λ m. absurd (Memᴰ.not-nil m), λ x. absurd (omega arith))
members_from (suc n) q s r k τ j e = go (members_from n (suc q) (s + τ.T) r k τ j (omega arith))
  where
    first : Job
    first = record { task = k; number = q; release = s; deadline = s + τ.D; run = τ.C }

    rest : List Job
    rest = train n (suc q) (s + τ.T) k τ

    is_first : j ≡ first → Numbered q (suc n) r k τ j
    is_first h =
        rw h
        (record { of_task = refl; low = omega arith; high = omega arith; on_train = record { released = e; due = refl; runs = refl } })

    first_is : j.number ≡ q → Numbered q (suc n) r k τ j → j ≡ first
    first_is h o =
        let p = ap (λ (x : ℕ). x * τ.T) h in
        let a : j.release ≡ s = omega arith in
        let d : j.deadline ≡ s + τ.D = omega arith in
        λ x. record { task = o.of_task x; number = h x; release = a x; deadline = d x; run = o.on_train.runs x }

    only : (Memᴰ j rest → Numbered (suc q) n r k τ j) → Memᴰ j (first ∷ rest) → Numbered q (suc n) r k τ j
    only ih (Memᴰ.head h) = is_first h
    only ih (Memᴰ.tail m) =
        let x = ih m in
        record { of_task = x.of_task; low = omega arith; high = omega arith; on_train = x.on_train }

    has : (Numbered (suc q) n r k τ j → Memᴰ j rest) → Numbered q (suc n) r k τ j → Dec (j.number ≡ q) → Memᴰ j (first ∷ rest)
    has ih x (yes h) = Memᴰ.head (first_is h x)
    has ih x (no h) = Memᴰ.tail (ih (record { of_task = x.of_task; low = omega arith; high = omega arith; on_train = x.on_train }))

    go : Memᴰ j rest ↔ Numbered (suc q) n r k τ j → Memᴰ j (first ∷ rest) ↔ Numbered q (suc n) r k τ j
    go ih = (only ih.0, λ x. has ih.1 x (ℕ_discrete j.number q))

-- the members of a train of n jobs are its jobs of the numbers below n
pub train_members : (n r k : ℕ) (τ : Task) (j : Job)
    → Memᴰ j (train n 0 r k τ) ↔ ((j.task ≡ k) × (j.number < n) × OnTrain r τ j)
train_members n r k τ j =
    let x = members_from n 0 r r k τ j (omega arith) in
    (λ m. let y = x.0 m in (y.of_task, omega arith, y.on_train), λ y. x.1 (record { of_task = y.0; low = omega arith; high = omega arith; on_train = y.2 }))

-- a job of task number b + k on the train that is planned for the task at place k
record Aboard (plan : ℕ → Task → Train) (b : ℕ) (ts : List Task) (j : Job) (k : ℕ) : Type 0 where
  place : j.task ≡ b + k
  known : k < length ts
  counted : j.number < (plan j.task (task_at ts k)).count
  on_train : OnTrain (plan j.task (task_at ts k)).first (task_at ts k) j

members_only : (plan : ℕ → Task → Train) (b : ℕ) (ts : List Task) (j : Job) → Memᴰ j (trains plan b ts) → (k : ℕ) × Aboard plan b ts j k
unfolding trains task_at
members_only plan b [] j m = absurd (Memᴰ.not-nil m)
members_only plan b (τ ∷ ts) j m =
    go (members_only plan (suc b) ts j) (Memᴰ.append_cases (train (plan b τ).count 0 (plan b τ).first b τ) m)
  where
    go : (Memᴰ j (trains plan (suc b) ts) → (k : ℕ) × Aboard plan (suc b) ts j k)
        → Memᴰ j (train (plan b τ).count 0 (plan b τ).first b τ) ⊎ Memᴰ j (trains plan (suc b) ts)
        → (k : ℕ) × Aboard plan b (τ ∷ ts) j k
    go ih (inl h) =
        let x = (train_members (plan b τ).count (plan b τ).first b τ j).0 h in
        let e = x.0 in
        (0, record { place = omega arith; known = omega arith; counted = rw e x.1; on_train = subst (λ (n : ℕ). OnTrain (plan n τ).first τ j) (sym e) x.2 })
    go ih (inr h) =
        let (k, x) = ih h in
        (suc k, record { place = omega arith; known = omega arith; counted = x.counted; on_train = x.on_train })

members_has : (plan : ℕ → Task → Train) (b : ℕ) (ts : List Task) (j : Job) (k : ℕ) → Aboard plan b ts j k → Memᴰ j (trains plan b ts)
unfolding trains task_at
members_has plan b [] j k x = absurd (omega arith)
members_has plan b (τ ∷ ts) j zero x =
    let e : j.task ≡ b = omega arith in
    Memᴰ.append_left _
    ((train_members (plan b τ).count (plan b τ).first b τ j).1
    (e, rw e at x.counted, subst (λ (n : ℕ). OnTrain (plan n τ).first τ j) e x.on_train))
members_has plan b (τ ∷ ts) j (suc k) x =
    Memᴰ.append_right (train (plan b τ).count 0 (plan b τ).first b τ)
    (members_has plan (suc b) ts j k (record { place = omega arith; known = omega arith; counted = x.counted; on_train = x.on_train }))

-- the task of a job
abbrev pub task_of : List Task → Job → Task
task_of ts j = task_at ts j.task

-- the jobs of the trains of all tasks: those on their task's train, with a number below its count
pub trains_members : (plan : ℕ → Task → Train) (ts : List Task) (j : Job)
    → Memᴰ j (trains plan 0 ts)
    ↔ ((j.task < length ts) × (j.number < (plan j.task (task_of ts j)).count) × OnTrain (plan j.task (task_of ts j)).first (task_of ts j) j)
trains_members plan ts j = (
  λ m. let (k, x) = members_only plan 0 ts j m in of k x (omega arith),
  λ x. members_has plan 0 ts j j.task (record { place = omega arith; known = x.0; counted = x.1; on_train = x.2 }),
)
  where
    On : ℕ → Type 0
    On k = (k < length ts) × (j.number < (plan j.task (task_at ts k)).count) × OnTrain (plan j.task (task_at ts k)).first (task_at ts k) j

    of : (k : ℕ) → Aboard plan 0 ts j k → k ≡ j.task → On j.task
    of k x e = subst On e (x.known, x.counted, x.on_train)

-- the jobs of the concrete schedule are those of the tasks' trains from R on that are released before Z
pub concrete_members : (Z : ℕ) (ts : List Task) (j : Job) → AllSound ts
    → Memᴰ j (concrete Z ts) ↔ ((j.task < length ts) × (j.release < Z) × OnTrain (task_of ts j).R (task_of ts j) j)
unfolding planned concrete_train
concrete_members Z ts j sound = (
  λ m. let x = all.0 m in (x.0, let l = (counts x.0).0 x.1 in omega arith, x.2),
  λ x. all.1 (x.0, (counts x.0).1 (omega arith), x.2),
)
  where
    all : Memᴰ j (trains (concrete_train Z) 0 ts) ↔ ((j.task < length ts) × (j.number < count_before Z (task_of ts j)) × OnTrain (task_of ts j).R (task_of ts j) j)
    all = trains_members (concrete_train Z) ts j

    counts : j.task < length ts → (j.number < count_before Z (task_of ts j)) ↔ ((task_of ts j).R + j.number * (task_of ts j).T < Z)
    counts h = count_before_law Z j.number (task_of ts j) (task_at_sound ts sound j.task h).t_pos

-- of a train that begins at r, the jobs counted within L are those due by r + L
due_within : (L r : ℕ) (ts : List Task) (j : Job) → AllSound ts → j.task < length ts → OnTrain r (task_of ts j) j
    → (j.number < count_within L (task_of ts j)) ↔ (j.deadline ≤ r + L)
due_within L r ts j sound h o =
    let c = count_within_law L j.number (task_of ts j) (task_at_sound ts sound j.task h).t_pos in
    (λ x. let l = c.0 x in omega arith, λ x. c.1 (omega arith))

-- the named pattern's jobs of one task, by the train that is planned for it
module _ (L : ℕ) (ts : List Task) (j : Job) (f n : ℕ) where
  of_train : named_train L (blocker L ts) j.task (task_of ts j) ≡ record { first = f; count = n }
      → Memᴰ j (named L ts) ↔ ((j.task < length ts) × (j.number < n) × OnTrain f (task_of ts j) j)
  unfolding planned
  of_train e =
      subst (λ (t : Train). Memᴰ j (trains (named_train L (blocker L ts)) 0 ts) ↔ ((j.task < length ts) × (j.number < t.count) × OnTrain t.first (task_of ts j) j))
      e (trains_members (named_train L (blocker L ts)) ts j)

-- those of a train that begins at r and is counted within L are due by r + L
within_train : (L : ℕ) (ts : List Task) (j : Job) (r d : ℕ) → r + L ≡ d → AllSound ts
    → named_train L (blocker L ts) j.task (task_of ts j) ≡ record { first = r; count = count_within L (task_of ts j) }
    → Memᴰ j (named L ts) ↔ ((j.task < length ts) × (j.deadline ≤ d) × OnTrain r (task_of ts j) j)
within_train L ts j r d f sound e =
    let all = of_train L ts j r (count_within L (task_of ts j)) e in (
      λ m. let x = all.0 m in (x.0, let l = (due_within L r ts j sound x.0 x.2).0 x.1 in omega arith, x.2),
      λ x. all.1 (x.0, (due_within L r ts j sound x.0 x.2).1 (omega arith), x.2),
    )

-- without a blocker the named pattern's jobs are those of the tasks' trains from 0 on that are due by L
pub named_members : (L : ℕ) (ts : List Task) (j : Job) → AllSound ts → blocker L ts ≡ None
    → Memᴰ j (named L ts) ↔ ((j.task < length ts) × (j.deadline ≤ L) × OnTrain 0 (task_of ts j) j)
unfolding named_train
named_members L ts j sound e = within_train L ts j 0 L (omega arith) sound (rw e)

-- with a blocker they are its first job, released at 0,
pub named_blocker : (L b : ℕ) (ts : List Task) (j : Job) → blocker L ts ≡ Some b → j.task ≡ b
    → Memᴰ j (named L ts) ↔ ((j.task < length ts) × (j.number ≡ 0) × OnTrain 0 (task_of ts j) j)
unfolding named_train
named_blocker L b ts j e h =
    let all = of_train L ts j 0 1 (rw (e, eq-eqb j.task b h)) in
    (λ m. let x = all.0 m in (x.0, omega arith, x.2), λ x. all.1 (x.0, omega arith, x.2))

-- and those of the other tasks' trains from 1 on that are due by L + 1
pub named_others : (L b : ℕ) (ts : List Task) (j : Job) → AllSound ts → blocker L ts ≡ Some b → (j.task ≡ b → ⊥)
    → Memᴰ j (named L ts) ↔ ((j.task < length ts) × (j.deadline ≤ L + 1) × OnTrain 1 (task_of ts j) j)
unfolding named_train
named_others L b ts j sound e h = within_train L ts j 1 (L + 1) (omega arith) sound (rw (e, ne_eqb j.task b h))
