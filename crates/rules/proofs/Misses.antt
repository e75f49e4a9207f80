-- MISSES: the pattern that a failing length names is legal, all of it runs for C, and some row of it is late.
use Rattle.std.specs.Prelude.{if◌then◌else◌, Option, Some, None}
use mathlib.Core.Path.{◌≡◌, refl, sym, ap, ◌∙◌}
use Prim.Native.Nat.{ℕ, zero, suc, ◌+◌, ◌*◌, ◌≤◌, ◌<◌}
use native.Mathlib.Nat.{mul-suc}
use native.Mathlib.Omega.{arith}
use mathlib.Core.List.{List, [], ◌∷◌, ◌++◌, Memᴰ}
use mathlib.Core.Bool.{Bool, true, false}
use borrow.Author.Tests.{leb-true, eqb-true, eqb-false, le-leb}
use lib.Dec.{eqb}
use lib.ListN.{length}
use Rattle.rules.specs.Task.{task_at, AllSound}
use Rattle.rules.specs.declared.Task.{Task}
use Rattle.rules.specs.Dispatch.{Job, dispatch}
use Rattle.rules.specs.Jobs.{Train, train, trains, planned, named_train, named}
use Rattle.rules.specs.Legal.{Legal}
use Rattle.rules.specs.Demand.{count_within, due, total_due, longest_wait, fails, blocker, Blocks}
use Rattle.rules.proofs.TasksFrom.{Rest, rest_all, rest_here, rest_next}
use Rattle.rules.proofs.Members.{trains_members, named_members, named_blocker, named_others}
use Rattle.rules.proofs.Trains.{train_of, trains_legal}
use Rattle.rules.proofs.Runs.{dispatch_run}
use Rattle.rules.proofs.Loads.{amount, total, since, due_load}
use Rattle.rules.proofs.Blockers.{wait_most, wait_reached, blocker_task, blocker_nobody}
use Rattle.rules.proofs.Verdicts.{fails_when, due_out}
use Rattle.rules.proofs.Overfull.{LateIn, late_run, late_behind}

total_append : (p : Job → Bool) (xs ys : List Job) → total p (xs ++ ys) ≡ total p xs + total p ys
unfolding total
total_append p [] ys = omega arith
total_append p (x ∷ xs) ys = let ih = total_append p xs ys in omega arith

-- a train that starts at x or later
train_total : (x n q r k : ℕ) (τ : Task) → x ≤ r → total (since x) (train n q r k τ) ≡ τ.C * n
unfolding total train amount since
train_total x zero q r k τ h = omega arith
train_total x (suc n) q r k τ h =
    let ih : total (since x) (train n (suc q) (r + τ.T) k τ) ≡ τ.C * n = train_total x n (suc q) (r + τ.T) k τ (omega arith) in
    rw (le-leb x r h) (omega (arith, mul-suc τ.C n))

-- if the train of each task brings what is due of it, the trains bring Due
trains_total : (ts : List Task) (plan : ℕ → Task → Train) (L : ℕ) (p : Job → Bool)
    → ((k : ℕ) → k < length ts → total p (train_of plan k (task_at ts k)) ≡ due L (task_at ts k))
    → (k : ℕ) (us : List Task) → Rest ts k us → total p (trains plan k us) ≡ total_due L us
unfolding trains total_due total
trains_total ts plan L p each k [] R = refl
trains_total ts plan L p each k (τ ∷ us) R =
    let one : total p (train_of plan k τ) ≡ due L τ = rw (rest_here ts k τ us R) (each k (omega arith)) in
    let ih = trains_total ts plan L p each (suc k) us (rest_next ts k τ us R) in
    omega (arith, total_append p (train_of plan k τ) (trains plan (suc k) us))

module _ (ts : List Task) (sound : AllSound ts) (L : ℕ) where
  named_legal : Legal ts (named L ts)
  unfolding planned
  named_legal = trains_legal (named_train L (blocker L ts)) ts sound

  named_full : (j : Job) → Memᴰ j (named L ts) → j.run ≡ (task_at ts j.task).C
  unfolding planned
  named_full j m = ((trains_members (named_train L (blocker L ts)) ts j).0 m).2.runs

  module _ (some : 1 ≤ total_due L ts) (more : L < total_due L ts + longest_wait L ts) where
    -- without a blocker: more is due by L than fits
    alone : blocker L ts ≡ None → LateIn (dispatch (named L ts))
    unfolding planned named_train
    alone e =
        let w = (blocker_nobody L ts).0 e in
        let t : total (since 0) (named L ts) ≡ total_due L ts = trains_total ts (named_train L (blocker L ts)) L (since 0) each 0 ts (rest_all ts) in
        late_run (since 0) L (dispatch_run ts sound (named L ts) named_legal) (λ j m z. ((named_members L ts j sound e).0 m).1) (omega arith) (omega arith)
      where
        each : (k : ℕ) → k < length ts → total (since 0) (train_of (named_train L (blocker L ts)) k (task_at ts k)) ≡ due L (task_at ts k)
        each k h = rw e (train_total 0 (count_within L (task_at ts k)) 0 0 k (task_at ts k) (omega arith) ∙ due_load L (task_at ts k))

    -- with one: it runs first, and behind it more is due by L + 1 than fits
    behind : (b : ℕ) → blocker L ts ≡ Some b → LateIn (dispatch (named L ts))
    unfolding planned named_train train total amount since
    behind b e =
        let c = cost in
        let t : total (since 1) (named L ts) ≡ total_due L ts = trains_total ts (named_train L (blocker L ts)) L (since 1) each 0 ts (rest_all ts) in
        late_behind (L + 1) (task_at ts b).C (dispatch_run ts sound (named L ts) named_legal) first first_in refl
        (λ j m z. full j m z (eqb j.task b) refl) (λ j m z. by j m z (eqb j.task b) refl) (omega arith) (omega arith)
      where
        B : Blocks L ts b
        B = ((blocker_task L ts b).0 e).1

        cost : (task_at ts b).C ≡ 1 + longest_wait L ts
        cost =
            let pos = ((blocker_task L ts b).0 e).0 in
            let (k, known, above, reaches) = wait_reached L ts pos in
            let most = wait_most L ts b B.known B.above in
            let greatest = B.greatest k known above in
            omega arith

        each : (k : ℕ) → k < length ts → total (since 1) (train_of (named_train L (blocker L ts)) k (task_at ts k)) ≡ due L (task_at ts k)
        each k h = rw e (go (eqb k b) refl)
          where
            plan : Bool → Train
            plan c = if c then record { first = 0; count = 1 } else record { first = 1; count = count_within L (task_at ts k) }

            go : (c : Bool) → eqb k b ≡ c → total (since 1) (train (plan c).count 0 (plan c).first k (task_at ts k)) ≡ due L (task_at ts k)
            go true q = let a : L < (task_at ts k).D = rw (eqb-true k b q) B.above in sym (due_out L (task_at ts k) a)
            go false q = train_total 1 (count_within L (task_at ts k)) 0 1 k (task_at ts k) (omega arith) ∙ due_load L (task_at ts k)

        first : Job
        first = record { task = b; number = 0; release = 0; deadline = (task_at ts b).D; run = (task_at ts b).C }

        first_in : Memᴰ first (named L ts)
        first_in = (named_blocker L b ts first e refl).1 (B.known, refl, record { released = omega arith; due = omega arith; runs = refl })

        -- a job released at 0 is the blocker's; one released later is another's
        full : (j : Job) → Memᴰ j (named L ts) → j.release ≡ 0 → (c : Bool) → eqb j.task b ≡ c → j.run ≡ (task_at ts b).C
        full j m z true q = let same : j.task ≡ b = eqb-true _ _ q in rw same at (named_full j m)
        full j m z false q = let o = ((named_others L b ts j sound e (eqb-false _ _ q)).0 m).2.released in absurd (omega arith)

        by : (j : Job) → Memᴰ j (named L ts) → since 1 j ≡ true → (c : Bool) → eqb j.task b ≡ c → j.deadline ≤ L + 1
        by j m z true q =
            let x = (named_blocker L b ts j e (eqb-true _ _ q)).0 m in
            let n = ap (λ (i : ℕ). i * (task_at ts j.task).T) x.1 in
            let o = x.2.released in
            absurd (omega (arith, leb-true))
        by j m z false q = ((named_others L b ts j sound e (eqb-false _ _ q)).0 m).1

-- MISSES: for any length that fails, not only the least
pub misses : (ts : List Task) → AllSound ts → (L : ℕ) → fails L ts ≡ true
    → Legal ts (named L ts) × ((j : Job) → Memᴰ j (named L ts) → j.run ≡ (task_at ts j.task).C) × LateIn (dispatch (named L ts))
misses ts sound L f = (named_legal ts sound L, named_full ts sound L, go (blocker L ts) refl)
  where
    facts : (1 ≤ total_due L ts) × (L < total_due L ts + longest_wait L ts)
    facts = (fails_when ts L).0 f

    go : (o : Option ℕ) → blocker L ts ≡ o → LateIn (dispatch (named L ts))
    go (Some b) e = behind ts sound L facts.0 facts.1 b e
    go None e = alone ts sound L facts.0 facts.1 e
