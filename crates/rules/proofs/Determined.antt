-- The dispatcher's rules leave one possibility: whatever rows obey them are those that it gives.
use mathlib.Core.Path.{◌≡◌, refl, sym, ap, ◌∙◌}
use mathlib.Core.Logic.{◌↔◌}
use Prim.Native.Nat.{ℕ, zero, suc, ◌+◌, ◌≤◌, ◌<◌}
use native.Mathlib.Omega.{arith}
use native.Mathlib.Decide.{dec_lt}
use mathlib.Core.List.Memᴰ
use mathlib.Core.List.{List, [], ◌∷◌, Memᴰ}
use lib.ListN.{length}
use Rattle.rules.specs.Task.{task_at, AllSound}
use Rattle.rules.specs.declared.Task.{Task}
use Rattle.rules.specs.Dispatch.{Job, Row, finish, pick, without, earliest, ready, rows, dispatch, late_job}
use Rattle.rules.specs.Jobs.{plan_train, planned}
use Rattle.rules.specs.declared.Plan.{Plan}
use Rattle.rules.specs.Legal.{Legal}
use Rattle.rules.proofs.Trains.{trains_legal}
use Rattle.rules.proofs.Taken.{Taken, taken_mem, taken_cases, taken_length, taken_distinct, without_taken, Distinct}
use Rattle.rules.proofs.Legal.{task_at_sound, legal_fits, legal_distinct}
use Rattle.rules.proofs.Picked.{Picked, Pick, nobody, somebody, picks, earliest_least, earliest_some}
use Rattle.rules.specs.Policy.{row_at, NotStarted, Obeys, NamedLate}
use Rattle.rules.proofs.Runs.{distinct_run, run_jobs}
use Rattle.rules.proofs.Dispatcher.{taken_gone, dispatch_obeys}
use Rattle.rules.proofs.LateJob.{late_only}
use Rattle.std.specs.Prelude.{Option, Some, None}

-- two jobs of one task never have the same deadline
abbrev pub NoTies : List Job → Type 0
NoTies js = (i : Job) → Memᴰ i js → (j : Job) → Memᴰ j js → i.task ≡ j.task → i.deadline ≡ j.deadline → i ≡ j

-- the first row of rows that obey the rules, and the others
module _ (t : ℕ) (i : Job) (js : List Job) (w : Row) (ws : List Row) (x : Obeys t (i ∷ js) (w ∷ ws)) where
  -- it starts at once, or at the next release
  starts : w.start ≡ ready t (i ∷ js)
  unfolding ready
  starts = go (dec_lt t w.start)
    where
      low : earliest i js ≤ w.start
      low =
          let a = earliest_least i js w.job (x.of_jobs 0 (omega arith)) in
          let b = x.not_early 0 (omega arith) in
          omega arith

      go : Dec (t < w.start) → w.start ≡ ready t (i ∷ js)
      go (yes l) =
          let e = earliest_some i js in
          let a = x.never_idle 0 (omega arith) e.0 e.1 (λ k h. absurd (omega arith)) l in
          let b = low in
          omega arith
      go (no l) = let a = x.tile_free 0 (omega arith) in let b = low in omega arith

  -- its job is the one picked
  picked : NoTies (i ∷ js) → (j : Job) → Picked (ready t (i ∷ js)) (i ∷ js) j → w.job ≡ j
  picked ties j P =
      let m = x.of_jobs 0 (omega arith) in
      let s = starts in
      let a = P.first w.job m (let r = x.not_early 0 (omega arith) in omega arith) in
      let b = x.least_first 0 (omega arith) j P.mem (λ k h. absurd (omega arith)) (let r = P.come in omega arith) in
      let q : w.job.deadline ≡ j.deadline = omega arith in
      ties w.job m j P.mem (let u = a.task (sym q) in let v = b.task q in omega arith) q

  -- the others obey the rules for the jobs that are left
  others : (ks : List Job) → Distinct (i ∷ js) → Taken w.job (i ∷ js) ks → Obeys (finish w) ks ws
  others ks d K = record {
    of_jobs = λ k h.
        taken_cases K (row_at ws k).job (x.of_jobs (suc k) (omega arith)) (Memᴰ (row_at ws k).job ks)
        (λ q. absurd (x.once 0 (suc k) (omega arith) (omega arith) (sym q))) (λ m. m);
    every_job = λ j m. place j m (x.every_job j (taken_mem K j m));
    once = λ a k l h. x.once (suc a) (suc k) (omega arith) (omega arith);
    as_many = let a = taken_length K in let b = x.as_many in omega arith;
    not_early = λ k h. x.not_early (suc k) (omega arith);
    tile_free = λ k h. x.tile_free (suc k) (omega arith);
    no_overlap = λ a k l h. x.no_overlap (suc a) (suc k) (omega arith) (omega arith);
    in_order = λ a k l h. x.in_order (suc a) (suc k) (omega arith) (omega arith);
    never_idle = λ k h j m n. x.never_idle (suc k) (omega arith) j (taken_mem K j m) (not_yet j m k n);
    least_first = λ k h j m n. x.least_first (suc k) (omega arith) j (taken_mem K j m) (not_yet j m k n);
  }
    where
      place : (j : Job) → Memᴰ j ks → (k : ℕ) × (k < length (w ∷ ws)) × ((row_at (w ∷ ws) k).job ≡ j)
          → (k : ℕ) × (k < length ws) × ((row_at ws k).job ≡ j)
      place j m (zero, h, q) = absurd (taken_gone K d j m (sym q))
      place j m (suc k, h, q) = (k, omega arith, q)

      not_yet : (j : Job) → Memᴰ j ks → (k : ℕ) → NotStarted ws k j → NotStarted (w ∷ ws) (suc k) j
      not_yet j m k n zero h q = taken_gone K d j m (sym q)
      not_yet j m k n (suc l) h q = n l (omega arith) q

obeys_rows : (n t : ℕ) (js : List Job) (ws : List Row) → length js ≡ n → Distinct js → NoTies js → Obeys t js ws → ws ≡ rows n t js
unfolding rows finish
obeys_rows zero t js [] e d ties x = refl
obeys_rows zero t js (w ∷ ws) e d ties x = let a = x.as_many in absurd (omega arith)
obeys_rows (suc n) t [] ws e d ties x = absurd (omega arith)
obeys_rows (suc n) t (i ∷ js) [] e d ties x = let a = x.as_many in absurd (omega arith)
obeys_rows (suc n) t (i ∷ js) (w ∷ ws) e d ties x =
    go (pick (ready t (i ∷ js)) (i ∷ js)) (picks (ready t (i ∷ js)) (i ∷ js))
    (ap (λ (vs : List Row). w ∷ vs)
    (obeys_rows n (finish w) (without w.job (i ∷ js)) ws (let l = taken_length K in omega arith) (taken_distinct K d)
    (λ a m b o. ties a (taken_mem K a m) b (taken_mem K b o)) (others t i js w ws x (without w.job (i ∷ js)) d K)))
  where
    mem : Memᴰ w.job (i ∷ js)
    mem = x.of_jobs 0 (omega arith)

    K : Taken w.job (i ∷ js) (without w.job (i ∷ js))
    K = without_taken (i ∷ js) d w.job mem

    -- the row of a job and its start, and what follows it
    from : Job → ℕ → List Row
    from j s = record { job = j; start = s } ∷ rows n (s + j.run) (without j (i ∷ js))

    go : (o : Option Job) → Pick (ready t (i ∷ js)) (i ∷ js) o → w ∷ ws ≡ from w.job w.start
        → w ∷ ws ≡ (elim o as (λ _. List Row) [
          | None ↦ []
          | Some j ↦ record { job = j; start = ready t (i ∷ js) } ∷ rows n (ready t (i ∷ js) + j.run) (without j (i ∷ js))
        ])
    go None (nobody f) ih =
        let a = f w.job mem in
        let b = x.not_early 0 (omega arith) in
        let s = starts t i js w ws x in
        absurd (omega arith)
    go (Some j) (somebody P) ih = ih ∙ (λ y. from (picked t i js w ws x ties j P y) (starts t i js w ws x y))

-- the rows that obey the rules are those that the dispatcher gives, and no others
pub dispatch_only : (js : List Job) → Distinct js → NoTies js → (ws : List Row) → Obeys 0 js ws ↔ (ws ≡ dispatch js)
unfolding dispatch
dispatch_only js d ties ws = (obeys_rows (length js) 0 js ws refl d ties, λ e. rw e (dispatch_obeys js d))

-- in a legal pattern two jobs of one task never have the same deadline
legal_ties : (ts : List Task) → AllSound ts → (js : List Job) → Legal ts js → NoTies js
legal_ties ts sound [] l = λ i m. absurd (Memᴰ.not-nil m)
legal_ties ts sound (h ∷ js) l = go (legal_ties ts sound js l.2)
  where
    clash : (j : Job) → Memᴰ j js → h.task ≡ j.task → h.deadline ≡ j.deadline → ⊥
    clash j m e f =
        let a = (l.1 j m).gap e in
        let p = (task_at_sound ts sound h.task l.0.known).t_pos in
        let b = l.0.due in
        let c = (legal_fits ts js l.2 j m).due in
        let g = ap (λ (k : ℕ). (task_at ts k).D) e in
        omega arith

    go : NoTies js → NoTies (h ∷ js)
    go ih i (Memᴰ.head p) j (Memᴰ.head q) e f = p ∙ sym q
    go ih i (Memᴰ.head p) j (Memᴰ.tail n) e f = absurd (clash j n (rw (← p) e) (rw (← p) f))
    go ih i (Memᴰ.tail m) j (Memᴰ.head q) e f = absurd (clash i m (rw (← q) (sym e)) (rw (← q) (sym f)))
    go ih i (Memᴰ.tail m) j (Memᴰ.tail n) e f = ih i m j n e f

-- so it is for every legal pattern
pub legal_only : (ts : List Task) → AllSound ts → (js : List Job) → Legal ts js → (ws : List Row) → Obeys 0 js ws ↔ (ws ≡ dispatch js)
legal_only ts sound js l = dispatch_only js (legal_distinct ts sound js l) (legal_ties ts sound js l)

-- so it is for the jobs of any plan, whose trains make a legal pattern
pub planned_legal : (p : Plan) (ts : List Task) → AllSound ts → Legal ts (planned p ts)
unfolding planned
planned_legal p ts sound = trains_legal (plan_train p) ts sound

pub planned_only : (p : Plan) (ts : List Task) → AllSound ts → (ws : List Row) → Obeys 0 (planned p ts) ws ↔ (ws ≡ dispatch (planned p ts))
planned_only p ts sound = legal_only ts sound (planned p ts) (planned_legal p ts sound)

-- and the late job of a legal pattern that is named is the only one that can be
pub legal_late : (ts : List Task) → AllSound ts → (js : List Job) → Legal ts js → (w : Row) → NamedLate (dispatch js) w
    → late_job (dispatch js) ≡ Some w.job
legal_late ts sound js l =
    let jobs = run_jobs (distinct_run js (legal_distinct ts sound js l)) in
    late_only (dispatch js) (λ v m u n. legal_ties ts sound js l v.job (jobs v m) u.job (jobs u n))
