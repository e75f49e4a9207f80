-- MEETS: where no length below a closing span fails, every legal pattern is run in time.
-- One forward induction along the run, for a fixed deadline d, with two ticks carried: the start of the busy stretch,
-- and the start of the window that matters for d.
use mathlib.Core.Path.{◌≡◌}
use mathlib.Core.Logic.{◌⊎◌, inl, inr}
use Prim.Native.Nat.{ℕ, zero, suc, ◌+◌, ◌-◌, ◌*◌, ◌/◌, ◌≤◌, ◌<◌}
use native.Mathlib.Nat.{mul-pos}
use native.Mathlib.Omega.{arith}
use mathlib.Core.List.Memᴰ
use mathlib.Core.List.{List, [], ◌∷◌, Memᴰ}
use mathlib.Core.Bool.{true, false}
use borrow.Author.Tests.{leb-true, ltb-true, ltb-false, le-leb, le-ltb}
use lib.Dec.{leb, ltb}
use lib.ListN.{length}
use Rattle.rules.specs.Task.{task_at, Sound, AllSound}
use Rattle.rules.specs.declared.Task.{Task}
use Rattle.rules.specs.Dispatch.{Job, Row, finish, late, earliest, ready, dispatch}
use Rattle.rules.specs.Legal.{Fits, Legal}
use Rattle.rules.specs.Demand.{total_due, longest_wait, fails, work, closes}
use Rattle.rules.proofs.Booleans.{lt_or_ge}
use Rattle.rules.proofs.Taken.{Taken, taken_mem}
use Rattle.rules.proofs.Legal.{task_at_sound, legal_fits, taken_legal}
use Rattle.rules.proofs.Picked.{earliest_least, earliest_some, Picked}
use Rattle.rules.proofs.Runs.{Run, done, step, dispatch_run}
use Rattle.rules.proofs.Loads.{total, total_some, total_drops, due_by, early, is_due, is_early, count_due, count_work}
use Rattle.rules.proofs.Blockers.{wait_most}
use Rattle.rules.proofs.Verdicts.{closes_when, due_in}

-- a length that does not fail, and within which work is due, holds it and the wait
fails_false : (L : ℕ) (ts : List Task) → fails L ts ≡ false → 1 ≤ total_due L ts → total_due L ts + longest_wait L ts ≤ L
unfolding fails
fails_false L ts e h = ltb-false _ _ (rw (le-leb 1 (total_due L ts) h) at e)

-- a task with D at most L has work in Due L
due_some : (L : ℕ) (ts : List Task) (k : ℕ) → k < length ts → (task_at ts k).D ≤ L → 1 ≤ (task_at ts k).C → 1 ≤ total_due L ts
unfolding total_due task_at
due_some L [] k h d c = absurd (omega arith)
due_some L (τ ∷ ts) zero h d c =
    let p : 0 < τ.C * (1 + (L - τ.D) / τ.T) = mul-pos c (omega arith) in
    omega (arith, due_in L τ d)
due_some L (τ ∷ ts) (suc k) h d c = let ih = due_some L ts k (omega arith) d c in omega arith

-- the tile is free from t on, and js are the jobs not yet started
pub record Busy (ts : List Task) (σ d t : ℕ) (js : List Job) : Type 0 where
  -- since b the tile has been busy; nothing released before a comes between a job due by d and its deadline, but for one wait
  pub b : ℕ
  pub a : ℕ
  pub order : b ≤ a
  pub from_b : (j : Job) → Memᴰ j js → b ≤ j.release
  pub span : t + total (early (b + σ)) js ≤ b + σ
  pub from_a : (j : Job) → Memᴰ j js → j.deadline ≤ d → a ≤ j.release
  pub room : t + total (due_by d) js ≤ a + (total_due (d - a) ts + longest_wait (d - a) ts)

module _ (ts : List Task) (sound : AllSound ts) (σ : ℕ) (pos : 1 ≤ σ) (closed : work σ ts ≤ σ) where
  -- no job was released before s: a stretch begins there
  fresh : (d s : ℕ) (js : List Job) → Legal ts js → ((j : Job) → Memᴰ j js → s ≤ j.release) → Busy ts σ d s js
  fresh d s js l from =
      let w = count_work ts sound js l s σ from in
      let c = count_due ts sound js l s d (λ j m h. from j m) in
      record { b = s; a = s; order = omega arith; from_b = from; span = omega arith; from_a = λ j m h. from j m; room = omega arith }

  -- the next job starts inside the stretch: at once, or a new stretch begins with it
  start : (d t : ℕ) (j : Job) (js : List Job) → Legal ts (j ∷ js) → Busy ts σ d t (j ∷ js)
      → (B : Busy ts σ d (ready t (j ∷ js)) (j ∷ js)) × (ready t (j ∷ js) < B.b + σ)
  unfolding ready fresh
  start d t j js l B = go (lt_or_ge (earliest j js) t)
    where
      go : (ltb (earliest j js) t ≡ true) ⊎ (leb t (earliest j js) ≡ true)
          → (B : Busy ts σ d (ready t (j ∷ js)) (j ∷ js)) × (ready t (j ∷ js) < B.b + σ)
      go (inr e) =
          let le = leb-true t (earliest j js) e in
          (fresh d (ready t (j ∷ js)) (j ∷ js) l (λ i m. let h = earliest_least j js i m in omega arith), omega arith)
      go (inl e) =
          let lt = ltb-true (earliest j js) t e in
          let x = earliest_some j js in
          let one = total_some (early (B.b + σ)) (j ∷ js) x.0 x.1 (is_early (B.b + σ) x.0 (omega arith)) in
          let f = (legal_fits ts (j ∷ js) l x.0 x.1).runs in
          (record { b = B.b; a = B.a; order = B.order; from_b = B.from_b; span = omega arith; from_a = B.from_a; room = omega arith }, omega arith)

  -- s: when j, the job picked of js, starts; ks: the others
  module _ (d s : ℕ) (j : Job) (js ks : List Job) (l : Legal ts js) (P : Picked s js j) (gone : Taken j js ks)
      (B : Busy ts σ d s js) (inside : s < B.b + σ) where
    fits : Fits ts j
    fits = legal_fits ts js l j P.mem

    its_task : Sound (task_at ts j.task)
    its_task = task_at_sound ts sound j.task fits.known

    -- it is due after d: no job due by d is released yet
    still : d < j.deadline → (i : Job) → Memᴰ i ks → i.deadline ≤ d → s + 1 ≤ i.release
    still h i m le = by (lt_or_ge s i.release)
      where
        by : (ltb s i.release ≡ true) ⊎ (leb i.release s ≡ true) → s + 1 ≤ i.release
        by (inl e) = omega (arith, ltb-true)
        by (inr e) = let f = P.first i (taken_mem gone i m) (leb-true _ _ e) in omega arith

    -- after the job that was picked the stretch goes on
    next : Busy ts σ d (s + j.run) ks
    next = go (lt_or_ge d j.deadline)
      where
        from_b : (i : Job) → Memᴰ i ks → B.b ≤ i.release
        from_b i m = B.from_b i (taken_mem gone i m)

        span : s + j.run + total (early (B.b + σ)) ks ≤ B.b + σ
        span =
            let e = total_drops (early (B.b + σ)) gone (is_early (B.b + σ) j (omega arith)) in
            omega arith

        go : (ltb d j.deadline ≡ true) ⊎ (leb j.deadline d ≡ true) → Busy ts σ d (s + j.run) ks
        go (inr e) =
            let k = total_drops (due_by d) gone (is_due d j (leb-true _ _ e)) in
            record { b = B.b; a = B.a; order = B.order; from_b = from_b; span = span; from_a = λ i m. B.from_a i (taken_mem gone i m); room = omega arith }
        go (inl e) =
            let h : d < j.deadline = ltb-true _ _ e in
            let c = count_due ts sound ks (taken_legal ts gone l) (s + 1) d (still h) in
            let q = B.from_b j P.mem in
            let f = fits in
            let z = its_task.d_pos in
            let w = wait_most (d - (s + 1)) ts j.task fits.known (omega arith) in
            record { b = B.b; a = s + 1; order = omega arith; from_b = from_b; span = span; from_a = still h; room = omega arith }

    -- if the job that was picked is due by d, it ends by d
    on_time : ((L : ℕ) → 1 ≤ L → L < σ → fails L ts ≡ false) → j.deadline ≤ d → s + j.run ≤ d
    on_time ok h = go (lt_or_ge (d - B.a) σ)
      where
        window : B.a + (task_at ts j.task).D ≤ d
        window = let q = B.from_a j P.mem h in let r = fits.due in omega arith

        go : (ltb (d - B.a) σ ≡ true) ⊎ (leb σ (d - B.a) ≡ true) → s + j.run ≤ d
        go (inl e) =
            let i = window in
            let z = its_task.d_pos in
            let Some = due_some (d - B.a) ts j.task fits.known (omega arith) its_task.c_pos in
            let k = fails_false (d - B.a) ts (ok (d - B.a) (omega arith) (ltb-true _ _ e)) Some in
            omega (arith, total_some (due_by d) js j P.mem (is_due d j h))
        go (inr e) =
            let i = window in
            let k : σ ≤ d - B.a = leb-true _ _ e in
            let z = its_task.d_pos in
            omega (arith, total_some (early (B.b + σ)) js j P.mem (is_early (B.b + σ) j (omega arith)))

  -- the rows that are due by d end by d
  run_meets : ((L : ℕ) → 1 ≤ L → L < σ → fails L ts ≡ false) → (d : ℕ) {t : ℕ} {js : List Job} {ws : List Row} → Run t js ws
      → Legal ts js → Busy ts σ d t js → (w : Row) → Memᴰ w ws → w.job.deadline ≤ d → finish w ≤ d
  unfolding finish
  run_meets ok d done l B w m h = absurd (Memᴰ.not-nil m)
  run_meets ok d {t} (step {i = i} {j = j} {js = is} {ks = ks} {ws = us} s e P k r) l B w m h = go m (λ x y n. run_meets ok d r x y w n h)
    where
      here : (B : Busy ts σ d s (i ∷ is)) × (s < B.b + σ)
      here = rw e (start d t i is l B)

      go : Memᴰ w (record { job = j; start = s } ∷ us)
          → (Legal ts ks → Busy ts σ d (s + j.run) ks → Memᴰ w us → finish w ≤ d) → finish w ≤ d
      go (Memᴰ.head q) ih = rw q (on_time d s j (i ∷ is) ks l P k here.0 here.1 ok (rw q at h))
      go (Memᴰ.tail n) ih = ih (taken_legal ts k l) (next d s j (i ∷ is) ks l P k here.0 here.1) n

-- MEETS: it is enough that no length below a closing span fails
pub meets : (ts : List Task) → AllSound ts → (σ : ℕ) → 1 ≤ σ → closes σ ts ≡ true
    → ((L : ℕ) → 1 ≤ L → L < σ → fails L ts ≡ false)
    → (js : List Job) → Legal ts js → (w : Row) → Memᴰ w (dispatch js) → late w ≡ false
unfolding late
meets ts sound σ pos e ok js l w m =
    let closed = (closes_when ts σ).0 e in
    let free = fresh ts sound σ pos closed w.job.deadline 0 js l (λ j n. omega arith) in
    le-ltb _ _ (run_meets ts sound σ pos closed ok w.job.deadline (dispatch_run ts sound js l) l free w m (omega arith))
