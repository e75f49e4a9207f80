-- The dispatcher's run as a relation: one step for each job.
use mathlib.Core.Path.{◌≡◌, refl, sym}
use Prim.Native.Nat.{ℕ, zero, suc, ◌+◌}
use mathlib.Core.List.Memᴰ
use mathlib.Core.List.{List, [], ◌∷◌, Memᴰ}
use native.Mathlib.Omega.{arith}
use lib.ListN.{length}
use Rattle.rules.specs.Task.{AllSound}
use Rattle.rules.specs.declared.Task.{Task}
use Rattle.rules.specs.Dispatch.{Job, Row, without, ready, pick, rows, dispatch}
use Rattle.rules.specs.Legal.{Legal}
use Rattle.rules.proofs.Taken.{Taken, taken_mem, taken_length, taken_cases, Distinct, taken_distinct, without_taken}
use Rattle.rules.proofs.Legal.{legal_distinct}
use Rattle.rules.proofs.Picked.{earliest_some, Picked, Pick, nobody, somebody, picks}
use Rattle.std.specs.Prelude.{Option, Some, None}

-- `Run t js ws`: with the tile free from tick t on, the jobs js run as the rows ws say
pub data Run : ℕ → List Job → List Row → Type 0 where
  done : {t : ℕ} → Run t [] []
  step : {t : ℕ} {i j : Job} {js ks : List Job} {ws : List Row} (s : ℕ) → s ≡ ready t (i ∷ js)
      → Picked s (i ∷ js) j → Taken j (i ∷ js) ks → Run (s + j.run) ks ws
      → Run t (i ∷ js) (record { job = j; start = s } ∷ ws)

-- the rows of a list whose jobs are distinct are such a run
rows_run : (n t : ℕ) (js : List Job) → Distinct js → length js ≡ n → Run t js (rows n t js)
unfolding rows
rows_run zero t [] d e = done
rows_run zero t (i ∷ js) d e = absurd (omega arith)
rows_run (suc n) t [] d e = absurd (omega arith)
rows_run (suc n) t (i ∷ js) d e = go (pick (ready t (i ∷ js)) (i ∷ js)) (picks (ready t (i ∷ js)) (i ∷ js)) (rows_run n)
  where
    go : (o : Option Job) → Pick (ready t (i ∷ js)) (i ∷ js) o
        → ((t : ℕ) (js : List Job) → Distinct js → length js ≡ n → Run t js (rows n t js))
        → Run t (i ∷ js) (elim o as (λ _. List Row) [ None ↦ [] | Some j ↦ record { job = j; start = ready t (i ∷ js) } ∷ rows n (ready t (i ∷ js) + j.run) (without j (i ∷ js)) ])
    go None (nobody f) ih = let x = earliest_some i js in let h = f x.0 x.1 in absurd (unfold ready in omega arith)
    go (Some j) (somebody P) ih =
        let k = without_taken (i ∷ js) d j P.mem in
        let len = taken_length k in
        step (ready t (i ∷ js)) refl P k (ih (ready t (i ∷ js) + j.run) (without j (i ∷ js)) (taken_distinct k d) (omega arith))

pub distinct_run : (js : List Job) → Distinct js → Run 0 js (dispatch js)
unfolding dispatch
distinct_run js d = rows_run (length js) 0 js d refl

pub dispatch_run : (ts : List Task) → AllSound ts → (js : List Job) → Legal ts js → Run 0 js (dispatch js)
dispatch_run ts sound js l = distinct_run js (legal_distinct ts sound js l)

-- a run has as many rows as jobs
pub run_length : {t : ℕ} {js : List Job} {ws : List Row} → Run t js ws → length ws ≡ length js
run_length done = refl
run_length (step s e P k r) = let h = taken_length k in let ih = run_length r in omega arith

-- every job has a row
pub run_covers : {t : ℕ} {js : List Job} {ws : List Row} → Run t js ws
    → (i : Job) → Memᴰ i js → (w : Row) × Memᴰ w ws × (w.job ≡ i)
run_covers done i m = absurd (Memᴰ.not-nil m)
run_covers (step {j = j} s e P k r) i m =
    taken_cases k i m _ (λ q. (record { job = j; start = s }, Memᴰ.head refl, sym q))
    (λ n. let x = run_covers r i n in (x.0, Memᴰ.tail x.1, x.2))

-- every row is of one of the jobs
pub run_jobs : {t : ℕ} {js : List Job} {ws : List Row} → Run t js ws → (w : Row) → Memᴰ w ws → Memᴰ w.job js
run_jobs done w m = absurd (Memᴰ.not-nil m)
run_jobs (step s e P k r) w (Memᴰ.head q) = rw q P.mem
run_jobs (step s e P k r) w (Memᴰ.tail m) = taken_mem k w.job (run_jobs r w m)
