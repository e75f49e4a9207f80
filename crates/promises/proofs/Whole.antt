-- The dispatcher runs a legal pattern whole: each job has exactly one row, and no row is of another job.
use mathlib.Core.Path.{◌≡◌, refl, ap, ◌∙◌}
use Prim.Native.Nat.{ℕ}
use native.Mathlib.Omega.{arith}
use mathlib.Core.List.Memᴰ
use mathlib.Core.List.{List, Memᴰ}
use mathlib.Core.Bool.{false}
use Rattle.rules.specs.Task.{AllSound}
use Rattle.rules.specs.declared.Task.{Task}
use Rattle.rules.specs.Dispatch.{Job, Row, same}
use Rattle.rules.specs.Legal.{Legal}
use Rattle.rules.proofs.Taken.{taken_mem, taken_cases, same_self, differ_back, Distinct, taken_distinct, taken_differ}
use Rattle.rules.proofs.Legal.{legal_distinct}
use Rattle.rules.proofs.Runs.{Run, done, step, distinct_run, run_jobs}
use Rattle.promises.specs.Demands.{rows_for, Whole}

-- a job that differs from all that are run has no row
no_row : (j : Job) {t : ℕ} {js : List Job} {ws : List Row} → Run t js ws → ((i : Job) → Memᴰ i js → same j i ≡ false) → rows_for j ws ≡ 0
unfolding rows_for
no_row j done h = refl
no_row j (step {j = i} {ws = ws} s e P k r) h =
    let ih : rows_for j ws ≡ 0 = no_row j r (λ x m. h x (taken_mem k x m)) in
    rw (h i P.mem) (omega arith)

one_row : {t : ℕ} {js : List Job} {ws : List Row} → Run t js ws → Distinct js → (j : Job) → Memᴰ j js → rows_for j ws ≡ 1
unfolding rows_for
one_row done d j m = absurd (Memᴰ.not-nil m)
one_row (step {j = i} {ws = ws} s e P k r) d j m =
    taken_cases k j m _
    (λ q. let None : rows_for i ws ≡ 0 = no_row i r (taken_differ k d) in let none_of_j : rows_for j ws ≡ 0 = ap (λ x. rows_for x ws) q ∙ None in rw (q, same_self i) (omega arith))
    (λ n. let ih : rows_for j ws ≡ 1 = one_row r (taken_distinct k d) j n in rw (differ_back i j (taken_differ k d j n)) (omega arith))

pub legal_whole : (ts : List Task) → AllSound ts → (js : List Job) → Legal ts js → Whole js
legal_whole ts sound js l =
    let d = legal_distinct ts sound js l in
    record { each_once = one_row (distinct_run js d) d; no_other = run_jobs (distinct_run js d) }
