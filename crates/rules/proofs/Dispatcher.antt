-- The dispatcher obeys document 01, "Dispatch", rule by rule, for any list of jobs that differ pairwise in task or number.
use mathlib.Core.Path.{◌≡◌, refl, sym, ap, ◌∙◌}
use Prim.Native.Nat.{ℕ, zero, suc, ◌+◌, ◌≤◌, ◌<◌}
use native.Mathlib.Omega.{arith}
use mathlib.Core.List.Memᴰ
use mathlib.Core.List.{List, [], ◌∷◌, Memᴰ}
use mathlib.Core.Bool.{false}
use lib.ListN.{length}
use Rattle.rules.specs.Task.{AllSound}
use Rattle.rules.specs.declared.Task.{Task}
use Rattle.rules.specs.Dispatch.{Job, Row, finish, same, ready, dispatch}
use Rattle.rules.specs.Legal.{Legal}
use Rattle.rules.proofs.Taken.{Taken, now, later, taken_in, taken_mem, taken_cases, taken_length, taken_distinct, same_false, Distinct}
use Rattle.rules.proofs.Legal.{legal_distinct}
use Rattle.rules.specs.Policy.{row_at, free_from, NotStarted, Obeys}
use Rattle.rules.proofs.Picked.{Picked, earliest_least}
use Rattle.rules.proofs.Runs.{Run, done, step, distinct_run}

-- a job taken out of such a list is not left in it
equal_same : (i j : Job) → i ≡ j → same i j ≡ false → ⊥
equal_same i j q e = same_false i j e (ap (λ (x : Job). x.task) q) (ap (λ (x : Job). x.number) q)

pub taken_gone : {j : Job} {js ks : List Job} → Taken j js ks → Distinct js → (i : Job) → Memᴰ i ks → i ≡ j → ⊥
taken_gone (now e) d i m q = equal_same _ _ (q ∙ e) (d.0 i m)
taken_gone (later t) d i (Memᴰ.head e) q = equal_same _ _ (sym q ∙ e) (d.0 _ (taken_in t))
taken_gone (later t) d i (Memᴰ.tail m) q = taken_gone t d.1 i m q

-- where each row starts when the tile is free, all start at t or later, and no two overlap
abbrev Free : ℕ → List Row → Type 0
Free t ws = (k : ℕ) → k < length ws → free_from t ws k ≤ (row_at ws k).start

free_after : (t : ℕ) (ws : List Row) → Free t ws → (k : ℕ) → k < length ws → t ≤ (row_at ws k).start
unfolding finish
free_after t [] f k h = absurd (omega arith)
free_after t (w ∷ ws) f zero h = f 0 h
free_after t (w ∷ ws) f (suc k) h =
    let a = f 0 (omega arith) in
    let b = free_after (finish w) ws (λ l m. f (suc l) (omega arith)) k (omega arith) in
    omega arith

free_apart : (t : ℕ) (ws : List Row) → Free t ws → (i k : ℕ) → i < k → k < length ws → finish (row_at ws i) ≤ (row_at ws k).start
free_apart t [] f i k l h = absurd (omega arith)
free_apart t (w ∷ ws) f i zero l h = absurd (omega arith)
free_apart t (w ∷ ws) f zero (suc k) l h = free_after (finish w) ws (λ x m. f (suc x) (omega arith)) k (omega arith)
free_apart t (w ∷ ws) f (suc i) (suc k) l h = free_apart (finish w) ws (λ x m. f (suc x) (omega arith)) i k (omega arith) (omega arith)

-- one row more, before those of the jobs that are left
module _ (t s : ℕ) (i j : Job) (js ks : List Job) (ws : List Row) (P : Picked s (i ∷ js) j) (K : Taken j (i ∷ js) ks) where
  abbrev first : Row
  first = record { job = j; start = s }

  left : (x : Job) (k : ℕ) → Memᴰ x (i ∷ js) → NotStarted (first ∷ ws) (suc k) x → Memᴰ x ks
  left x k m n = taken_cases K x m (Memᴰ x ks) (λ q. absurd (n 0 (omega arith) (sym q))) (λ y. y)

  free_cons : s ≡ ready t (i ∷ js) → Free (s + j.run) ws → Free t (first ∷ ws)
  unfolding ready finish
  free_cons e f zero h = omega arith
  free_cons e f (suc k) h = f k (omega arith)

  obeys_cons : s ≡ ready t (i ∷ js) → Distinct (i ∷ js) → Obeys (s + j.run) ks ws → Obeys t (i ∷ js) (first ∷ ws)
  unfolding ready finish
  obeys_cons e d x = record {
    of_jobs = elim [ zero ↦ λ h. P.mem | suc k ↦ λ h. taken_mem K _ (x.of_jobs k (omega arith)) ];
    every_job = λ y m. taken_cases K y m _ (λ q. (0, omega arith, sym q)) (λ n. let (k, l, q) = x.every_job y n in (suc k, omega arith, q));
    once = elim [
      | zero ↦ elim [ zero ↦ λ l. absurd (omega arith) | suc k ↦ λ l h q. taken_gone K d _ (x.of_jobs k (omega arith)) (sym q) ]
      | suc a ↦ elim [ zero ↦ λ l. absurd (omega arith) | suc k ↦ λ l h. x.once a k (omega arith) (omega arith) ]
    ];
    as_many = let a = taken_length K in let b = x.as_many in omega arith;
    not_early = elim [ zero ↦ λ h. P.come | suc k ↦ λ h. x.not_early k (omega arith) ];
    tile_free = free_cons e x.tile_free;
    no_overlap = free_apart t (first ∷ ws) (free_cons e x.tile_free);
    in_order = λ a k l h. let o = free_apart t (first ∷ ws) (free_cons e x.tile_free) a k l h in omega arith;
    never_idle = elim [
      | zero ↦ λ h y m n f. let l = earliest_least i js y m in omega arith
      | suc k ↦ λ h y m n. x.never_idle k (omega arith) y (left y k m n) (λ l a. n (suc l) (omega arith))
    ];
    least_first = elim [
      | zero ↦ λ h y m n. P.first y m
      | suc k ↦ λ h y m n. x.least_first k (omega arith) y (left y k m n) (λ l a. n (suc l) (omega arith))
    ];
  }

obeys_none : (t : ℕ) → Obeys t [] []
obeys_none t = record {
  of_jobs = λ k h. absurd (omega arith);
  every_job = λ j m. absurd (Memᴰ.not-nil m);
  once = λ i k l h. absurd (omega arith);
  as_many = refl;
  not_early = λ k h. absurd (omega arith);
  tile_free = λ k h. absurd (omega arith);
  no_overlap = λ i k l h. absurd (omega arith);
  in_order = λ i k l h. absurd (omega arith);
  never_idle = λ k h. absurd (omega arith);
  least_first = λ k h. absurd (omega arith);
}

run_obeys : {t : ℕ} {js : List Job} {ws : List Row} → Run t js ws → Distinct js → Obeys t js ws
run_obeys done d = obeys_none _
run_obeys (step s e P K r) d = obeys_cons _ s _ _ _ _ _ P K e d (run_obeys r (taken_distinct K d))

-- the dispatcher obeys the rules
pub dispatch_obeys : (js : List Job) → Distinct js → Obeys 0 js (dispatch js)
dispatch_obeys js d = run_obeys (distinct_run js d) d

-- so it does for every legal pattern
pub legal_obeys : (ts : List Task) → AllSound ts → (js : List Job) → Legal ts js → Obeys 0 js (dispatch js)
legal_obeys ts sound js l = dispatch_obeys js (legal_distinct ts sound js l)
