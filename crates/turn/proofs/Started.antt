-- Once the next job has started, its counter stands for the jobs that are left.
use mathlib.Core.Path.{◌≡◌, refl, sym, ap, ap₂, ◌∙◌}
use Prim.Native.Nat.{ℕ, zero, suc, ◌+◌, ◌-◌, ◌*◌, ◌≤◌, ◌<◌}
use native.Mathlib.Nat.{suc-mul}
use native.Mathlib.Numerals.{add-one}
use native.Mathlib.Omega.{arith}
use mathlib.Core.List.{List, ◌∷◌, ◌++◌}
use lib.ListN.{length, get_or, set}
use lib.Seq.{get_or-set_same, get_or-set_other}
use Rattle.rules.specs.Dispatch.{Job, Row, pick, without, ready, rows}
use Rattle.rules.specs.Jobs.{train}
use Rattle.rules.specs.Table.{task_in}
use Rattle.rules.specs.declared.Plan.{Plan}
use Rattle.rules.proofs.Booleans.{split}
use Rattle.rules.proofs.Choosing.{without_train, without_head, rows_step, one_less}
use Rattle.turn.specs.declared.Turn.{Turn}
use Rattle.turn.specs.Counters.{train_at, release_at, job_at, jobs_at, rest_from, Chosen}
use Rattle.std.specs.Prelude.{Some}

-- the numbers after a turn of task b
abbrev pub moved : List ℕ → ℕ → List ℕ
moved nx b = set nx b (get_or nx b 0 + 1)

-- the row of a turn
abbrev pub row_of : List ℕ → Plan → List ℕ → Turn → Row
row_of w p nx x = record { job = job_at w p x.task (get_or nx x.task 0); start = x.start }

module _ (w : List ℕ) (p : Plan) where
  -- the next job of task b goes: the tasks after it stay as they are; its own jobs are those after that one
  same_rest : (nx : List ℕ) (b v n k : ℕ) → b < k → rest_from w p (set nx b v) n k ≡ rest_from w p nx n k
  unfolding rest_from
  same_rest nx b v zero k h = refl
  same_rest nx b v (suc n) k h =
      ap₂ (λ (q : ℕ) (l : List Job). jobs_at w p k q ++ l) (get_or-set_other nx b k v 0 (λ e. omega arith)) (same_rest nx b v n (suc k) (omega arith))

  tail_next : (k q : ℕ) (js : List Job) → q < (train_at w p k).count → without (job_at w p k q) (jobs_at w p k q ++ js) ≡ jobs_at w p k (q + 1) ++ js
  tail_next k q js l =
      let e : (train_at w p k).count - q ≡ suc ((train_at w p k).count - (q + 1)) = omega arith in
      let r : release_at w p k q + (task_in w k).T ≡ release_at w p k (q + 1) = omega (arith, ap (λ (x : ℕ). x * (task_in w k).T) (add-one q), suc-mul q (task_in w k).T) in
      ap (λ (n : ℕ). without (job_at w p k q) (train n q (release_at w p k q) k (task_in w k) ++ js)) e
      ∙ without_head ((train_at w p k).count - (q + 1)) q (release_at w p k q) k (task_in w k) js
      ∙ ap₂ (λ (a r : ℕ). train ((train_at w p k).count - (q + 1)) a r k (task_in w k) ++ js) (sym (add-one q)) r

  module _ (nx : List ℕ) (b : ℕ) (g : b < length nx) (l : get_or nx b 0 < (train_at w p b).count) where
    without_next : (n k : ℕ) → k ≤ b → b < k + n
        → without (job_at w p b (get_or nx b 0)) (rest_from w p nx n k) ≡ rest_from w p (set nx b (get_or nx b 0 + 1)) n k
    unfolding rest_from
    without_next zero k kb bn = absurd (omega arith)
    without_next (suc n) k kb bn =
        let q : ℕ = get_or nx b 0 in
        split b k
        (λ bk.
        let e : k ≡ b = omega arith in
        rw e
        (tail_next b q (rest_from w p nx n (suc b)) l
        ∙ ap₂ (λ (a : ℕ) (js : List Job). jobs_at w p b a ++ js) (sym (get_or-set_same nx b (q + 1) 0 g)) (sym (same_rest nx b (q + 1) n (suc b) (omega arith)))))
        (λ kb'.
        without_train (job_at w p b q) ((train_at w p k).count - get_or nx k 0) (get_or nx k 0) (release_at w p k (get_or nx k 0)) k (task_in w k) (rest_from w p nx n (suc k)) (λ e. omega arith)
        ∙ ap₂ (λ (a : ℕ) (js : List Job). jobs_at w p k a ++ js) (sym (get_or-set_other nx b k (q + 1) 0 (λ e. omega arith)))
        (without_next n (suc k) (omega arith) (omega arith)))

  -- so a turn is one row of the dispatcher, and the counters stand for the jobs that are left
  pub record OneTurn (nx : List ℕ) (m t left : ℕ) (x : Turn) : Type 0 where
    pub row : rows (suc left) t (rest_from w p nx m 0)
        ≡ row_of w p nx x ∷ rows left (x.start + (task_in w x.task).C) (rest_from w p (moved nx x.task) m 0)
    pub fewer : length (rest_from w p (moved nx x.task) m 0) ≡ left

  pub one_turn : (nx : List ℕ) (m t left : ℕ) (x : Turn) → m ≤ length nx → length (rest_from w p nx m 0) ≡ suc left → Chosen w p nx t m 0 x → OneTurn nx m t left x
  one_turn nx m t left x hm hl ch =
      let js : List Job = rest_from w p nx m 0 in
      let e : m - 0 ≡ m = omega arith in
      let er : ready t js ≡ x.start = ap (λ (n : ℕ). ready t (rest_from w p nx n 0)) (sym e) ∙ ch.starts in
      let ep : pick x.start js ≡ Some (row_of w p nx x).job = ap (λ (n : ℕ). pick x.start (rest_from w p nx n 0)) (sym e) ∙ ch.picked in
      let ew : without (row_of w p nx x).job js ≡ rest_from w p (moved nx x.task) m 0 =
      without_next nx x.task (omega (arith, ch.is_task)) ch.live m 0 (omega arith) (omega (arith, ch.is_task))
      in
      record {
        row =
            rows_step left t x.start js (row_of w p nx x).job er ep
            ∙ ap (λ (l : List Job). row_of w p nx x ∷ rows left (x.start + (task_in w x.task).C) l) ew;
        fewer = omega (arith, one_less x.start js (row_of w p nx x).job ep, ap length ew);
      }
