-- The jobs of a plan, task by task of a table; and that each of them has a row.
use mathlib.Core.Path.{◌≡◌, refl, ap, ◌∙◌}
use Prim.Native.Nat.{ℕ, suc, ◌*◌, ◌+◌}
use mathlib.Core.List.{List, [], ◌++◌}
use lib.ListN.{length, length-append}
use Rattle.rules.specs.declared.Task.{Task}
use Rattle.rules.specs.declared.Plan.{Plan}
use Rattle.rules.specs.Task.{tasks_of}
use Rattle.rules.specs.Table.{task_in, tasks_from, Valid}
use Rattle.rules.specs.Dispatch.{Job, dispatch}
use Rattle.rules.specs.Jobs.{Train, trains, plan_train, planned}
use Rattle.rules.proofs.Tables.{tasks_are, sound_tasks}
use Rattle.rules.proofs.Members.{length_train}
use Rattle.rules.proofs.Trains.{train_of, trains_legal}
use Rattle.rules.proofs.Dispatcher.{legal_obeys}

-- those of a table are the trains of its tasks by number
pub planned_table : (p : Plan) (w : List ℕ) (m : ℕ) → length w ≡ 4 * m → planned p (tasks_of w) ≡ trains (plan_train p) 0 (tasks_from w m 0)
unfolding planned
planned_table p w m e = ap (trains (plan_train p) 0) (tasks_are w m e)

-- every one of them has a row
pub planned_rows : (p : Plan) (w : List ℕ) (m : ℕ) → Valid w m → length (dispatch (planned p (tasks_of w))) ≡ length (planned p (tasks_of w))
unfolding planned
planned_rows p w m v =
    let sound = sound_tasks w m v in
    (legal_obeys (tasks_of w) sound _ (trains_legal (plan_train p) (tasks_of w) sound)).as_many

module _ (plan : ℕ → Task → Train) (w : List ℕ) where
  -- no task, no job
  pub trains_none : (k : ℕ) → trains plan k (tasks_from w 0 k) ≡ []
  unfolding trains tasks_from
  trains_none k = refl

  -- the train of the first task, then those after it
  pub trains_first : (n k : ℕ) → trains plan k (tasks_from w (suc n) k) ≡ train_of plan k (task_in w k) ++ trains plan (suc k) (tasks_from w n (suc k))
  unfolding trains tasks_from
  trains_first n k = refl

  -- and their number
  pub trains_count : (n k : ℕ) → length (trains plan k (tasks_from w (suc n) k)) ≡ (plan k (task_in w k)).count + length (trains plan (suc k) (tasks_from w n (suc k)))
  trains_count n k =
      let jobs : List Job = train_of plan k (task_in w k) in
      let later : List Job = trains plan (suc k) (tasks_from w n (suc k)) in
      ap length (trains_first n k)
      ∙ length-append jobs later
      ∙ ap (λ (x : ℕ). x + length later) (length_train (plan k (task_in w k)).count 0 (plan k (task_in w k)).first k (task_in w k))
