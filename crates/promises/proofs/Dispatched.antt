-- The dispatcher and the lists of jobs are those of document 01.
use mathlib.Core.Path.{refl}
use mathlib.Core.List.{List}
use Rattle.rules.specs.declared.Task.{Task}
use Rattle.rules.specs.Task.{AllSound}
use Rattle.rules.specs.Demand.{blocker}
use Rattle.rules.specs.declared.Plan.{Plan}
use Rattle.rules.proofs.Blockers.{blocker_task, blocker_nobody}
use Rattle.rules.proofs.LateJob.{late_none, late_row}
use Rattle.rules.proofs.Determined.{legal_only, planned_legal}
use Rattle.rules.proofs.Members.{concrete_members, named_members, named_blocker, named_others}
use Rattle.promises.specs.Demands.{Dispatcher, JobLists}

pub dispatcher : Dispatcher
dispatcher = record { rules = legal_only; none_late = late_none; late_job_shown = late_row }

pub job_lists : (ts : List Task) → AllSound ts → JobLists ts
job_lists ts sound = record {
  concrete_legal = λ z. planned_legal (Plan.Concrete z) ts sound;
  named_legal = λ L. planned_legal (Plan.Named L (blocker L ts)) ts sound;
  concrete_jobs = λ z j. concrete_members z ts j sound;
  named_alone = λ L j e. named_members L ts j sound ((blocker_nobody L ts).1 e);
  named_blocker = λ L j pos x.
      let all = named_blocker L j.task ts j ((blocker_task L ts j.task).1 (pos, x)) refl in
      (λ m. let y = all.0 m in (y.1, y.2), λ y. all.1 (x.known, y.0, y.1));
  named_others = λ L b j pos x other. named_others L b ts j sound ((blocker_task L ts b).1 (pos, x)) other;
}
