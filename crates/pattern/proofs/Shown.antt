-- Which jobs are shown, that one of their rows is late, and that the call's contract leaves one outcome.
use mathlib.Core.Path.{◌≡◌, refl, sym, ap, ap₂, subst, ◌∙◌}
use Prim.Native.Nat.{ℕ}
use mathlib.Core.List.{List, Memᴰ}
use mathlib.Core.Bool.{Bool, true, false}
use Rattle.rules.specs.Task.{tasks_of}
use Rattle.rules.specs.Table.{table_refusal}
use Rattle.rules.specs.Dispatch.{Job, Row, dispatch, late}
use Rattle.rules.specs.Jobs.{planned}
use Rattle.rules.specs.Demand.{verdict}
use Rattle.rules.specs.Answers.{is_misses, named_by, rows_of, pattern_answer, pattern_buffer}
use Rattle.rules.specs.Calls.{Dispatches, Shows}
use Rattle.rules.specs.declared.Refusal.{Refusal}
use Rattle.rules.specs.declared.Plan.{Plan}
use Rattle.rules.specs.declared.Verdict.{Verdict}
use Rattle.rules.proofs.Booleans.{true_is_not_false}
use Rattle.rules.proofs.Verdicts.{misses_when}
use Rattle.rules.proofs.Calls.{pattern_refused, pattern_none, pattern_rows_law}
use Rattle.promises.specs.Demands.{One, Kept}
use Rattle.promises.proofs.Kept.{kept_table}
use Rattle.pattern.specs.OneLate.{OneLate}
use Rattle.std.specs.Prelude.{Option, Some, None, Result, Ok, Err}
use Rattle.rules.specs.declared.Timing.{Timing}

-- a verdict that is no "misses"
pub no_misses : (w : List ℕ) (v : Verdict) → ((L : ℕ) (b : Option ℕ) (over : ℕ) → v ≡ Verdict.Misses L b over → ⊥) → v ≡ verdict (tasks_of w)
    → is_misses (verdict (tasks_of w)) ≡ false
no_misses w (Verdict.Misses L b over) n e = absurd (n L b over refl)
no_misses w (Verdict.Meets σ) n e = sym (ap is_misses e)
no_misses w Verdict.TooFar n e = sym (ap is_misses e)

module _ (w out : List ℕ) where
  -- the plan of the verdict's length and blocker gives the jobs that the verdict names
  pub shown : {answer : Result Timing Refusal} {exit : List ℕ} (L : ℕ) (b : Option ℕ) (over : ℕ) → table_refusal w ≡ None → verdict (tasks_of w) ≡ Verdict.Misses L b over
      → Dispatches (planned (Plan.Named L b) (tasks_of w)) out answer exit → Shows w out (rows_of answer) exit
  shown {answer} {exit} L b over ok m d =
      let its_blocker = ((misses_when (tasks_of w) L b over).0 m).1 in
      let its_jobs : planned (Plan.Named L b) (tasks_of w) ≡ named_by (verdict (tasks_of w)) w =
      ap (λ (x : Option ℕ). planned (Plan.Named L x) (tasks_of w)) its_blocker ∙ ap (λ (v : Verdict). named_by v w) (sym m)
      in
      pattern_rows_law w out ok (ap is_misses m) (subst (λ (js : List Job). Dispatches js out answer exit) its_jobs d)

  -- the promise of "misses" names a row that is late
  late_row : (v : Verdict) → is_misses v ≡ true → Kept (tasks_of w) v → (x : Row) × Memᴰ x (dispatch (named_by v w)) × (late x ≡ true)
  late_row (Verdict.Misses L b over) e k = k.late_row
  late_row (Verdict.Meets σ) e k = true_is_not_false (sym e)
  late_row Verdict.TooFar e k = true_is_not_false (sym e)

  one_late : OneLate w (pattern_answer w out)
  one_late = go (table_refusal w) refl (is_misses (verdict (tasks_of w))) refl
    where
      rows : table_refusal w ≡ None → is_misses (verdict (tasks_of w)) ≡ true → (a : Result ℕ Refusal) → OneLate w a
      rows e m (Ok n) = late_row (verdict (tasks_of w)) m (kept_table w e)
      rows e m (Err r) = tt

      go : (o : Option Refusal) → table_refusal w ≡ o → (b : Bool) → is_misses (verdict (tasks_of w)) ≡ b → OneLate w (pattern_answer w out)
      go (Some r) e b m = subst (OneLate w) (pattern_refused w out r e).says tt
      go None e false m = subst (OneLate w) (pattern_none w out e m).says tt
      go None e true m = rows e m (pattern_answer w out)

  -- so it is of what the call answers
  pub late_shown : {a : Result ℕ Refusal} {exit : List ℕ} → Shows w out a exit → OneLate w a
  late_shown x = subst (OneLate w) (sym x.says) one_late

  -- the contract leaves one outcome
  pub one_outcome : One (Result ℕ Refusal × List ℕ) (λ o. Shows w out o.0 o.1 × OneLate w o.0)
  one_outcome =
      record {
        outcome = (pattern_answer w out, pattern_buffer w out);
        as_due = (record { says = refl; leaves = refl }, one_late);
        no_other = λ o c. ap₂ (λ (a : Result ℕ Refusal) (exit : List ℕ). (a, exit)) c.0.says c.0.leaves;
      }
