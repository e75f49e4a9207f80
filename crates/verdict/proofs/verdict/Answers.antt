-- `verdict::verdict` answers as document 01 says, and what it answers is kept: a table that is refused, by its refusal; else by the verdict on its
-- tasks. That the definition's answer is kept is a law of promises.
use Rattle.std.proofs.Common.{◌≡◌, Ok, sym}
use Rattle.std.proofs.lemmas.Result.{err_from_is_err_and}
use Rattle.rules.specs.Answers.{verdict_answer}
use Rattle.rules.proofs.Calls.{verdict_refused, verdict_judged}
use Rattle.verdict.proofs.Answered.{keeps}
use Rattle.verdict.proofs.verdict.Goals as goal

-- it is refused
pub returns-in_err-tasks : goal.returns-in_err-tasks
returns-in_err-tasks c =
    let p = err_from_is_err_and c.from_residual.result c.from_residual.ensures.1 in
    let says : c.from_residual.result ≡ verdict_answer c.args.table.now = rw (p.1, p.2) (sym (verdict_refused _ _ c.in_err-tasks.ensures)) in
    record { says = says; keeps = keeps _ _ says }

-- the table is one
pub returns : goal.returns
returns c =
    let says : Ok c.judge_table.result ≡ verdict_answer c.args.table.now =
    rw (c.judge_table.ensures, c.in_ok-tasks.ensures.1) (sym (verdict_judged _ c.in_ok-tasks.ensures.0))
    in
    record { says = says; keeps = keeps _ _ says }
