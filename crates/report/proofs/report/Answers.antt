-- The lines of the answer that was found stand on a page that has room for any set's, and are then put at the start of out, if that has room too.
use Rattle.std.proofs.Common.{◌≡◌, ◌∙◌, arith, rules, ap, length, take}
use Rattle.rules.proofs.Lengths.{said_most}
use Rattle.print.proofs.Pages.{at_start}
use Rattle.report.proofs.Reported.{short, told}
use Rattle.report.proofs.report.Goals as goal

pub put_set-requires : goal.put_set-requires
put_set-requires c = omega (arith, said_most c.args.number c.judge_first-answer.result.answer, ap length c.new-page.ensures.holds)

pub returns-then-out-length : goal.returns-then-out-length
returns-then-out-length c = short c.args.number _ _ _ c.judge_first-answer.ensures (omega (arith, c.put_set.ensures.puts.says))

pub returns : goal.returns
returns c =
    let copied : c.copy_from_slice.new.self ≡ take c.put_set.new.page.at c.put_set.new.page.out.now = search rules in
    let added = c.put_set.ensures in
    told c.args.number _ _ _ c.judge_first-answer.ensures _ _ (copied ∙ at_start _ c.new-page.ensures.start added) (omega (arith, added.puts.says)) (omega arith)
