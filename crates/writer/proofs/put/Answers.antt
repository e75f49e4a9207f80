-- Each part put leaves what is after it; at the end nothing is left.
use Rattle.std.proofs.Common.{◌∙◌, refl, arith, rules}
use Rattle.print.proofs.Pages.{first_to_come, less_to_come, none_to_come}
use Rattle.writer.proofs.put.Goals as goal

pub loop-k-init : goal.loop-k-init
loop-k-init g c =
    let words = c.args.tasks.words.now in
    let page = c.new-page.ensures in
    record {
      same = refl;
      to_come =
          rw (← page.holds) (first_to_come (g.F.Form.make words) (g.F.Form.first words) (g.F.Form.words 0 words) c.put_first.ensures page.start (rw page.holds c.requires) (g.met.F.Form.made words));
    }

pub loop-k-preserved : goal.loop-k-preserved
loop-k-preserved g c =
    record {
      same = c.put_word.ensures.same ∙ c.loop-k.invariant.same;
      to_come = less_to_come _ _ c.put_word.ensures c.loop-k.invariant.to_come (g.met.F.Form.more c.args.tasks.words.now c.loop-k.k (omega arith));
    }

pub returns : goal.returns
returns g c =
    let done = none_to_come c.loop-k.invariant.to_come (g.met.F.Form.none c.args.tasks.words.now c.loop-k.k (omega arith)) in
    let name = c.loop-k.invariant.same ∙ c.put_first.ensures.same in
    search rules
