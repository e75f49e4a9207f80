-- `scan::task_lines` meets its contract: each turn is a step of `read_lines`, which stops at a line that is not as due and else stores its number.
use Rattle.std.proofs.Common.{◌≡◌, ℕ, ◌-◌, length, List, refl, sym, ap, ◌∙◌, arith, take}
use Rattle.std.proofs.Math.Seq.{take-length}
use Rattle.rules.specs.Text.{read_lines, took}
use Rattle.rules.proofs.ReadSets.{aheads_none, lines_done, lines_more, lines_wrong}
use Rattle.scan.proofs.task_lines.Goals as goal

pub loop-k-init : goal.loop-k-init
loop-k-init c =
    let all_left : length c.args.words.now - 0 ≡ length c.args.words.now = omega arith in
    sym (aheads_none _ ∙ ap (λ (m : ℕ). read_lines m 0 c.args.s.now) all_left)

-- a line is not as due
pub returns-in_default : goal.returns-in_default
returns-in_default c =
    let at = c.loop-k in
    record {
      line = _;
      says = at.invariant ∙ lines_wrong _ at.k at.words at.rest.now (omega arith) c.in_default.ensures;
      refuses = refl;
    }

pub loop-k-preserved : goal.loop-k-preserved
loop-k-preserved c =
    let at = c.loop-k in
    at.invariant ∙ sym (lines_more _ at.k at.words at.rest.now (omega arith) _ _ (omega arith) c.in-Some.ensures)

-- all are
pub returns : goal.returns
returns c =
    let at = c.loop-k in
    let n = length c.args.words.now in
    let at_end : at.k ≡ n = omega arith in
    at.invariant
    ∙ lines_done n at.k at.words at.rest.now at_end
    ∙ ap (λ (l : List ℕ). took l at.rest.now) (ap (λ (m : ℕ). take m at.words) (sym at.auto.words) ∙ take-length at.words)
