-- `lines::read_line` meets its contract: it finds the key, then the number, then byte 10, as `read_line` does; whatever is missing makes it none.
use Rattle.std.proofs.Common.{ap, ◌∙◌}
use Rattle.rules.specs.Text.{line_end}
use Rattle.rules.proofs.ReadSteps.{line_no_key, line_after_key, end_bad}
use Rattle.lines.proofs.Searches.{no_end, line_ends}
use Rattle.lines.proofs.read_line.Goals as goal

-- no key
pub returns-in_err-after_key : goal.returns-in_err-after_key
returns-in_err-after_key c = rw c.from_residual.ensures (line_no_key _ _ c.in_err-after_key.ensures)

-- no number
pub returns-in_err-v : goal.returns-in_err-v
returns-in_err-v c =
    rw c.from_residual-in_err-v.ensures (line_after_key _ _ _ c.in_ok-after_key.ensures ∙ ap line_end c.in_err-v.ensures ∙ end_bad)

-- no byte 10 after the number
pub returns-in_err-rest : goal.returns-in_err-rest
returns-in_err-rest c =
    rw c.from_residual-in_err-rest.ensures (line_after_key _ _ _ c.in_ok-after_key.ensures ∙ ap line_end c.in_ok-v.ensures ∙ no_end _ _ c.in_err-rest.ensures)

-- the line
pub returns : goal.returns
returns c = line_after_key _ _ _ c.in_ok-after_key.ensures ∙ ap line_end c.in_ok-v.ensures ∙ line_ends _ _ _ c.in_ok-rest.ensures
