-- `field::read_field` meets its contract: by the first byte the field is plain or quoted, as `read_field` has it; its length says where it ends,
-- and the bytes are those before that place and those after it, or after the quote there.
use Rattle.std.proofs.Common.{◌+◌, take, sym, ap, ◌∙◌}
use Rattle.rules.specs.Sheet.{content}
use Rattle.rules.specs.Standing.{standing}
use Rattle.rules.proofs.Slices.{part}
use Rattle.field.proofs.Fields.{plain_is, plain_within, quoted_is}
use Rattle.field.proofs.read_field.Goals as goal

pub split_at-requires : goal.split_at-requires
split_at-requires c = let within = plain_within c.args.s.now in rw (c.unwrap_or.ensures, c.first_mark.ensures) within

-- a plain field: no quote comes first
pub returns-in_default : goal.returns-in_default
returns-in_default c =
    let plain = plain_is c.args.s.now c.in_default.ensures in
    rw (c.split_at.ensures.front, c.split_at.ensures.back, c.unwrap_or.ensures, c.first_mark.ensures) plain

-- no quote closes it
pub returns-in_err-n : goal.returns-in_err-n
returns-in_err-n c = rw c.from_residual.ensures (ap standing (quoted_is _ _ c.in-Some.ensures) ∙ c.in_err-n.ensures)

-- a quoted field
pub returns : goal.returns
returns c =
    let t = c.in-Some.t.now in
    ap standing (quoted_is _ _ c.in-Some.ensures) ∙ c.in_ok-n.ensures.1 ∙ ap (content (take c.in_ok-n.n t)) (sym (part (c.in_ok-n.n + 1) t))
