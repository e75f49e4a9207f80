-- A number has one digit more than there are powers of ten up to it, from 10 on; the place of the first above it is their count.
use Rattle.std.proofs.Common.{◌+◌, ◌∙◌, ℕ, ap, arith, ltb, rules, tests}
use Rattle.std.proofs.lemmas.Iterator.{YieldsList-from_slice}
use Rattle.std.proofs.lemmas.Iterator.Search.{position_from_yields_List}
use Rattle.rules.proofs.Digits.{digits_most}
use Rattle.print.proofs.Widths.{first_above}
use Rattle.print.proofs.width.Goals as goal

pub returns : goal.returns
returns c =
    let n = c.args.n in
    let powers = c.iter.result.rest.now in
    let found =
    position_from_yields_List {all = powers} (ltb n) _ _ c.position.result c.position.ensures.ran (YieldsList-from_slice powers (cc)) (λ x b q k. search (rules, tests))
    in
    let is = ap (λ (k : ℕ). k + 1) c.unwrap_or.ensures ∙ first_above powers n c.position.result c.iter.ensures.rest (omega arith) found in
    (is, omega (arith, is, digits_most n))
