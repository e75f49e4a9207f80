-- `texts::put_set` meets its contract: the table has room for eight tasks and out for 264 bytes, so that neither call is refused, and the words that
-- are handed on are those of the set.
use Rattle.std.proofs.Common.{ap, sym, length-take-le, arith}
use Rattle.std.specs.Result.{is_ok}
use Rattle.rules.proofs.DrawnTexts.{draw_answers}
use Rattle.texts.proofs.OneSet.{words_few, write_answers, set_put}
use Rattle.texts.proofs.put_set.Goals as goal

-- the draw is not refused
pub unwrap-n-requires : goal.unwrap-n-requires
unwrap-n-requires c = ap is_ok (draw_answers (omega arith) c.draw_set_from.ensures)

-- the words of the set lie in the table
pub slice_bounds-table-end : goal.slice_bounds-table-end
slice_bounds-table-end c = omega (arith, words_few (omega arith) c.draw_set_from.ensures c.unwrap-n.ensures, c.draw_set_from.auto.table)

pub slice_bounds-write-end : goal.slice_bounds-write-end
slice_bounds-write-end c =
    let few = words_few (omega arith) c.draw_set_from.ensures c.unwrap-n.ensures in
    sym (length-take-le _ _ (omega arith))

-- the text is not refused
pub unwrap-length-requires : goal.unwrap-length-requires
unwrap-length-requires c =
    ap is_ok (write_answers (omega arith) c.draw_set_from.ensures c.unwrap-n.ensures c.requires c.write.ensures)

pub returns : goal.returns
returns c = set_put (omega arith) c.draw_set_from.ensures c.unwrap-n.ensures c.requires c.write.ensures c.unwrap-length.ensures
