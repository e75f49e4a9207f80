-- `judged::judge_first` meets its contract: a set that is whole is judged by its words, and the bytes after it are left; where a line is not as due,
-- the set is refused so, and nothing is left.
use Rattle.std.proofs.Common.{length, sym, ap, ◌∙◌}
use Rattle.rules.proofs.Calls.{first_stops, first_read}
use Rattle.rules.proofs.Printed.{rest_stops, rest_read}
use Rattle.judged.proofs.judge_first.Goals as goal

pub returns-in-Ok : goal.returns-in-Ok
returns-in-Ok c =
    let set = c.in-Ok.ensures.says in
    record { says = c.verdict.ensures.says ∙ sym (first_read _ _ _ set); leaves = ap length (sym (rest_read _ _ _ set)) }

pub returns-in-Err : goal.returns-in-Err
returns-in-Err c =
    let stops = c.in-Err.ensures in
    rw stops.refuses (record { says = sym (first_stops _ _ stops.says); leaves = ap length (sym (rest_stops _ _ stops.says)) })
