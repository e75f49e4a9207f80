-- `table::check_words` names the first word out of its range: `position` finds it as the definition does, which looks at one word after the other.
use Rattle.std.proofs.Common.{◌≡◌, rules, tests}
use Rattle.std.specs.List.{enumerate_from}
use Rattle.std.specs.Option.{option_map}
use Rattle.std.proofs.lemmas.Iterator.{YieldsList-from_slice}
use Rattle.std.proofs.lemmas.Iterator.Consumers.{YieldsList-from_enumerate}
use Rattle.std.proofs.lemmas.Iterator.Search.{position_from_yields_List}
use Rattle.std.proofs.lemmas.Iterator.Adapters.{position_from-zero}
use Rattle.rules.specs.Table.{out_of_range}
use Rattle.rules.specs.declared.Refusal.TheVariants.{OutOfRange}
use Rattle.rules.proofs.TableSteps.{is_out, first_out}
use Rattle.table.proofs.check_words.Goals as goal
use Rattle.table.proofs.check_words.Goals.{After-position}

-- what the look found, at either exit
looked : (c : After-position) → out_of_range 0 c.args.table.now ≡ option_map OutOfRange c.position.result
looked c =
    let w = c.args.table.now in
    let at =
    position_from_yields_List is_out _ _ c.position.result c.position.ensures.ran (YieldsList-from_enumerate (YieldsList-from_slice w (cc)) (cc))
    (λ x b q k. search (rules, tests))
    in
    rw (first_out 0 w, ← position_from-zero is_out (enumerate_from 0 w), ← at)

-- a word is out of its range
pub returns-in-Some : goal.returns-in-Some
returns-in-Some c = rw (looked (goal.at.returns-in-Some c).After-position, c.in-Some.is)

-- none is
pub returns-in-None : goal.returns-in-None
returns-in-None c = rw (looked (goal.at.returns-in-None c).After-position, c.in-None.is)
