-- `trains::reach_of` says which jobs a task's train has under a plan: by cases on the plan and its blocker, as the definition goes.
use Rattle.std.proofs.Common.{◌≡◌, Some, None, ◌∙◌}
use Rattle.rules.proofs.TaskTrains.{concrete_train_law, nobody_train, blocker_train, other_train}
use Rattle.trains.proofs.reach_of.Goals as goal

-- the concrete schedule
pub returns-in-Concrete : goal.returns-in-Concrete
returns-in-Concrete c = λ τ. rw c.in-Concrete.is (concrete_train_law _ c.args.k τ)

-- nobody holds the tile
pub returns-in-Named-default-None : goal.returns-in-Named-default-None
returns-in-Named-default-None c =
    let e : c.in-Named-default-None.field-1 ≡ None = rw c.in-Named-default-None.is at c.in-Named-default-None.field-1-is in
    λ τ. rw (c.in-Named-default-None.is, nobody_train c.in-Named-default-None.length c.args.k τ _ e)

-- the blocker
pub returns-in-Named-default-Some : goal.returns-in-Named-default-Some
returns-in-Named-default-Some c =
    let e : c.in-Named-default-Some.field-1 ≡ Some c.in-Named-default-Some.b = rw c.in-Named-default-Some.is at c.in-Named-default-Some.field-1-is in
    λ τ. rw (c.in-Named-default-Some.is, blocker_train c.in-Named-default-Some.field-0 c.args.k τ _ _ e c.if-k-b.true)

-- another task
pub returns-in-Named-default-Some-2 : goal.returns-in-Named-default-Some-2
returns-in-Named-default-Some-2 c =
    let e : c.in-Named-default-Some.field-1 ≡ Some c.in-Named-default-Some.b = rw c.in-Named-default-Some.is at c.in-Named-default-Some.field-1-is in
    let same : c.in-Named-default-Some-2.field-1 ≡ c.in-Named-default-Some.field-1 = cc in
    λ τ. rw (c.in-Named-default-Some-2.is, other_train c.in-Named-default-Some-2.length c.args.k τ _ _ (same ∙ e) c.if-k-b.false)
