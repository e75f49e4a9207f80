-- A count of numbers is told as the rules have it.
use mathlib.Core.Path.{ap, ◌∙◌}
use Prim.Native.Nat.{ℕ}
use Rattle.rules.specs.Told.{count_told}
use Rattle.told.specs.Sayings.{NumbersCount}
use Rattle.std.specs.Prelude.{Ok, Err}

pub numbers_count : NumbersCount
numbers_count (Ok n) told (v, same, says) = says ∙ ap (λ (k : ℕ). count_told (Ok k)) same
numbers_count (Err r) told says = says
