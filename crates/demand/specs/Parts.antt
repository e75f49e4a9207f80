-- What the parts of the look promise each other.
use Rattle.std.specs.Prelude.{ℕ, ◌≤◌, List, if◌then◌else◌}
use Rattle.rules.specs.Numbers.{word_most}
use Rattle.rules.specs.Task.{Sound}
use Rattle.rules.specs.declared.Task.{Task}
use Rattle.rules.specs.Demand.{fails, excess}

-- a task whose words are in their ranges, as far as the verdict leans on it
pub record Bounded (τ : Task) : Type 0 where
  pub sound : Sound τ
  pub c_most : τ.C ≤ word_most

-- by how much a length fails: by its excess, or by 0 where it passes
unfoldable pub fails_by : ℕ → List Task → ℕ
fails_by L ts = if fails L ts then excess L ts else 0
