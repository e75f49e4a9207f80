-- The late row of a pattern that is shown.
use Rattle.std.specs.Prelude.{◌≡◌, ℕ, true}
use mathlib.Core.List.{List, Memᴰ}
use Rattle.rules.specs.Dispatch.{Row, late}
use Rattle.rules.specs.Answers.{pattern_rows}
use Rattle.std.specs.Prelude.{Result, Ok, Err}
use Rattle.rules.specs.declared.Refusal.{Refusal}

-- where rows are written, one of them is late
abbrev pub OneLate : List ℕ → Result ℕ Refusal → Type 0
OneLate table (Ok n) = (w : Row) × Memᴰ w (pattern_rows table) × (late w ≡ true)
OneLate table (Err r) = Unit {0}
