-- A word that a program is called with, as a number.
use Rattle.std.specs.Prelude.{ℕ, ◌+◌, ◌-◌, ◌*◌, List, [], ◌∷◌, leb, if◌then◌else◌, Option, Some, None}
use Rattle.rules.specs.Text.{digit}

-- the value of decimal digits after those that make v; none where another byte stands among them
unfoldable pub value_from : ℕ → List ℕ → Option ℕ
value_from v [] = Some v
value_from v (b ∷ s) = if digit b then value_from (v * 10 + (b - 48)) s else None

-- a value is a number up to the greatest that is asked for
unfoldable pub judged : ℕ → Option ℕ → Option ℕ
judged most None = None
judged most (Some v) = if leb v most then Some v else None

-- THE WORD: one or more decimal digits; leading noughts count for nothing
unfoldable pub number_in : List ℕ → ℕ → Option ℕ
number_in [] most = None
number_in (b ∷ s) most = judged most (value_from 0 (b ∷ s))
