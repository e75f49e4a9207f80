-- A column's name looked for among the four, one after another.
use Rattle.std.proofs.Common.{◌≡◌, ℕ, ◌≤◌, ◌<◌, List, true, if◌then◌else◌, length, get_or, Option, Some, None}
use Rattle.rules.specs.Sheet.{name_of, is_name}

-- the first k are looked at: those that are the name have the column, and had none; all others are as they were
pub record Noting (body : List ℕ) (column : ℕ) (old : List (Option ℕ)) (k : ℕ) (columns : List (Option ℕ)) : Type 0 where
  pub same : length columns ≡ length old
  pub notes : (i : ℕ) → i < k → get_or columns i None ≡ (if is_name (name_of i) body then Some column else get_or old i None)
  pub new : (i : ℕ) → i < k → is_name (name_of i) body ≡ true → get_or old i None ≡ None
  pub keeps : (i : ℕ) → k ≤ i → get_or columns i None ≡ get_or old i None
