-- A field's number in the words whose column it is: what holds after the first k of the four were looked at.
use Rattle.std.proofs.Common.{◌≡◌, ℕ, ◌≤◌, ◌<◌, List, length, get_or}
use Rattle.rules.specs.Sheet.{field_number}
use Rattle.std.specs.Prelude.{Some}

pub record Stored (body : List ℕ) (column : ℕ) (columns old words : List ℕ) (k : ℕ) : Type 0 where
  pub within : k ≤ 4
  pub long : length words ≡ length old
  pub here : (j : ℕ) → j < k → get_or columns j 0 ≡ column → field_number body ≡ Some (get_or words j 0)
  pub elsewhere : (j : ℕ) → (get_or columns j 0 ≡ column → ⊥) → get_or words j 0 ≡ get_or old j 0
