-- Where the columns of the four names are.
use Rattle.std.specs.Prelude.{◌≡◌, ℕ, ◌≤◌, ◌<◌, List, length, get_or}

-- the columns of the four names are columns of the header, which are counted from 1
pub record Within (columns : List ℕ) (count : ℕ) : Type 0 where
  pub four : length columns ≡ 4
  pub from_one : (k : ℕ) → k < 4 → 1 ≤ get_or columns k 0
  pub to_last : (k : ℕ) → k < 4 → get_or columns k 0 ≤ count
