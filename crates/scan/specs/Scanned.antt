-- What a scan of lines says, and that this leaves one outcome.
use Rattle.std.specs.Prelude.{◌≡◌, ℕ, ◌*◌, ◌≤◌, List, length, take, Result, Ok, Err, MatchResult}
use Rattle.std.specs.Borrow.{Bor}
use Rattle.rules.specs.Numbers.{task_most, table_most}
use Rattle.rules.specs.Text.{Lines, took, stop}
use Rattle.rules.specs.declared.Refusal.{Refusal}
use Rattle.rules.specs.declared.Refusal.TheVariants.{BadLine}

-- the lines are as due: their words, and the bytes after them
abbrev pub IsWhole : Lines → List ℕ → List ℕ → Type 0
IsWhole due words rest = due ≡ took words rest

-- a line is not as due: it is refused by its number
pub record Stops (due : Lines) (refusal : Refusal) : Type 0 where
  pub line : ℕ
  pub says : due ≡ stop line
  pub refuses : refusal ≡ BadLine line

-- a set is scanned: no more tasks than a tile has, their words at the start of a table, and the bytes after it
pub record HasSet (due : Lines) (n : ℕ) (rest words : List ℕ) : Type 0 where
  pub says : due ≡ took (take (4 * n) words) rest
  pub few : n ≤ task_most

-- a scan gives what is due: of a set how many tasks it has and the bytes after it; of a stop only the line, so that the words are left open
abbrev pub Scans : Lines → Result (ℕ × Bor (List ℕ)) Refusal → List ℕ → Type 0
Scans due answer words = MatchResult answer (λ found. HasSet due found.0 found.1.now words) (λ r. Stops due r)

-- what a scan has told, with the words that it left: the tasks' number, their words, and the bytes after them; or the refusal
abbrev pub told : Result (ℕ × Bor (List ℕ)) Refusal → List ℕ → Result (ℕ × List ℕ × List ℕ) Refusal
told (Ok found) words = Ok (found.0, take (4 * found.0) words, found.1.now)
told (Err r) words = Err r

-- two outcomes of one scan into tables with room are equal: the answer, and of a set the words and the bytes after it
abbrev pub ScansOne : Type 0
ScansOne = (due : Lines) (a b : Result (ℕ × Bor (List ℕ)) Refusal) (ws vs : List ℕ) → table_most ≤ length ws → table_most ≤ length vs
    → Scans due a ws → Scans due b vs → told a ws ≡ told b vs
