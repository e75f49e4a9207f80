-- The program's output on slices: how long it can be, and where it stands.
use Rattle.std.specs.Prelude.{◌≡◌, ℕ, List, ◌++◌, length, drop}
use Rattle.rules.specs.Report.{output}

-- the most bytes: 1,366 sets' lines of 83 bytes
abbrev pub output_most : ℕ
output_most = 113378

-- the output of an input stands at the start of the lent bytes, which stay the same beyond it; the answer is its length
pub record Outputs (input out : List ℕ) (size : ℕ) (exit : List ℕ) : Type 0 where
  pub says : size ≡ length (output input)
  pub leaves : exit ≡ output input ++ drop (length (output input)) out

-- two outcomes of one call are equal
abbrev pub OutputsOne : Type 0
OutputsOne = (input out : List ℕ) (m n : ℕ) (e f : List ℕ) → Outputs input out m e → Outputs input out n f → (m ≡ n) × (e ≡ f)
