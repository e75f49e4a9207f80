-- What the program prints.
use Rattle.std.specs.Prelude.{ℕ, ◌+◌, List, Option, None, Some, take, ⊤}
use Rattle.rules.specs.Report.{output}
use Rattle.rules.specs.Numbers.{input_most}
use Rattle.stdio.specs.Input.{TookBeginning}

-- of a standard input whose bytes are known: a beginning of the output of its bytes, of which no more than make a text too long are read
abbrev pub PrintsOutput : Option (List ℕ) → Option (List ℕ) → Option (List ℕ) → Type 0
PrintsOutput None old new = ⊤
PrintsOutput (Some bytes) old new = TookBeginning old new (output (take (input_most + 1) bytes))
