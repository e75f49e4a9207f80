-- What the program prints.
use Rattle.std.specs.Prelude.{ℕ, ◌+◌, List, Option, None, Some, take, ⊤}
use Rattle.std.specs.Io.KnownBytes.{Keeps}
use Rattle.rules.specs.Numbers.{input_most}
use Rattle.stdio.specs.Input.{TookBeginning}
use Rattle.wording.specs.declared.Source.{Source}
use Rattle.exchange.specs.Exchange.{Outcome, made, told, exchanged}

-- of a standard output whose bytes are known: a beginning of what is made, and nothing of what is told
abbrev pub PrintsMade : Outcome → Option (List ℕ) → Option (List ℕ) → Type 0
PrintsMade (made bytes) old new = TookBeginning old new bytes
PrintsMade (told words) old new = Keeps old new

-- of a standard input whose bytes are known, too: what is made of its bytes, of which no more than make an input too long are read
abbrev pub PrintsExchange : Source → Option (List ℕ) → Option (List ℕ) → Option (List ℕ) → Type 0
PrintsExchange source None old new = ⊤
PrintsExchange source (Some bytes) old new = PrintsMade (exchanged source (take (input_most + 1) bytes)) old new
