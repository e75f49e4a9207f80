-- What the output's promise tells: there is one outcome, and it lies in the lent bytes.
use mathlib.Core.Path.{sym, ap, ◌∙◌}
use Prim.Native.Nat.{ℕ, ◌≤◌}
use native.Mathlib.Omega.{arith}
use mathlib.Core.List.{List}
use lib.ListN.{length, drop, length-append}
use Rattle.rules.specs.Report.{output}
use Rattle.output.specs.Output.{Outputs, OutputsOne}

pub outputs_one : OutputsOne
outputs_one input out m n e f p q = (p.says ∙ sym q.says, p.leaves ∙ sym q.leaves)

pub prints_within : {input out exit : List ℕ} {size : ℕ} → Outputs input out size exit → size ≤ length exit
prints_within {input} {out} p = omega (arith, p.says, ap length p.leaves, length-append (output input) (drop (length (output input)) out))
