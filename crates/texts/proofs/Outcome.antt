-- What the texts' promise tells: there is one outcome, and the texts lie in the lent bytes.
use mathlib.Core.Path.{sym, ap, ◌∙◌}
use Prim.Native.Nat.{ℕ, ◌≤◌}
use native.Mathlib.Omega.{arith}
use mathlib.Core.List.{List}
use lib.ListN.{length, drop, length-append}
use Rattle.texts.specs.Texts.{Puts, TextsOne}

pub texts_one : TextsOne
texts_one s number count out m n a b e f p q = (p.says ∙ sym q.says, p.moves ∙ sym q.moves, p.leaves ∙ sym q.leaves)

pub texts_within : {text : List ℕ} {state : ℕ} {out : List ℕ} {size after : ℕ} {exit : List ℕ} → Puts text state out size after exit → size ≤ length exit
texts_within {text} {state} {out} p = omega (arith, p.says, ap length p.leaves, length-append text (drop (length text) out))
