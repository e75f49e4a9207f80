-- Bytes are a name exactly where they are equal to it.
use mathlib.Core.Path.{◌≡◌}
use Prim.Native.Nat.{ℕ}
use mathlib.Core.List.{List}
use mathlib.Core.Bool.{Bool}
use lib.Dec.{eqb}
use Rattle.std.specs.Bool.{one_answer}
use Rattle.std.proofs.lemmas.Bool.Decides.{Decides-eqb}
use Rattle.std.specs.Cmp.Lexicographic.{pointwise}
use Rattle.std.proofs.lemmas.Slice.Eq.{slice_eq-Decides}
use Rattle.rules.specs.Sheet.{is_name}
use Rattle.rules.proofs.SheetNames.{name_exact}

pub name_by_eq : (name c : List ℕ) (r : Bool) → r ≡ pointwise eqb c name → r ≡ is_name name c
name_by_eq name c r e = one_answer r (is_name name c) (slice_eq-Decides Decides-eqb c name r e) (name_exact name c)
