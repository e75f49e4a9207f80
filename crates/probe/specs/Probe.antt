-- A probe tells where `out` has room. For tests and benchmarks only.
use Rattle.std.specs.Prelude.{◌≡◌, ℕ, List, ltb, length, if◌then◌else◌}
use Rattle.rules.specs.Told.{Told, number_told}
use Rattle.tell.specs.Gives.{values_in}

-- what is so where `out` is shorter than 4 words, and what otherwise
unfoldable pub by_room : {X : Type 0} → List ℕ → X → X → X
by_room out short enough = if ltb (length out) 4 then short else enough

-- a probe tells it where `out` has room; a short `out` gets 999 and stays
pub record Probes (told : Told) (out : List ℕ) (number : ℕ) (exit : List ℕ) : Type 0 where
  pub says : number ≡ by_room out 999 (number_told told)
  pub leaves : exit ≡ by_room out out (values_in told out)

-- two outcomes of one probe are equal
abbrev pub ProbesOne : Type 0
ProbesOne = (told : Told) (out : List ℕ) (m n : ℕ) (e f : List ℕ) → Probes told out m e → Probes told out n f → (m ≡ n) × (e ≡ f)
