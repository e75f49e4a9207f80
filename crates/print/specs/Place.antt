-- Bytes put at a place: what the calls promise, and that it leaves one outcome.
use Rattle.std.specs.Prelude.{◌≡◌, ℕ, ◌+◌, List, ◌++◌, length, take, drop}

-- bytes in the place of as many, from a place on
abbrev pub put : List ℕ → ℕ → List ℕ → List ℕ
put old at vs = take at old ++ (vs ++ drop (at + length vs) old)

-- bytes are put at a place; the answer is the place after them
pub record Puts (old : List ℕ) (at : ℕ) (vs : List ℕ) (next : ℕ) (exit : List ℕ) : Type 0 where
  pub says : next ≡ at + length vs
  pub leaves : exit ≡ put old at vs

-- two outcomes of one call are equal
abbrev pub PutsOne : Type 0
PutsOne = (old : List ℕ) (at : ℕ) (vs : List ℕ) (m n : ℕ) (e f : List ℕ) → Puts old at vs m e → Puts old at vs n f → (m ≡ n) × (e ≡ f)
