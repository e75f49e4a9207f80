-- What is told goes out: the number returned, and the lent buffer at exit.
use Rattle.std.specs.Prelude.{◌≡◌, ℕ, List, ◌++◌, length, drop}
use Rattle.rules.specs.Told.{Told, number_told, values_told}

-- a buffer with the values at the start, and beyond them the same
abbrev pub values_in : Told → List ℕ → List ℕ
values_in t old = values_told t ++ drop (length (values_told t)) old

-- something is told: the number returned, and `out` at exit
pub record Gives (told : Told) (out : List ℕ) (number : ℕ) (exit : List ℕ) : Type 0 where
  pub says : number ≡ number_told told
  pub leaves : exit ≡ values_in told out
