-- What is promised of something that takes the fields of a record one after another, and of the record that it takes.
use Rattle.std.specs.Prelude.{◌≡◌, ℕ, ◌+◌, List, [], ◌∷◌, ◌++◌, Option, MatchOption, length}
use Rattle.rules.specs.Sheet.{Record, fields, no_record, read_record}
use Rattle.rules.specs.Sheets.{doubled}
use Rattle.rules.proofs.Records.{befores}

-- one field more is taken, or it makes the record one that is not as due: of the contents before it, its own and its number
pub record TakesOn {S : Type 0} (taken : S → List (List ℕ) → S → Type 0) (refused : S → List (List ℕ) → Type 0) (body : List ℕ) (n : ℕ) (old new : S)
    (answer : Option (Unit {0})) : Type 0 where
  pub says : (start : S) (cs : List (List ℕ)) (c : List ℕ) → taken start cs old → body ≡ doubled c → n ≡ length cs + 1
      → MatchOption answer (refused start (cs ++ (c ∷ []))) (λ u. taken start (cs ++ (c ∷ [])) new)

-- a record is read: its fields are taken, and so many they are
pub record Taken {S : Type 0} (taken : S → List (List ℕ) → S → Type 0) (s : List ℕ) (start new : S) (n : ℕ) (rest : List ℕ) : Type 0 where
  pub contents : List (List ℕ)
  pub reads : read_record s ≡ fields contents rest
  pub counts : n ≡ length contents
  pub holds : taken start contents new

-- or there is none, or its first fields make it one that is not as due
pub data Refused {S : Type 0} (refused : S → List (List ℕ) → Type 0) (s : List ℕ) (start : S) : Type 0 where
  none_there : read_record s ≡ no_record → Refused refused s start
  not_due : (cs : List (List ℕ)) (left : Record) → befores cs left ≡ read_record s → refused start cs → Refused refused s start

-- two outcomes of one record that is read have the same count and rest, whatever takes its fields
abbrev pub TakenOne : Type 1
TakenOne = (S : Type 0) (taken : S → List (List ℕ) → S → Type 0) (s : List ℕ) (start new other : S) (n m : ℕ) (rest after : List ℕ)
    → Taken taken s start new n rest → Taken taken s start other m after → (n ≡ m) × (rest ≡ after)
