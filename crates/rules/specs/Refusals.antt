-- The refusals, their order and what a refused call leaves. Document 01, "Refusal numbers"; document 02, 2/14.
use Rattle.std.specs.Prelude.{ℕ, List, [], ◌∷◌, ◌++◌, Bool, true, false, length, drop, Option, Some, None}
use Rattle.rules.specs.Text.{bytes, digits, line}
use Rattle.rules.specs.declared.Refusal.{Refusal}
use Rattle.rules.specs.declared.Refusal.TheVariants.{NoWord, NotFours, TooManyWords, OutOfRange, BadEnd, TooShort, BadLine, NotMisses, NoHeader, BadRecord, NoRecord}
use Rattle.rules.specs.declared.Carried.{Carried}

-- a refusal's entry: its number, and what it carries
pub record Entry : Type 0 where
  pub number : ℕ
  pub carries : Option Carried

-- THE TABLE: of each refusal its number and what it carries; 4 carries the index of the word, 7 the number of the line, 14 that
-- of the record
abbrev pub entry : Refusal → Entry
entry NoWord = record { number = 1; carries = None }
entry NotFours = record { number = 2; carries = None }
entry TooManyWords = record { number = 3; carries = None }
entry (OutOfRange i) = record { number = 4; carries = Some (Carried.Word i) }
entry BadEnd = record { number = 5; carries = None }
entry TooShort = record { number = 6; carries = None }
entry (BadLine l) = record { number = 7; carries = Some (Carried.Line l) }
entry NotMisses = record { number = 8; carries = None }
entry NoHeader = record { number = 13; carries = None }
entry (BadRecord l) = record { number = 14; carries = Some (Carried.Record l) }
entry NoRecord = record { number = 15; carries = None }

-- a refusal's number
abbrev pub number_of : Refusal → ℕ
number_of r = (entry r).number

-- what is carried, as values
abbrev pub carried_values : Option Carried → List ℕ
carried_values None = []
carried_values (Some (Carried.Word i)) = i ∷ []
carried_values (Some (Carried.Line l)) = l ∷ []
carried_values (Some (Carried.Record l)) = l ∷ []

-- what is carried, as a line of the program's output
abbrev pub carried_line : Option Carried → List ℕ
carried_line None = []
carried_line (Some (Carried.Word i)) = line (bytes "word=") (digits i)
carried_line (Some (Carried.Line l)) = line (bytes "line=") (digits l)
carried_line (Some (Carried.Record l)) = line (bytes "record=") (digits l)

infix 15 ◌when◌
-- a refusal, given exactly when its test holds
abbrev pub ◌when◌ : Refusal → Bool → Option Refusal
r when true = Some r
r when false = None

-- of several refusals in order, the first that is given
abbrev pub first_of : List (Option Refusal) → Option Refusal
first_of [] = None
first_of (Some r ∷ os) = Some r
first_of (None ∷ os) = first_of os

-- a call's answer: its refusal, or its result
abbrev pub answering : {X : Type 0} → Option Refusal → (Refusal → X) → X → X
answering (Some r) refused result = refused r
answering None refused result = result

-- a lent buffer at exit: untouched by a refusal; else the result at its start, and beyond it the same
abbrev pub lent : Option Refusal → List ℕ → List ℕ → List ℕ
lent (Some r) result old = old
lent None result old = result ++ drop (length result) old
