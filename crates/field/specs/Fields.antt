-- What the calls on one field promise, and that the one for other crates leaves one outcome.
use Rattle.std.specs.Prelude.{◌≡◌, ℕ, ◌+◌, ◌<◌, List, Bool, true, false, length, take, drop, Option, Some, None}
use Rattle.rules.specs.Sheet.{content, no_field, read_quoted, Step, more, last, no_step, next_field}
use Rattle.rules.specs.Standing.{standing, standing_step}
use Rattle.field.specs.declared.Field.{Field}

-- so many bytes stand before the quote that closes a quoted field, or none closes it
abbrev pub Quoted : List ℕ → Option ℕ → Type 0
Quoted s (Some n) = (n < length s) × (standing (read_quoted s) ≡ content (take n s) (drop (n + 1) s))
Quoted s None = standing (read_quoted s) ≡ no_field

-- a field that was found, by how it goes on
abbrev pub step_of : Bool → List ℕ → List ℕ → Step
step_of true body rest = last body rest
step_of false body rest = more body rest

-- the answer of a search for the next field
abbrev pub stepped : Option Field → Step
stepped (Some f) = step_of f.last f.body.now f.rest.now
stepped None = no_step

-- a field that was found, by what it holds
abbrev pub held : Option Field → Option (Bool × List ℕ × List ℕ)
held (Some f) = Some (f.last, f.body.now, f.rest.now)
held None = None

-- two outcomes of one search for the next field hold the same
abbrev pub StepsOne : Type 0
StepsOne = (s : List ℕ) (a b : Option Field)
    → stepped a ≡ standing_step (next_field s) → stepped b ≡ standing_step (next_field s) → held a ≡ held b
