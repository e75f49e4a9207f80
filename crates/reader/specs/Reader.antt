-- That what the reader promises leaves one outcome.
use Rattle.std.specs.Prelude.{◌≡◌, ℕ, List}
use Rattle.rules.specs.Calls.{Reads}
use Rattle.reader.specs.declared.Reading.{Reading}

-- two outcomes of the reader are equal: the answer, the rest and the table
abbrev pub ReturnsOne : Type 0
ReturnsOne =
    (text table : List ℕ) (a b : Reading) (e f : List ℕ) → Reads text table a.answer a.rest.now e → Reads text table b.answer b.rest.now f
    → (a.answer ≡ b.answer) × ((a.rest.now ≡ b.rest.now) × (e ≡ f))
