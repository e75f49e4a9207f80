-- What is found of the first set of a text.
use Rattle.std.specs.Prelude.{◌≡◌, ℕ, List, length}
use Rattle.rules.specs.Answers.{first_answer}
use Rattle.rules.specs.Report.{set_rest}
use Rattle.judged.specs.declared.First.{First}

-- the first set is judged: what is said of it, and how many bytes are left to read
pub record Judges (text : List ℕ) (first : First) : Type 0 where
  pub says : first.answer ≡ first_answer text
  pub leaves : first.left ≡ length (set_rest text)
