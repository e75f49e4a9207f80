-- The report's outcome, by the room that there is for the lines of the answer that was found.
use mathlib.Core.Path.{◌≡◌, sym, ap, ap₂, ◌∙◌}
use Prim.Native.Nat.{ℕ, ◌≤◌, ◌<◌}
use native.Mathlib.Omega.{arith}
use mathlib.Core.List.{List, ◌++◌}
use lib.ListN.{length, drop}
use Rattle.rules.specs.Text.{bytes, digits, line}
use Rattle.rules.specs.Report.{answer_lines, set_lines}
use Rattle.rules.specs.Calls.{Reports}
use Rattle.rules.specs.declared.Refusal.{Refusal}
use Rattle.rules.specs.declared.Refusal.TheVariants.{TooShort}
use Rattle.rules.specs.declared.Verdict.{Verdict}
use Rattle.rules.proofs.Calls.{report_short, report_lines}
use Rattle.rules.proofs.Printed.{lines_are}
use Rattle.judged.specs.First.{Judges}
use Rattle.judged.specs.declared.First.{First}
use Rattle.std.specs.Prelude.{Result, Ok, Err}

module _ (n : ℕ) (text out : List ℕ) (first : First) (judged : Judges text first) where
  are_the_lines : line (bytes "set=") (digits n) ++ answer_lines first.answer ≡ set_lines n text
  are_the_lines = ap (λ (a : Result Verdict Refusal). line (bytes "set=") (digits n) ++ answer_lines a) judged.says ∙ sym (lines_are n text)

  -- there is no room for them
  pub short : length out < length (line (bytes "set=") (digits n) ++ answer_lines first.answer) → Reports n text out (Err TooShort) out
  short h = report_short n text out (omega (arith, ap length are_the_lines))

  -- they are copied to the start
  pub told : (size : ℕ) (copied : List ℕ) → copied ≡ line (bytes "set=") (digits n) ++ answer_lines first.answer → size ≡ length (line (bytes "set=") (digits n) ++ answer_lines first.answer)
      → size ≤ length out → Reports n text out (Ok (record { length = size; left = first.left })) (copied ++ drop size out)
  told size copied l e h =
      let due = report_lines n text out (omega (arith, ap length are_the_lines)) in
      record {
        says = ap₂ (λ (k left : ℕ). Ok (record { length = k; left = left })) (e ∙ ap length are_the_lines) judged.leaves ∙ due.says;
        leaves = ap₂ (λ (vs : List ℕ) (k : ℕ). vs ++ drop k out) (l ∙ are_the_lines) (e ∙ ap length are_the_lines) ∙ due.leaves;
      }
