-- The bytes that a reading used: what it hands back is no longer than the text.
use mathlib.Core.Path.{ap, ◌∙◌, sym}
use Prim.Native.Nat.{ℕ, ◌≤◌}
use native.Mathlib.Omega.{arith}
use mathlib.Core.List.{List}
use lib.ListN.{length}
use Rattle.rules.specs.Calls.{Reads}
use Rattle.rules.proofs.Calls.{read_stops, read_short, read_set_law}
use Rattle.rules.proofs.Reading.{Ending, at_line, no_room, whole, ending, shorter}
use Rattle.std.specs.Prelude.{Result}
use Rattle.rules.specs.declared.Refusal.{Refusal}

pub rest_within : (text table : List ℕ) {answer : Result ℕ Refusal} {rest exit : List ℕ} → Reads text table answer rest exit → length rest ≤ length text
rest_within text table {rest = rest} reads = by_ending (ending text table)
  where
    by_ending : Ending text table → length rest ≤ length text
    by_ending (at_line l e) = omega (arith, ap length (reads.hands_back ∙ sym (read_stops text table l e).hands_back))
    by_ending (no_room ws q e h) = omega (arith, ap length (reads.hands_back ∙ sym (read_short text table ws q e h).hands_back))
    by_ending (whole ws q e h) = omega (arith, ap length (reads.hands_back ∙ sym (read_set_law text table ws q e h).hands_back), shorter text ws q e)
