-- How few bytes the text of a set has, and how many the lines for a set can have.
use mathlib.Core.Path.{◌≡◌, refl, ap}
use Prim.Native.Nat.{ℕ, suc, ◌+◌, ◌*◌, ◌/◌, ◌%◌, ◌≤◌, ◌<◌}
use native.Mathlib.Omega.{arith}
use mathlib.Core.List.{List, [], ◌∷◌, ◌++◌}
use lib.ListN.{length, length-append}
use Rattle.rules.specs.Refusals.{entry, carried_line}
use Rattle.rules.specs.Text.{Lines, took, stop, bytes, digits, line, key_of, read_set, write_lines, write_set}
use Rattle.rules.specs.Report.{blocker_word, verdict_lines, answer_lines, set_lines, set_rest}
use Rattle.rules.specs.Answers.{first_answer}
use Rattle.rules.specs.declared.Carried.{Carried}
use Rattle.rules.specs.declared.Verdict.{Verdict}
use Rattle.rules.proofs.Digits.{digits_least, digits_most}
use Rattle.rules.proofs.WriteSteps.{line_length, key_length, set_length}
use Rattle.rules.proofs.SetTrips.{set_back}
use Rattle.rules.proofs.Printed.{lines_are, rest_read, rest_stops}
use Rattle.std.specs.Prelude.{Option, Some, None, Result, Ok, Err}
use Rattle.rules.specs.declared.Refusal.{Refusal}

-- a line of a task has a key of two bytes, a digit and byte 10 at least
lines_least : (k : ℕ) (ws : List ℕ) → 4 * length ws ≤ length (write_lines k ws)
unfolding write_lines
lines_least k [] = omega arith
lines_least k (w ∷ ws) =
    let l = line (key_of (k % 4)) (digits w) in
    omega (arith, length-append l (write_lines (suc k) ws), line_length (key_of (k % 4)) (digits w), key_length (k % 4), digits_least w, lines_least (suc k) ws)

-- a set that is read takes 24 bytes at least: `tasks=1` with its byte 10, and four lines
pub set_least : (text ws rest : List ℕ) → read_set text ≡ took ws rest → 24 + length rest ≤ length text
set_least text ws rest e =
    let s = set_back text ws rest e in
    omega (arith, ap length s.text, s.words, s.some_task, length-append (write_set ws) rest, set_length ws, digits_least (length ws / 4), lines_least 0 ws)

-- so something is left to read only where 24 bytes fewer are
pub rest_fewer : (text : List ℕ) → 0 < length (set_rest text) → 24 + length (set_rest text) ≤ length text
rest_fewer text h = by_set (read_set text) refl
  where
    by_set : (k : Lines) → read_set text ≡ k → 24 + length (set_rest text) ≤ length text
    by_set (took ws rest) e = omega (arith, set_least text ws rest e, ap length (rest_read text ws rest e))
    by_set (stop l) e = absurd (omega (arith, ap length (rest_stops text l e)))

-- a line with a number
number_line : (key : List ℕ) (v : ℕ) → length (line key (digits v)) ≤ length key + 11
number_line key v = omega (arith, line_length key (digits v), digits_most v)

blocker_most : (b : Option ℕ) → length (line (bytes "blocker=") (blocker_word b)) ≤ 19
blocker_most (Some k) = number_line (bytes "blocker=") k
blocker_most None = omega (arith, line_length (bytes "blocker=") (bytes "none"))

verdict_most : (v : Verdict) → length (verdict_lines v) ≤ 68
verdict_most (Verdict.Meets σ) =
    simp length-append (omega (arith, line_length (bytes "verdict=") (bytes "meets"), number_line (bytes "span=") σ))
verdict_most (Verdict.Misses L b over) =
    simp length-append
    (omega (arith, line_length (bytes "verdict=") (bytes "misses"), number_line (bytes "length=") L, blocker_most b, number_line (bytes "over=") over))
verdict_most Verdict.TooFar = omega (arith, line_length (bytes "verdict=") (bytes "toofar"))

carried_most : (c : Option Carried) → length (carried_line c) ≤ 18
carried_most None = omega arith
carried_most (Some (Carried.Word i)) = omega (arith, number_line (bytes "word=") i)
carried_most (Some (Carried.Line l)) = omega (arith, number_line (bytes "line=") l)
carried_most (Some (Carried.Record l)) = number_line (bytes "record=") l

-- an answer's lines
pub answer_most : (a : Result Verdict Refusal) → length (answer_lines a) ≤ 68
answer_most (Ok v) = verdict_most v
answer_most (Err r) =
    simp length-append (omega (arith, number_line (bytes "refused=") (entry r).number, carried_most (entry r).carries))

-- a set's lines, whatever its answer: 83 bytes at most
pub said_most : (n : ℕ) (a : Result Verdict Refusal) → length (line (bytes "set=") (digits n) ++ answer_lines a) ≤ 83
said_most n a = simp length-append (omega (arith, number_line (bytes "set=") n, answer_most a))

pub lines_most : (n : ℕ) (text : List ℕ) → length (set_lines n text) ≤ 83
lines_most n text = omega (arith, ap length (lines_are n text), said_most n (first_answer text))
