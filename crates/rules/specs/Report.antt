-- What the program prints. Document 01, "The program and the C call"; document 02, 3/14.
use Rattle.std.specs.Prelude.{ℕ, zero, suc, List, [], ◌∷◌, ◌++◌, ltb, eqb, length, if◌then◌else◌, Option, Some, None, Result, Ok, Err}
use Rattle.rules.specs.Numbers.{input_most}
use Rattle.rules.specs.Refusals.{entry, carried_line, ◌when◌, answering, lent}
use Rattle.rules.specs.Text.{bytes, digits, line, read_set, rest_read}
use Rattle.rules.specs.Answers.{first_answer}
use Rattle.rules.specs.declared.Refusal.{Refusal}
use Rattle.rules.specs.declared.Refusal.TheVariants.{TooShort}
use Rattle.rules.specs.declared.Verdict.{Verdict}
use Rattle.rules.specs.declared.Reported.{Reported}

-- a task number or none
abbrev pub blocker_word : Option ℕ → List ℕ
blocker_word (Some k) = digits k
blocker_word None = bytes "none"

-- the lines of a verdict
abbrev pub verdict_lines : Verdict → List ℕ
verdict_lines (Verdict.Meets σ) = line (bytes "verdict=") (bytes "meets") ++ line (bytes "span=") (digits σ)
verdict_lines (Verdict.Misses L b over) =
    line (bytes "verdict=") (bytes "misses")
    ++ (line (bytes "length=") (digits L) ++ (line (bytes "blocker=") (blocker_word b) ++ line (bytes "over=") (digits over)))
verdict_lines Verdict.TooFar = line (bytes "verdict=") (bytes "toofar")

-- the lines of a refusal: its number, and what it carries
abbrev pub refusal_lines : Refusal → List ℕ
refusal_lines r = line (bytes "refused=") (digits (entry r).number) ++ carried_line (entry r).carries

-- the lines of an answer
abbrev pub answer_lines : Result Verdict Refusal → List ℕ
answer_lines (Ok v) = verdict_lines v
answer_lines (Err r) = refusal_lines r

-- the lines for the first set of a text, as set number n
unfoldable pub set_lines : ℕ → List ℕ → List ℕ
set_lines n text = line (bytes "set=") (digits n) ++ answer_lines (first_answer text)

-- what is left to read after it: nothing after a 7, which stops the run
unfoldable pub set_rest : List ℕ → List ℕ
set_rest text = rest_read (read_set text)

-- THE REPORT OF ONE SET. Refusal 6
unfoldable pub report_refusal : ℕ → List ℕ → List ℕ → Option Refusal
report_refusal n text out = TooShort when ltb (length out) (length (set_lines n text))

-- it answers the length of the lines, and how much is left to read
unfoldable pub report_answer : ℕ → List ℕ → List ℕ → Result Reported Refusal
report_answer n text out =
    answering (report_refusal n text out) Err (Ok (record { length = length (set_lines n text); left = length (set_rest text) }))

-- and writes the lines to the start of the lent bytes
unfoldable pub report_buffer : ℕ → List ℕ → List ℕ → List ℕ
report_buffer n text out = lent (report_refusal n text out) (set_lines n text) out

-- THE PROGRAM. The lines for at most k sets from number n on, until the rest is empty
unfoldable pub sets_lines : ℕ → ℕ → List ℕ → List ℕ
sets_lines zero n text = []
sets_lines (suc k) n text =
    set_lines n text ++ (if eqb (length (set_rest text)) 0 then [] else sets_lines k (suc n) (set_rest text))

-- all that is printed for an input
unfoldable pub output : List ℕ → List ℕ
output input = if ltb input_most (length input) then bytes "toolong" ++ (10 ∷ []) else sets_lines (suc (length input)) 1 input
