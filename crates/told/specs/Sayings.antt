-- What is told of each answer: the rules' number and values, with those that are the probe's own.
use Rattle.std.specs.Prelude.{◌≡◌, ℕ, [], ◌∷◌, ◌++◌, Option, Some, None, Result, Ok, Err, MatchResult}
use Rattle.rules.specs.Refusals.{number_of}
use Rattle.rules.specs.Told.{Told, ◌with◌, number_told, values_told, refusal_told, count_told, read_told, judged_told, verdict_told}
use Rattle.rules.specs.declared.Verdict.{Verdict}
use Rattle.told.specs.declared.Saying.{Saying}
use Rattle.told.specs.declared.Saying.TheVariants.{Bare, One, Two, Three, Four}
use Rattle.rules.specs.declared.Refusal.{Refusal}

-- a number with no to four values
abbrev pub said : Saying → Told
said (Bare n) = n with []
said (One n a) = n with (a ∷ [])
said (Two n a b) = n with (a ∷ b ∷ [])
said (Three n a b c) = n with (a ∷ b ∷ c ∷ [])
said (Four n a b c d) = n with (a ∷ b ∷ c ∷ d ∷ [])

-- an answer that is a count is told, of whatever type, by what its counts come to
abbrev pub Counts : {N : Type 0} → (N → ℕ → Type 0) → Result N Refusal → Told → Type 0
Counts comes_to answer told = MatchResult answer (λ n. (v : ℕ) × comes_to n v × (told ≡ count_told (Ok v))) (λ r. told ≡ refusal_told r)

-- of numbers it is told as the rules have it
abbrev pub NumbersCount : Type 0
NumbersCount = (answer : Result ℕ Refusal) (told : Told) → Counts (λ n v. v ≡ n) answer told → told ≡ count_told answer

-- a value after those that are told
infixl 15 ◌also◌
abbrev pub ◌also◌ : Told → ℕ → Told
t also v = number_told t with (values_told t ++ (v ∷ []))

-- the reader: the bytes used, beside the task count
abbrev pub read_probed : Result ℕ Refusal → ℕ → Told
read_probed (Ok n) used = read_told (Ok n) also used
read_probed (Err r) used = read_told (Err r)

-- the value for a blocker: its task's number, 2^64 - 1 where there is none
abbrev pub blocker_probed : Option ℕ → ℕ
blocker_probed (Some b) = b
blocker_probed None = 18446744073709551615

-- a "misses": told as if by the task of that value
abbrev pub misses_probed : ℕ → Option ℕ → ℕ → Told
misses_probed L b over = judged_told (Verdict.Misses L (Some (blocker_probed b)) over)

-- the verdict call
abbrev pub verdict_probed : Result Verdict Refusal → Told
verdict_probed (Ok (Verdict.Meets σ)) = judged_told (Verdict.Meets σ)
verdict_probed (Ok (Verdict.Misses L b over)) = misses_probed L b over
verdict_probed (Ok Verdict.TooFar) = judged_told Verdict.TooFar
verdict_probed (Err r) = verdict_told (Err r)

-- a draw: the number drawn, and the state after it
abbrev pub draw_probed : ℕ → ℕ → Told
draw_probed n after = 0 with (n ∷ after ∷ [])

-- a set drawn: the state after it, beside the task count; of a refusal its number, and the state
abbrev pub set_probed : Result ℕ Refusal → ℕ → Told
set_probed (Ok n) after = read_told (Ok n) also after
set_probed (Err r) after = number_of r with (after ∷ [])
