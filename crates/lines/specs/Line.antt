-- What the calls that read one line promise, and that each promise leaves one outcome.
use Rattle.std.specs.Prelude.{◌≡◌, ◌-◌, ◌<◌, ℕ, List, true, false, Option, Some, None, MatchOption, option_map}
use Rattle.std.specs.Borrow.{Bor}
use Rattle.rules.specs.Text.{Read, got, bad, after_key, digit}

-- a search for a key gives the bytes after it, or nothing
abbrev pub Skips : List ℕ → List ℕ → Option (Bor (List ℕ)) → Type 0
Skips key s answer = MatchOption answer (after_key key s ≡ None) (λ rest. after_key key s ≡ Some rest.now)

-- a search for a number gives what is due: the number and the bytes after it, or nothing
abbrev pub Finds : Read → Option (ℕ × Bor (List ℕ)) → Type 0
Finds due answer = MatchOption answer (due ≡ bad) (λ found. due ≡ got found.0 found.1.now)

-- a byte is no digit, or it stands for a number
abbrev pub NoDigit : ℕ → Type 0
NoDigit b = digit b ≡ false

abbrev pub IsValueOf : ℕ → ℕ → Type 0
IsValueOf b v = (digit b ≡ true) × (v ≡ b - 48) × (v < 10)

-- what a call that answers with bytes left has told: of them as they stand
abbrev pub left : Option (Bor (List ℕ)) → Option (List ℕ)
left = option_map (λ (r : Bor (List ℕ)). r.now)

abbrev pub seen : Option (ℕ × Bor (List ℕ)) → Option (ℕ × List ℕ)
seen = option_map (λ (f : ℕ × Bor (List ℕ)). (f.0, f.1.now))

-- two outcomes of one search for a key are equal
abbrev pub SkipsOne : Type 0
SkipsOne = (key s : List ℕ) (a b : Option (Bor (List ℕ))) → Skips key s a → Skips key s b → left a ≡ left b

-- two outcomes of one search for a number are equal
abbrev pub FindsOne : Type 0
FindsOne = (due : Read) (a b : Option (ℕ × Bor (List ℕ))) → Finds due a → Finds due b → seen a ≡ seen b
