-- The starred sets of document 01, "Sets with their outcome", as one table under a single statement; a "misses" with its excess, document 02, 3/14.
use Rattle.std.specs.Prelude.{◌≡◌, ℕ, length, Option, Some, None, Ok}
use mathlib.Core.List.{List, [], ◌∷◌, Memᴰ}
use Rattle.rules.specs.Answers.{schedule_answer, schedule_buffer, verdict_answer, pattern_answer, pattern_buffer}
use Rattle.rules.specs.declared.Verdict.{Verdict}

-- the words of tasks given as (C, D, T), R 0
abbrev pub set : List (ℕ × ℕ × ℕ) → List ℕ
set [] = []
set (τ ∷ ts) = τ.0 ∷ τ.1 ∷ τ.2 ∷ 0 ∷ set ts

-- what a row of the table says: the verdict; the rows of the schedule for Z, on time; the rows of the pattern
pub data Outcome : Type 0 where
  meets : ℕ → Outcome
  misses : ℕ → Option ℕ → ℕ → Outcome
  on_time : ℕ → ℕ → List ℕ → Outcome
  pattern : ℕ → List ℕ → Outcome

-- a row: the set and its outcome
pub record Star : Type 0 where
  pub tasks : List (ℕ × ℕ × ℕ)
  pub outcome : Outcome

-- the table
abbrev pub stars : List Star
stars =
    record { tasks = (1, 1, 1) ∷ []; outcome = meets 1 }
    ∷ record { tasks = (2, 4, 4) ∷ (3, 6, 6) ∷ []; outcome = meets 12 }
    ∷ record { tasks = (2, 4, 4) ∷ (4, 8, 8) ∷ []; outcome = misses 4 (Some 1) 1 }
    ∷ record { tasks = (3, 4, 4) ∷ (2, 8, 8) ∷ []; outcome = meets 8 }
    ∷ record { tasks = (3, 4, 4) ∷ (3, 8, 8) ∷ []; outcome = misses 4 (Some 1) 1 }
    ∷ record { tasks = (1, 1, 2) ∷ (1, 1, 2) ∷ []; outcome = misses 1 None 1 }
    ∷ record { tasks = (1, 1, 2) ∷ (1, 9, 9) ∷ []; outcome = meets 2 }
    ∷ record { tasks = (5, 3, 10) ∷ []; outcome = misses 3 None 2 }
    ∷ record { tasks = (2, 4, 4) ∷ (4, 8, 8) ∷ []; outcome = on_time 8 3 (0 ∷ 0 ∷ 0 ∷ 2 ∷ 1 ∷ 0 ∷ 2 ∷ 6 ∷ 0 ∷ 1 ∷ 6 ∷ 8 ∷ []) }
    ∷ record { tasks = (2, 4, 4) ∷ (4, 8, 8) ∷ []; outcome = pattern 2 (1 ∷ 0 ∷ 0 ∷ 4 ∷ 0 ∷ 0 ∷ 4 ∷ 6 ∷ []) }
    ∷ []

-- a row is right: the definitions give that outcome; a buffer that just holds the rows is filled with them
abbrev pub Right : List ℕ → Outcome → Type 0
Right w (meets σ) = verdict_answer w ≡ Ok (Verdict.Meets σ)
Right w (misses L b over) = verdict_answer w ≡ Ok (Verdict.Misses L b over)
Right w (on_time z n rows) =
    ((out : List ℕ) → length out ≡ length rows → (schedule_answer w z out ≡ Ok (record { rows = n; late = None })) × (schedule_buffer w z out ≡ rows))
Right w (pattern n rows) =
    ((out : List ℕ) → length out ≡ length rows → (pattern_answer w out ≡ Ok n) × (pattern_buffer w out ≡ rows))

-- every row of the table is right
abbrev pub Stars : Type 0
Stars = (s : Star) → Memᴰ s stars → Right (set s.tasks) s.outcome
