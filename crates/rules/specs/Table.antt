-- Which tables are refused. Document 01, "What the check covers" (ranges) and "Refusal numbers" 1 to 4.
use Rattle.std.specs.Prelude.{◌≡◌, ℕ, zero, suc, ◌+◌, ◌*◌, ◌/◌, ◌%◌, ◌≤◌, ◌<◌, List, [], ◌∷◌, Bool, not, ◌&&◌, leb, ltb, eqb, length, get_or, if◌then◌else◌, Option, Some, None, Result, Ok, Err}
use Rattle.rules.specs.Numbers.{task_most, table_most, word_most}
use Rattle.rules.specs.declared.Task.{Task}
use Rattle.rules.specs.Refusals.{◌when◌, first_of, answering}
use Rattle.rules.specs.declared.Refusal.{Refusal}
use Rattle.rules.specs.declared.Refusal.TheVariants.{NoWord, NotFours, TooManyWords, OutOfRange}

-- the least value of the word at an index: C, D and T are 1 or more, R may be 0
unfoldable pub word_least : ℕ → ℕ
word_least i = if eqb (i % 4) 3 then 0 else 1

-- the word at an index is in its range
unfoldable pub in_range : ℕ → ℕ → Bool
in_range i x = leb (word_least i) x && leb x word_most

-- refusal 4, with the index of the first word out of its range, for the words from index i on
unfoldable pub out_of_range : ℕ → List ℕ → Option Refusal
out_of_range i [] = None
out_of_range i (x ∷ xs) = if in_range i x then out_of_range (suc i) xs else Some (OutOfRange i)

-- refusals 1, 2, 3, 4 of a table, in this order
unfoldable pub table_refusal : List ℕ → Option Refusal
table_refusal w =
    first_of
    ((NoWord when eqb (length w) 0)
    ∷ (NotFours when not (eqb (length w % 4) 0))
    ∷ (TooManyWords when ltb table_most (length w))
    ∷ out_of_range 0 w
    ∷ [])

-- whether a table is one
unfoldable pub table_answer : List ℕ → Result (Unit {0}) Refusal
table_answer w = answering (table_refusal w) Err (Ok tt)

-- a word at an index is in its range: C, D and T are 1 to 65,535, R is 0 to 65,535
pub record Ranged (i x : ℕ) : Type 0 where
  pub low : i % 4 < 3 → 1 ≤ x
  pub high : x ≤ 65535

-- the word at index i is the first out of its range
pub record FirstOut (w : List ℕ) (i : ℕ) : Type 0 where
  pub known : i < length w
  pub out : Ranged i (get_or w i 0) → ⊥
  pub before : (k : ℕ) → k < i → Ranged k (get_or w k 0)

-- a table that is one: 1 to 64 tasks of four words, every word in its range
pub record Fine (w : List ℕ) : Type 0 where
  pub some_word : length w ≡ 0 → ⊥
  pub fours : length w % 4 ≡ 0
  pub few : length w ≤ 256
  pub ranged : (i : ℕ) → i < length w → Ranged i (get_or w i 0)

-- the task of number i, by the words of a table
abbrev pub task_in : List ℕ → ℕ → Task
task_in w i = record { C = get_or w (4 * i) 0; D = get_or w (4 * i + 1) 0; T = get_or w (4 * i + 2) 0; R = get_or w (4 * i + 3) 0 }

-- the n tasks from number k on
unfoldable pub tasks_from : List ℕ → ℕ → ℕ → List Task
tasks_from w zero k = []
tasks_from w (suc n) k = task_in w k ∷ tasks_from w n (suc k)

-- what a table of m tasks that is not refused is, in bounds
pub record Valid (w : List ℕ) (m : ℕ) : Type 0 where
  pub words : length w ≡ 4 * m
  pub some_task : 1 ≤ m
  pub most_tasks : m ≤ task_most
  pub c_low : (i : ℕ) → i < m → 1 ≤ get_or w (4 * i) 0
  pub d_low : (i : ℕ) → i < m → 1 ≤ get_or w (4 * i + 1) 0
  pub t_low : (i : ℕ) → i < m → 1 ≤ get_or w (4 * i + 2) 0
  pub high : (i : ℕ) → i < 4 * m → get_or w i 0 ≤ word_most

-- how many tasks a table has
abbrev pub task_count : List ℕ → ℕ
task_count w = length w / 4

-- a table that is not refused, by those bounds
abbrev pub ValidTable : List ℕ → Type 0
ValidTable w = Valid w (task_count w)
