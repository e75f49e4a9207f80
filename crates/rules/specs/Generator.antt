-- Sets drawn from a seed, the first state. Document 02, 1/14.
use Rattle.std.specs.Prelude.{◌≡◌, ℕ, zero, suc, ◌+◌, ◌*◌, ◌/◌, ◌%◌, min, List, [], ◌∷◌, ◌++◌, ltb, eqb, length, if◌then◌else◌, Option, Result, Ok, Err}
use Rattle.rules.specs.Refusals.{◌when◌, answering, lent}
use Rattle.rules.specs.Text.{write_set}
use Rattle.rules.specs.declared.Task.{Task}
use Rattle.rules.specs.declared.Refusal.{Refusal}
use Rattle.rules.specs.declared.Refusal.TheVariants.{TooShort}

-- a draw replaces the state by 1,664,525 times the state plus 1,013,904,223; the product and the sum are taken modulo 4,294,967,296
unfoldable pub next_state : ℕ → ℕ
next_state s = (1664525 * s % 4294967296 + 1013904223) % 4294967296

-- the drawn number is the new state divided by 65,536, rounded down
unfoldable pub drawn : ℕ → ℕ
drawn s = next_state s / 65536

-- the state after n draws
unfoldable pub state_after : ℕ → ℕ → ℕ
state_after zero s = s
state_after (suc n) s = state_after n (next_state s)

-- a set draws its count, 1 + (draw mod 8)
unfoldable pub count_drawn : ℕ → ℕ
count_drawn s = 1 + drawn s % 8

-- then for each task T as 1 + (draw mod 1000), C as 1 + (draw mod T), D as 1 + (draw mod 2000), R as draw mod 1000
unfoldable pub task_drawn : ℕ → Task
task_drawn s =
    let T = 1 + drawn s % 1000 in
    record {
      C = 1 + drawn (state_after 1 s) % T;
      D = 1 + drawn (state_after 2 s) % 2000;
      T = T;
      R = drawn (state_after 3 s) % 1000;
    }

-- n tasks, one after another
unfoldable pub tasks_drawn : ℕ → ℕ → List Task
tasks_drawn zero s = []
tasks_drawn (suc n) s = task_drawn s ∷ tasks_drawn n (state_after 4 s)

-- the long kernel in a task's place: D and T of 65,535, the C that is given, and the R that it has
abbrev pub long_kernel : ℕ → Task → Task
long_kernel c τ = record { C = c; D = 65535; T = 65535; R = τ.R }

-- the last of the tasks after some others becomes the long kernel, with C equal to the least D of the others; d is the least so far
unfoldable pub last_long : ℕ → Task → List Task → List Task
last_long d τ [] = long_kernel d τ ∷ []
last_long d τ (υ ∷ ts) = τ ∷ last_long (min d τ.D) υ ts

-- so in a set of two tasks or more
unfoldable pub with_long : List Task → List Task
with_long [] = []
with_long (τ ∷ []) = τ ∷ []
with_long (τ ∷ υ ∷ ts) = τ ∷ last_long τ.D υ ts

-- the set of a number: where that is a multiple of 4, with the long kernel
unfoldable pub set_drawn : ℕ → ℕ → List Task
set_drawn number s =
    let ts = tasks_drawn (count_drawn s) (state_after 1 s) in
    if eqb (number % 4) 0 then with_long ts else ts

-- the state after a set: one draw for the count, and four a task
unfoldable pub state_after_set : ℕ → ℕ
state_after_set s = state_after (1 + 4 * count_drawn s) s

-- the words of tasks, in the order C, D, T, R
unfoldable pub words_of : List Task → List ℕ
words_of [] = []
words_of (τ ∷ ts) = τ.C ∷ τ.D ∷ τ.T ∷ τ.R ∷ words_of ts

-- the words of the set
abbrev pub words_drawn : ℕ → ℕ → List ℕ
words_drawn number s = words_of (set_drawn number s)

-- THE DRAW. The number drawn, and the state after it
pub record Draws (s n after : ℕ) : Type 0 where
  pub says : n ≡ drawn s
  pub moves : after ≡ next_state s

-- THE SET. Refusal 6, where the lent table is shorter than the set drawn
unfoldable pub draw_refusal : ℕ → ℕ → List ℕ → Option Refusal
draw_refusal s number table = TooShort when ltb (length table) (length (words_drawn number s))

-- it answers the task count
unfoldable pub draw_answer : ℕ → ℕ → List ℕ → Result ℕ Refusal
draw_answer s number table = answering (draw_refusal s number table) Err (Ok (length (set_drawn number s)))

-- moves the state on; refusing, it stays as it was before the set
unfoldable pub draw_state : ℕ → ℕ → List ℕ → ℕ
draw_state s number table = answering (draw_refusal s number table) (λ r. s) (state_after_set s)

-- and writes the set's words to the start of the lent table
unfoldable pub draw_table : ℕ → ℕ → List ℕ → List ℕ
draw_table s number table = lent (draw_refusal s number table) (words_drawn number s) table

-- its answer, the state after it and the lent table
pub record DrawsSet (s number : ℕ) (table : List ℕ) (answer : Result ℕ Refusal) (after : ℕ) (exit : List ℕ) : Type 0 where
  pub says : answer ≡ draw_answer s number table
  pub moves : after ≡ draw_state s number table
  pub leaves : exit ≡ draw_table s number table

-- the state after n sets
unfoldable pub state_after_sets : ℕ → ℕ → ℕ
state_after_sets zero s = s
state_after_sets (suc n) s = state_after_sets n (state_after_set s)

-- THE PROGRAM. The texts of n sets, numbered from k on, each drawn from the state that the one before it left
unfoldable pub generated : ℕ → ℕ → ℕ → List ℕ
generated zero k s = []
generated (suc n) k s = write_set (words_drawn k s) ++ generated n (suc k) (state_after_set s)
