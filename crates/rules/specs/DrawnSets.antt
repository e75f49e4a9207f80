-- What is drawn, in the paper's words: the states one after another, the tasks by their draws, the long kernel. Document 02, 1/14.
use Rattle.std.specs.Prelude.{◌≡◌, ◌⊎◌, ℕ, suc, ◌+◌, ◌*◌, ◌/◌, ◌%◌, ◌≤◌, ◌<◌, List, length}
use Rattle.rules.specs.Task.{task_at}
use Rattle.rules.specs.declared.Task.{Task}

-- the states: the first, and after each of them the one that a draw replaces it by
pub record States (s : ℕ) (σ : ℕ → ℕ) : Type 0 where
  pub first : σ 0 ≡ s
  pub next : (k : ℕ) → σ (suc k) ≡ (1664525 * σ k + 1013904223) % 4294967296

-- the tasks that a set draws, by the states: the count by the first draw, then T, C, D and R of each task by four
pub record SetOf (σ : ℕ → ℕ) (ts : List Task) : Type 0 where
  pub count : length ts ≡ 1 + σ 1 / 65536 % 8
  pub t_drawn : (i : ℕ) → i < length ts → (task_at ts i).T ≡ 1 + σ (4 * i + 2) / 65536 % 1000
  pub c_drawn : (i : ℕ) → i < length ts → (task_at ts i).C ≡ 1 + σ (4 * i + 3) / 65536 % (task_at ts i).T
  pub d_drawn : (i : ℕ) → i < length ts → (task_at ts i).D ≡ 1 + σ (4 * i + 4) / 65536 % 2000
  pub r_drawn : (i : ℕ) → i < length ts → (task_at ts i).R ≡ σ (4 * i + 5) / 65536 % 1000

-- the same tasks with the long kernel in the place of the last, number k: D and T of 65,535, C equal to the least D of the others, its own R
pub record LongAt (k : ℕ) (ts us : List Task) : Type 0 where
  pub as_many : length us ≡ length ts
  pub others : (i : ℕ) → i < k → task_at us i ≡ task_at ts i
  pub d_is : (task_at us k).D ≡ 65535
  pub t_is : (task_at us k).T ≡ 65535
  pub r_kept : (task_at us k).R ≡ (task_at ts k).R
  pub c_most : (i : ℕ) → i < k → (task_at us k).C ≤ (task_at us i).D
  pub c_one : (i : ℕ) × (i < k) × ((task_at us k).C ≡ (task_at us i).D)

-- the set of a number that is drawn from a state, and the state after it: as drawn, where the number is no multiple of 4 or there is one task only;
-- else with the long kernel in the place of the last
pub data FromSeed (s number : ℕ) : List Task → ℕ → Type 0 where
  as_drawn : {σ : ℕ → ℕ} {ts : List Task} → States s σ → SetOf σ ts → (number % 4 ≡ 0 → ⊥) ⊎ (length ts ≡ 1) → FromSeed s number ts (σ (1 + 4 * length ts))
  with_long_last : {σ : ℕ → ℕ} {ts us : List Task} {k : ℕ} → States s σ → SetOf σ ts → number % 4 ≡ 0 → 1 ≤ k → length ts ≡ suc k → LongAt k ts us
      → FromSeed s number us (σ (1 + 4 * length ts))
