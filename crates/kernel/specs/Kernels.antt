-- What the calls on the records after a header promise.
use Rattle.std.specs.Prelude.{◌≡◌, ℕ, ◌-◌, ◌*◌, ◌≤◌, ◌<◌, List, [], Option, Some, None, Result, Ok, Err, MatchOption, length, take, get_or}
use Rattle.kernel.specs.declared.Kernel.{Kernel}
use native.Mathlib.Omega.{arith}
use mathlib.Core.Path.{refl}
use Rattle.rules.specs.Numbers.{task_most}
use Rattle.rules.specs.Sheet.{read_record, field_number, row, no_row, read_row, Sheet, tasks, wrong, read_tasks}
use Rattle.rules.specs.declared.Refusal.{Refusal}
use Rattle.rules.specs.declared.Refusal.TheVariants.{BadRecord}

-- the number of a field goes to each word whose column it is, and the others stay; or it is no number where one is asked for
pub record Stores (body : List ℕ) (column : ℕ) (columns old : List ℕ) (answer : Option (Unit {0})) (exit : List ℕ) : Type 0 where
  pub four : length exit ≡ length old
  pub here : answer ≡ Some tt → (k : ℕ) → k < 4 → get_or columns k 0 ≡ column → field_number body ≡ Some (get_or exit k 0)
  pub elsewhere : (k : ℕ) → k < 4 → (get_or columns k 0 ≡ column → ⊥) → get_or exit k 0 ≡ get_or old k 0
  pub none_here : answer ≡ None → (k : ℕ) × (k < 4) × (get_or columns k 0 ≡ column) × (field_number body ≡ None)

-- columns are counted from 1
abbrev pub FromOne : List ℕ → Type 0
FromOne columns = (k : ℕ) → k < 4 → 1 ≤ get_or columns k 0

-- of fields with these contents each word whose column has come is its number, and there are as many words as at the start; or one is no number
abbrev pub IsStored : List ℕ → List ℕ → List (List ℕ) → List ℕ → List ℕ → Type 0
IsStored columns start cs same words =
    FromOne columns → (same ≡ columns) × (length words ≡ length start)
    × ((k : ℕ) → k < 4 → get_or columns k 0 ≤ length cs → field_number (get_or cs (get_or columns k 0 - 1) []) ≡ Some (get_or words k 0))

abbrev pub IsMissing : List ℕ → List (List ℕ) → Type 0
IsMissing columns cs = FromOne columns → (k : ℕ) × (k < 4) × (get_or columns k 0 - 1 < length cs) × (field_number (get_or cs (get_or columns k 0 - 1) []) ≡ None)

-- before the first field no column has come
pub none_stored : (columns words : List ℕ) → IsStored columns words [] columns words
none_stored columns words one = (refl, refl, λ k h l. absurd (omega (arith, one k h)))

-- what a sheet's records are by the answer and the words: at most as many rows as a tile has tasks, or the number of one that is not as due
pub data Said (words : List ℕ) : Result ℕ Refusal → Sheet → Type 0 where
  whole : {n : ℕ} → n ≤ task_most → Said words (Ok n) (tasks (take (4 * n) words))
  stopped : {l : ℕ} → Said words (Err (BadRecord l)) (wrong l)

-- all records up to the end of the sheet
pub record Reads (s columns : List ℕ) (count : ℕ) (answer : Result ℕ Refusal) (words : List ℕ) : Type 0 where
  pub long : length words ≡ 4 * task_most
  pub said : Said words answer (read_tasks count columns task_most 2 s)

-- a record gives a row, or none
abbrev pub Takes : List ℕ → List ℕ → ℕ → Option Kernel → Type 0
Takes s columns count answer =
    MatchOption answer (read_row count columns (read_record s) ≡ no_row) (λ k. read_row count columns (read_record s) ≡ row k.words k.rest.now)

-- a row that was found, by what it holds
abbrev pub held : Option Kernel → Option (List ℕ × List ℕ)
held (Some k) = Some (k.words, k.rest.now)
held None = None

-- two outcomes of one record hold the same
abbrev pub TakesOne : Type 0
TakesOne = (s columns : List ℕ) (count : ℕ) (a b : Option Kernel) → Takes s columns count a → Takes s columns count b → held a ≡ held b

-- the words of the kernels that were answered
abbrev pub answered : Result ℕ Refusal → List ℕ → List ℕ
answered (Ok n) words = take (4 * n) words
answered (Err r) words = []

-- two outcomes of all records are equal: the answer, and the words that it counts
abbrev pub ReadsOne : Type 0
ReadsOne = (s columns : List ℕ) (count : ℕ) (a b : Result ℕ Refusal) (ws vs : List ℕ)
    → Reads s columns count a ws → Reads s columns count b vs → (a ≡ b) × (answered a ws ≡ answered b vs)
