-- One step of each definition that writes, and how long what it writes is.
use mathlib.Core.Path.{◌≡◌, refl, ap, ◌∙◌}
use Prim.Native.Nat.{ℕ, zero, suc, ◌+◌, ◌/◌, ◌%◌, ◌≤◌, ◌<◌}
use native.Mathlib.Numerals.{add-one}
use native.Mathlib.Omega.{arith}
use mathlib.Core.List.{List, [], ◌∷◌, ◌++◌}
use lib.ListN.{length, drop, get_or, length-append, drop_of_length-le}
use lib.Seq.{drop-cons}
use Rattle.rules.specs.Text.{key_of, tasks_key, digits_within, digits, line, write_lines, write_set}

-- a line
module _ (key value : List ℕ) where
  pub line_is : line key value ≡ key ++ (value ++ (10 ∷ []))
  unfolding line
  line_is = refl

  pub line_length : length (line key value) ≡ length key + length value + 1
  unfolding line
  line_length = simp length-append (omega arith)

-- a key of a task's lines has two bytes
pub key_length : (k : ℕ) → length (key_of k) ≡ 2
key_length zero = refl
key_length (suc zero) = refl
key_length (suc (suc zero)) = refl
key_length (suc (suc (suc k))) = refl

-- a set: its first line, then the others
module _ (ws : List ℕ) where
  pub set_is : write_set ws ≡ line tasks_key (digits (length ws / 4)) ++ write_lines 0 ws
  unfolding write_set
  set_is = refl

  pub set_length : length (write_set ws) ≡ length (digits (length ws / 4)) + 7 + length (write_lines 0 ws)
  set_length = ap length set_is ∙ omega (arith, length-append (line tasks_key (digits (length ws / 4))) (write_lines 0 ws), line_length tasks_key (digits (length ws / 4)))

-- the lines of tasks from word k on
module _ (ws : List ℕ) (k : ℕ) where
  -- none
  pub write_none : length ws ≤ k → write_lines k (drop k ws) ≡ []
  unfolding write_lines
  write_none h = rw (drop_of_length-le ws h)

  module _ (h : k < length ws) where
    -- one, and those after it
    pub write_more : write_lines k (drop k ws) ≡ line (key_of (k % 4)) (digits (get_or ws k 0)) ++ write_lines (k + 1) (drop (k + 1) ws)
    unfolding write_lines
    write_more = rw (drop-cons ws k 0, add-one)

-- the text of the set (1,1,1), R 0, byte for byte
pub sample_text : write_set (1 ∷ 1 ∷ 1 ∷ 0 ∷ [])
    ≡ 116 ∷ 97 ∷ 115 ∷ 107 ∷ 115 ∷ 61 ∷ 49 ∷ 10 ∷ 99 ∷ 61 ∷ 49 ∷ 10 ∷ 100 ∷ 61 ∷ 49 ∷ 10 ∷ 116 ∷ 61 ∷ 49 ∷ 10 ∷ 114 ∷ 61 ∷ 48 ∷ 10 ∷ []
unfolding write_set write_lines line digits digits_within
sample_text = refl
