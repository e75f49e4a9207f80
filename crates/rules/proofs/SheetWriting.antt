-- One step of each definition that writes a sheet, and how long what it writes is.
use mathlib.Core.Path.{◌≡◌, refl, ap, ◌∙◌}
use Prim.Native.Nat.{ℕ, zero, suc, ◌+◌, ◌%◌, ◌≤◌, ◌<◌}
use native.Mathlib.Numerals.{add-one}
use native.Mathlib.Omega.{arith}
use mathlib.Core.List.{List, [], ◌∷◌, ◌++◌}
use lib.ListN.{length, drop, get_or, length-append, drop_of_length-le}
use lib.Seq.{drop-cons}
use Rattle.rules.specs.Text.{bytes, digits}
use Rattle.rules.specs.Sheet.{comma, crlf, after_word, write_records, write_sheet}

-- after the others a comma
pub after_other : (k : ℕ) → k < 4 → (k ≡ 3 → ⊥) → after_word k ≡ comma ∷ []
after_other zero h n = refl
after_other (suc zero) h n = refl
after_other (suc (suc zero)) h n = refl
after_other (suc (suc (suc zero))) h n = absurd (n refl)
after_other (suc (suc (suc (suc k)))) h n = absurd (omega arith)

-- a sheet: its first line, of 35 bytes, then the records
module _ (ws : List ℕ) where
  pub sheet_is : write_sheet ws ≡ (bytes "execution,deadline,period,release" ++ crlf) ++ write_records 0 ws
  unfolding write_sheet
  sheet_is = refl

  pub sheet_length : length (write_sheet ws) ≡ 35 + length (write_records 0 ws)
  sheet_length = ap length sheet_is ∙ length-append (bytes "execution,deadline,period,release" ++ crlf) (write_records 0 ws)

-- the records of tasks from word k on
module _ (ws : List ℕ) (k : ℕ) where
  -- none
  pub records_none : length ws ≤ k → write_records k (drop k ws) ≡ []
  unfolding write_records
  records_none h = rw (drop_of_length-le ws h)

  module _ (h : k < length ws) where
    -- one word with what stands after it, and those after it
    pub records_more : write_records k (drop k ws) ≡ (digits (get_or ws k 0) ++ after_word (k % 4)) ++ write_records (k + 1) (drop (k + 1) ws)
    unfolding write_records
    records_more = rw (drop-cons ws k 0, add-one)
