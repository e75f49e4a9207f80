-- How long the text and the sheet of a table can be whose words are in range: a number has five digits at most.
use mathlib.Core.Path.{◌≡◌, refl}
use Prim.Native.Nat.{ℕ, zero, suc, ◌+◌, ◌*◌, ◌/◌, ◌%◌, ◌^◌, ◌≤◌, ◌<◌}
use native.Mathlib.Decide.{dec_lt}
use native.Mathlib.Omega.{arith}
use mathlib.Core.List.{List, [], ◌∷◌, ◌++◌}
use lib.ListN.{length, get_or, length-append}
use Rattle.rules.specs.Table.{table_refusal}
use Rattle.rules.specs.Text.{digits, line, key_of, write_lines, write_set}
use Rattle.rules.specs.Sheet.{after_word, write_records, write_sheet}
use Rattle.rules.proofs.Tables.{valid_of}
use Rattle.rules.proofs.Digits.{width_one, width_more}
use Rattle.rules.proofs.WriteSteps.{line_length, key_length, set_length}
use Rattle.rules.proofs.SheetWriting.{sheet_length}
use Rattle.std.specs.Prelude.{None}

-- a number below 10 ^ (k + 1) has at most k + 1 digits
width_most : (k v : ℕ) → v < 10 ^ 10 → v < 10 ^ suc k → length (digits v) ≤ suc k
width_most zero v l h = omega (arith, width_one v (omega arith))
width_most (suc k) v l h = choose (dec_lt v 10) (width_most k (v / 10) (omega arith) (omega arith))
  where
    choose : Dec (v < 10) → length (digits (v / 10)) ≤ suc k → length (digits v) ≤ suc (suc k)
    choose (yes a) ih = omega (arith, width_one v a)
    choose (no a) ih = omega (arith, width_more v (omega arith) (omega arith))

-- every word is at most 65,535
abbrev High : List ℕ → Type 0
High ws = (i : ℕ) → i < length ws → get_or ws i 0 ≤ 65535

-- so the first has five digits at most, and the others are as high
module _ (w : ℕ) (ws : List ℕ) (h : High (w ∷ ws)) where
  first_width : length (digits w) ≤ 5
  first_width = let first : w ≤ 65535 = h 0 (omega arith) in width_most 4 w (omega arith) (omega arith)

  others_high : High ws
  others_high i g = h (suc i) (omega arith)

-- THE TEXT: a line for a word has at most 8 bytes
lines_high : (k : ℕ) (ws : List ℕ) → High ws → length (write_lines k ws) ≤ 8 * length ws
unfolding write_lines
lines_high k [] h = omega arith
lines_high k (w ∷ ws) h =
    let l = line (key_of (k % 4)) (digits w) in
    omega (
      arith,
      length-append l (write_lines (suc k) ws),
      line_length (key_of (k % 4)) (digits w),
      key_length (k % 4),
      first_width w ws h,
      lines_high (suc k) ws (others_high w ws h),
    )

-- THE SHEET: a word has at most 6 bytes with the comma after it, and one more where a line ends
after_length : (k : ℕ) → k < 4 → length (after_word k) ≡ 1 + (k + 1) / 4
after_length zero h = refl
after_length (suc zero) h = refl
after_length (suc (suc zero)) h = refl
after_length (suc (suc (suc zero))) h = refl
after_length (suc (suc (suc (suc k)))) h = absurd (omega arith)

records_high : (k : ℕ) (ws : List ℕ) → High ws → length (write_records k ws) ≤ 6 * length ws + (k % 4 + length ws) / 4
unfolding write_records
records_high k [] h = omega arith
records_high k (w ∷ ws) h =
    omega (
      arith,
      length-append (digits w ++ after_word (k % 4)) (write_records (suc k) ws),
      length-append (digits w) (after_word (k % 4)),
      after_length (k % 4) (omega arith),
      first_width w ws h,
      records_high (suc k) ws (others_high w ws h),
    )

module _ (ws : List ℕ) (e : table_refusal ws ≡ None) where
  words_high : High ws
  words_high i g = let bounds = valid_of ws e in bounds.high i (omega (arith, bounds.words))

  -- the text of a table: `tasks=`, the count and byte 10, and the lines of its words
  pub text_high : length (write_set ws) ≤ length (digits (length ws / 4)) + 7 + 8 * length ws
  text_high = omega (arith, set_length ws, lines_high 0 ws words_high)

  -- so at most 2,057 bytes for 64 tasks
  pub text_most : length (write_set ws) ≤ 2057
  text_most =
      let bounds = valid_of ws e in
      omega (arith, text_high, bounds.words, bounds.most_tasks, width_most 1 (length ws / 4) (omega arith) (omega (arith, bounds.words, bounds.most_tasks)))

  -- the sheet of a table: 35 bytes for the first line, and at most 25 for each of 64 records
  pub sheet_most : length (write_sheet ws) ≤ 1635
  sheet_most =
      let bounds = valid_of ws e in
      omega (arith, sheet_length ws, records_high 0 ws words_high, bounds.words, bounds.most_tasks)
