-- A sheet that is written from a table is read back to it: its first line stands as the header, with the names in their order, and each task's line as a
-- record of four plain fields, its words' digits; digits are no marks.
use Rattle.std.specs.Prelude.{if◌then◌else◌, None}
use mathlib.Core.Path.{◌≡◌, refl, sym, ap, ◌∙◌}
use Prim.Native.Nat.{ℕ, zero, suc, ◌+◌, ◌*◌, ◌/◌, ◌%◌, ◌≤◌, ◌<◌}
use native.Mathlib.Decide.{dec_lt}
use native.Mathlib.Omega.{arith}
use mathlib.Core.List.Memᴰ
use mathlib.Core.List.{List, [], ◌∷◌, ◌++◌, append_assoc, Memᴰ}
use mathlib.Core.Bool.{Bool, true, false, not, ◌&&◌}
use lib.Dec.{ltb}
use lib.ListN.{length, length-append}
use borrow.Author.Tests.{ne_eqb, lt-ltb, le-ltb}
use Rattle.rules.specs.Table.{table_refusal}
use Rattle.rules.specs.Text.{bytes, after_key, digits_within, digits}
use Rattle.rules.specs.Sheet.{mark, fields, read_record, name_of, is_name, times, column_from, good_header, columns_of, also, numbers_in, row, row_of, read_row, Sheet, tasks, words_ahead, or_wrong, at_record, read_tasks, under_header, read_sheet, write_records, write_sheet}
use Rattle.rules.specs.Sheets.{Stands, Commas, Begins}
use Rattle.rules.proofs.Tables.{valid_of}
use Rattle.rules.proofs.SetTrips.{Small, small_of}
use Rattle.rules.proofs.SheetGrammar.{Plain, plain_byte, record_exact}
use Rattle.rules.proofs.SheetNames.{number_exact}
use Rattle.std.proofs.lemmas.Bool.{and_parts, and_from}

-- bytes with no mark among them
unfoldable markless : List ℕ → Bool
markless [] = true
markless (b ∷ c) = not (mark b) && markless c

markless_plain : (c : List ℕ) → markless c ≡ true → (b : ℕ) → Memᴰ b c → Plain b
unfolding markless
markless_plain [] e b m = absurd (Memᴰ.not-nil m)
markless_plain (a ∷ c) e b m = by_place m (and_parts (not (mark a)) (markless c) e) (markless_plain c)
  where
    no_mark : (t : Bool) → not t ≡ true → t ≡ false
    no_mark true e = sym e
    no_mark false e = refl

    by_place : Memᴰ b (a ∷ c) → (not (mark a) ≡ true) × (markless c ≡ true) → (markless c ≡ true → (b : ℕ) → Memᴰ b c → Plain b) → Plain b
    by_place (Memᴰ.head q) e ih = rw q (plain_byte a (no_mark (mark a) e.0))
    by_place (Memᴰ.tail m) e ih = ih e.1 b m

stands : (c : List ℕ) → markless c ≡ true → Stands c c
stands c e = Stands.plain (markless_plain c e)

none_markless : markless [] ≡ true
unfolding markless
none_markless = refl

markless_append : (c d : List ℕ) → markless c ≡ true → markless d ≡ true → markless (c ++ d) ≡ true
unfolding markless
markless_append [] d e f = f
markless_append (b ∷ c) d e f =
    let g = and_parts (not (mark b)) (markless c) e in
    and_from (not (mark b)) (markless (c ++ d)) g.0 (markless_append c d g.1 f)

-- a digit is no mark
digit_markless : (v : ℕ) → v < 10 → markless ((48 + v) ∷ []) ≡ true
unfolding markless mark
digit_markless v h = rw (ne_eqb (48 + v) 34 (omega arith), ne_eqb (48 + v) 44 (omega arith), ne_eqb (48 + v) 13 (omega arith), ne_eqb (48 + v) 10 (omega arith))

within_markless : (n v : ℕ) → markless (digits_within n v) ≡ true
unfolding digits_within
within_markless zero v = none_markless
within_markless (suc n) v = by_size (dec_lt v 10) (within_markless n (v / 10))
  where
    by_size : Dec (v < 10) → markless (digits_within n (v / 10)) ≡ true
        → markless (if ltb v 10 then (48 + v) ∷ [] else digits_within n (v / 10) ++ ((48 + v % 10) ∷ [])) ≡ true
    by_size (yes h) ih = rw (lt-ltb v 10 h) (digit_markless v h)
    by_size (no h) ih = rw (le-ltb v 10 (omega arith)) (markless_append (digits_within n (v / 10)) ((48 + v % 10) ∷ []) ih (digit_markless (v % 10) (omega arith)))

digits_stand : (v : ℕ) → Stands (digits v) (digits v)
unfolding digits
digits_stand v = stands (digits v) (within_markless 10 v)

-- the names of the columns, in the writer's order
abbrev names : List (List ℕ)
names = name_of 0 ∷ name_of 1 ∷ name_of 2 ∷ name_of 3 ∷ []

-- the first line is read as the header
first_line : (ws : List ℕ) → read_record (write_sheet ws) ≡ fields names (write_records 0 ws)
unfolding write_sheet markless mark
first_line ws =
    (record_exact (write_sheet ws) names (write_records 0 ws)).1
    (Begins.crlf (Commas.more (stands (name_of 0) refl) (Commas.more (stands (name_of 1) refl) (Commas.more (stands (name_of 2) refl) (Commas.one (stands (name_of 3) refl))))))

names_good : good_header names ≡ true
unfolding good_header times is_name after_key
names_good = refl

names_columns : columns_of names ≡ 1 ∷ 2 ∷ 3 ∷ 4 ∷ []
unfolding columns_of column_from is_name after_key
names_columns = refl

-- a task's line is read as its record
module _ (a b c d k : ℕ) (ws : List ℕ) (e : k % 4 ≡ 0) where
  abbrev later : List ℕ
  later = write_records (suc (suc (suc (suc k)))) ws

  line_is : write_records k (a ∷ b ∷ c ∷ d ∷ ws) ≡ (digits a ++ (44 ∷ (digits b ++ (44 ∷ (digits c ++ (44 ∷ digits d)))))) ++ (13 ∷ 10 ∷ later)
  unfolding write_records
  line_is =
      let f : suc k % 4 ≡ 1 = omega arith in
      let g : suc (suc k) % 4 ≡ 2 = omega arith in
      let h : suc (suc (suc k)) % 4 ≡ 3 = omega arith in
      rw (e, f, g, h) (simp append_assoc)

  line_read : read_record (write_records k (a ∷ b ∷ c ∷ d ∷ ws)) ≡ fields (digits a ∷ digits b ∷ digits c ∷ digits d ∷ []) later
  line_read =
      ap read_record line_is
      ∙ (record_exact _ (digits a ∷ digits b ∷ digits c ∷ digits d ∷ []) later).1
      (Begins.crlf (Commas.more (digits_stand a) (Commas.more (digits_stand b) (Commas.more (digits_stand c) (Commas.one (digits_stand d))))))

  line_some : 0 < length (write_records k (a ∷ b ∷ c ∷ d ∷ ws))
  line_some = omega (arith, ap length line_is, length-append (digits a ++ (44 ∷ (digits b ++ (44 ∷ (digits c ++ (44 ∷ digits d)))))) (13 ∷ 10 ∷ later))

  row_read : a < 100000 → b < 100000 → c < 100000 → d < 100000
      → read_row 4 (1 ∷ 2 ∷ 3 ∷ 4 ∷ []) (read_record (write_records k (a ∷ b ∷ c ∷ d ∷ ws))) ≡ row (a ∷ b ∷ c ∷ d ∷ []) later
  unfolding read_row numbers_in also row_of
  row_read p q r s =
      rw (line_read, (number_exact (digits a) a).1 (p, refl), (number_exact (digits b) b).1 (q, refl), (number_exact (digits c) c).1 (r, refl), (number_exact (digits d) d).1 (s, refl))

-- the records of tasks, read one by one
abbrev in_order : List ℕ
in_order = 1 ∷ 2 ∷ 3 ∷ 4 ∷ []

none_left : (n l k : ℕ) → read_tasks 4 in_order n l (write_records k []) ≡ tasks []
unfolding read_tasks at_record write_records
none_left zero l k = refl
none_left (suc n) l k = refl

some_left : (s : List ℕ) (x : Sheet) → 0 < length s → at_record s x ≡ x
unfolding at_record
some_left [] x h = absurd (omega arith)
some_left (b ∷ s) x h = refl

tasks_there : (m n l k : ℕ) (ws : List ℕ) → length ws ≡ 4 * m → m ≤ n → k % 4 ≡ 0 → Small ws → read_tasks 4 in_order n l (write_records k ws) ≡ tasks ws
unfolding read_tasks or_wrong words_ahead Small
tasks_there zero n l k [] c h e q = none_left n l k
tasks_there zero n l k (a ∷ ws) c h e q = absurd (omega arith)
tasks_there (suc m) n l k [] c h e q = absurd (omega arith)
tasks_there (suc m) n l k (a ∷ []) c h e q = absurd (omega arith)
tasks_there (suc m) n l k (a ∷ b ∷ []) c h e q = absurd (omega arith)
tasks_there (suc m) n l k (a ∷ b ∷ d ∷ []) c h e q = absurd (omega arith)
tasks_there (suc m) zero l k (a ∷ b ∷ d ∷ r ∷ ws) c h e q = absurd (omega arith)
tasks_there (suc m) (suc n) l k (a ∷ b ∷ d ∷ r ∷ ws) c h e q =
    some_left (write_records k (a ∷ b ∷ d ∷ r ∷ ws)) _ (line_some a b d r k ws e)
    ∙ rw (row_read a b d r k ws e q.0 q.1.0 q.1.1.0 q.1.1.1.0)
    (ap (words_ahead (a ∷ b ∷ d ∷ r ∷ [])) (tasks_there m n (suc l) (suc (suc (suc (suc k)))) ws (omega arith) (omega arith) (omega arith) q.1.1.1.1))

-- so the sheet of a table that is not refused is read as that table
pub sheet_then_table : (table : List ℕ) → table_refusal table ≡ None → read_sheet (write_sheet table) ≡ tasks table
unfolding read_sheet under_header
sheet_then_table table e =
    let v = valid_of table e in
    rw (first_line table, names_good, names_columns)
    (tasks_there (length table / 4) 64 2 0 table v.words v.most_tasks refl (small_of table (λ i l. v.high i (omega arith))))

-- the sheet of the set (1,2,3), R 0, byte for byte
pub sample_sheet : write_sheet (1 ∷ 2 ∷ 3 ∷ 0 ∷ [])
    ≡ bytes "execution,deadline,period,release" ++ (13 ∷ 10 ∷ 49 ∷ 44 ∷ 50 ∷ 44 ∷ 51 ∷ 44 ∷ 48 ∷ 13 ∷ 10 ∷ [])
unfolding write_sheet write_records digits digits_within
sample_sheet = refl
