-- What the sheet's reader gives, for each way in which a sheet ends: no header, a record that is not as due, no record, too short a table, the tasks.
use mathlib.Core.Path.{◌≡◌, refl}
use Prim.Native.Nat.{ℕ, ◌/◌, ◌≤◌, ◌<◌}
use native.Mathlib.Decide.{dec_lt}
use native.Mathlib.Omega.{arith}
use mathlib.Core.List.{List, [], ◌∷◌, ◌++◌}
use lib.ListN.{length, drop}
use borrow.Author.Tests.{le-ltb, lt-ltb}
use Rattle.rules.specs.Sheet.{Sheet, tasks, wrong, no_header, read_sheet}
use Rattle.rules.specs.Answers.{read_sheet_refusal, read_sheet_answer, read_sheet_table}
use Rattle.rules.specs.Calls.{ReadsSheet}
use Rattle.rules.specs.declared.Refusal.TheVariants.{TooShort, NoHeader, BadRecord, NoRecord}
use Rattle.std.specs.Prelude.{Ok, Err}

module _ (sheet table : List ℕ) where
  -- 13
  pub sheet_headless : read_sheet sheet ≡ no_header → ReadsSheet sheet table (Err NoHeader) table
  unfolding read_sheet_refusal read_sheet_answer read_sheet_table
  sheet_headless e = record { says = rw e; leaves = rw e }

  -- 14
  pub sheet_stops : (l : ℕ) → read_sheet sheet ≡ wrong l → ReadsSheet sheet table (Err (BadRecord l)) table
  unfolding read_sheet_refusal read_sheet_answer read_sheet_table
  sheet_stops l e = record { says = rw e; leaves = rw e }

  -- 15
  pub sheet_empty : read_sheet sheet ≡ tasks [] → ReadsSheet sheet table (Err NoRecord) table
  unfolding read_sheet_refusal read_sheet_answer read_sheet_table
  sheet_empty e = record { says = rw e; leaves = rw e }

  -- some tasks, and room for them or not
  with_less : (w : ℕ) (ws : List ℕ) → read_sheet sheet ≡ tasks (w ∷ ws) → length table < length (w ∷ ws)
      → ReadsSheet sheet table (Err TooShort) table
  unfolding read_sheet_refusal read_sheet_answer read_sheet_table
  with_less w ws e h =
      let s = lt-ltb (length table) (length (w ∷ ws)) h in
      record { says = rw (e, s); leaves = rw (e, s) }

  with_room : (w : ℕ) (ws : List ℕ) → read_sheet sheet ≡ tasks (w ∷ ws) → length (w ∷ ws) ≤ length table
      → ReadsSheet sheet table (Ok (length (w ∷ ws) / 4)) ((w ∷ ws) ++ drop (length (w ∷ ws)) table)
  unfolding read_sheet_refusal read_sheet_answer read_sheet_table
  with_room w ws e h =
      let s = le-ltb (length table) (length (w ∷ ws)) h in
      record { says = rw (e, s); leaves = rw (e, s) }

  -- 6: the table is shorter than the tasks
  pub sheet_short : (ws : List ℕ) → read_sheet sheet ≡ tasks ws → 0 < length ws → length table < length ws
      → ReadsSheet sheet table (Err TooShort) table
  sheet_short [] e p h = absurd (omega arith)
  sheet_short (w ∷ ws) e p h = with_less w ws e h

  -- the tasks
  pub sheet_set : (ws : List ℕ) → read_sheet sheet ≡ tasks ws → 0 < length ws → length ws ≤ length table
      → ReadsSheet sheet table (Ok (length ws / 4)) (ws ++ drop (length ws) table)
  sheet_set [] e p h = absurd (omega arith)
  sheet_set (w ∷ ws) e p h = with_room w ws e h

-- the five ways in which the reading of a sheet ends
pub data SheetEnding (sheet table : List ℕ) : Type 0 where
  headless : read_sheet sheet ≡ no_header → SheetEnding sheet table
  at_record : (l : ℕ) → read_sheet sheet ≡ wrong l → SheetEnding sheet table
  no_record_law : read_sheet sheet ≡ tasks [] → SheetEnding sheet table
  no_room : (ws : List ℕ) → read_sheet sheet ≡ tasks ws → 0 < length ws → length table < length ws → SheetEnding sheet table
  whole_sheet : (ws : List ℕ) → read_sheet sheet ≡ tasks ws → 0 < length ws → length ws ≤ length table → SheetEnding sheet table

pub sheet_ending : (sheet table : List ℕ) → SheetEnding sheet table
sheet_ending sheet table = by_sheet (read_sheet sheet) refl
  where
    by_room : (w : ℕ) (ws : List ℕ) → read_sheet sheet ≡ tasks (w ∷ ws) → Dec (length table < length (w ∷ ws)) → SheetEnding sheet table
    by_room w ws e (yes h) = no_room (w ∷ ws) e (omega arith) h
    by_room w ws e (no h) = whole_sheet (w ∷ ws) e (omega arith) (omega arith)

    by_sheet : (x : Sheet) → read_sheet sheet ≡ x → SheetEnding sheet table
    by_sheet no_header e = headless e
    by_sheet (wrong l) e = at_record l e
    by_sheet (tasks []) e = no_record_law e
    by_sheet (tasks (w ∷ ws)) e = by_room w ws e (dec_lt (length table) (length (w ∷ ws)))
