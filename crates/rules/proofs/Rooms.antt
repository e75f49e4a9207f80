-- The readers and writers where there is room enough: none is refused for want of it, and what is read is four words a task.
use mathlib.Core.Path.{◌≡◌, refl, ap}
use Prim.Native.Nat.{ℕ, ◌*◌, ◌/◌, ◌≤◌, ◌<◌}
use native.Mathlib.Omega.{arith}
use mathlib.Core.List.{List, [], ◌∷◌}
use lib.ListN.{length}
use Rattle.rules.specs.Numbers.{table_most}
use Rattle.rules.specs.Refusals.{answering, lent}
use Rattle.rules.specs.Table.{table_refusal}
use Rattle.rules.specs.Text.{Lines, took, stop, read_set, words_read}
use Rattle.rules.specs.Sheet.{Sheet, tasks, wrong, no_header, read_sheet, sheet_words}
use Rattle.rules.specs.Answers.{line_refusal, record_refusal, read_rest}
use Rattle.rules.specs.Calls.{Reads, ReadsSheet, Makes}
use Rattle.rules.specs.declared.Refusal.{Refusal}
use Rattle.rules.proofs.Booleans.{impossible}
use Rattle.rules.proofs.Calls.{read_stops, read_set_law, write_refused, write_made}
use Rattle.rules.proofs.SetTrips.{set_back}
use Rattle.rules.proofs.SheetRecords.{sheet_tasks, sheet_fours}
use Rattle.rules.proofs.SheetReading.{sheet_headless, sheet_stops, sheet_empty, sheet_set}
use Rattle.std.specs.Prelude.{Option, Some, None, Ok, Err}

-- the words of 1 to 64 tasks, four each
pub record Fours (ws : List ℕ) : Type 0 where
  pub fours : length ws ≡ 4 * (length ws / 4)
  pub some_word : 0 < length ws
  pub few : length ws ≤ 256

-- THE READER
module _ (text : List ℕ) where
  took_fours : (ws rest : List ℕ) → read_set text ≡ took ws rest → Fours ws
  took_fours ws rest e =
      let s = set_back text ws rest e in
      record {
        fours = omega (arith, s.words);
        some_word = omega (arith, s.words, s.some_task);
        few = omega (arith, s.words, s.most_tasks);
      }

  pub set_fours : line_refusal (read_set text) ≡ None → Fours (words_read (read_set text))
  set_fours = by_set (read_set text) refl
    where
      by_set : (k : Lines) → read_set text ≡ k → line_refusal k ≡ None → Fours (words_read k)
      by_set (stop l) e o = impossible cc
      by_set (took ws rest) e o = took_fours ws rest e

  pub read_with_room : (table : List ℕ) → table_most ≤ length table
      → Reads text table (answering (line_refusal (read_set text)) Err (Ok (length (words_read (read_set text)) / 4))) (read_rest text table) (lent (line_refusal (read_set text)) (words_read (read_set text)) table)
  read_with_room table room = by_set (read_set text) refl
    where
      by_set : (k : Lines) → read_set text ≡ k
          → Reads text table (answering (line_refusal k) Err (Ok (length (words_read k) / 4))) (read_rest text table) (lent (line_refusal k) (words_read k) table)
      by_set (stop l) e = let r = read_stops text table l e in record { says = r.says; hands_back = refl; leaves = r.leaves }
      by_set (took ws rest) e =
          let r = read_set_law text table ws rest e (omega (arith, (took_fours ws rest e).few)) in
          record { says = r.says; hands_back = refl; leaves = r.leaves }

-- THE SHEET'S READER
module _ (sheet : List ℕ) where
  tasks_fours : (w : ℕ) (ws : List ℕ) → read_sheet sheet ≡ tasks (w ∷ ws) → Fours (w ∷ ws)
  tasks_fours w ws e = record { fours = sheet_fours sheet (w ∷ ws) e; some_word = omega arith; few = ((sheet_tasks sheet (w ∷ ws)).0 e).4 }

  pub sheet_words_fours : record_refusal (read_sheet sheet) ≡ None → Fours (sheet_words (read_sheet sheet))
  sheet_words_fours = by_sheet (read_sheet sheet) refl
    where
      by_sheet : (k : Sheet) → read_sheet sheet ≡ k → record_refusal k ≡ None → Fours (sheet_words k)
      by_sheet no_header e o = impossible cc
      by_sheet (wrong l) e o = impossible cc
      by_sheet (tasks []) e o = impossible cc
      by_sheet (tasks (w ∷ ws)) e o = tasks_fours w ws e

  pub sheet_with_room : (table : List ℕ) → table_most ≤ length table
      → ReadsSheet sheet table (answering (record_refusal (read_sheet sheet)) Err (Ok (length (sheet_words (read_sheet sheet)) / 4))) (lent (record_refusal (read_sheet sheet)) (sheet_words (read_sheet sheet)) table)
  sheet_with_room table room = by_sheet (read_sheet sheet) refl
    where
      by_sheet : (k : Sheet) → read_sheet sheet ≡ k
          → ReadsSheet sheet table (answering (record_refusal k) Err (Ok (length (sheet_words k) / 4))) (lent (record_refusal k) (sheet_words k) table)
      by_sheet no_header e = sheet_headless sheet table e
      by_sheet (wrong l) e = sheet_stops sheet table l e
      by_sheet (tasks []) e = sheet_empty sheet table e
      by_sheet (tasks (w ∷ ws)) e = sheet_set sheet table (w ∷ ws) e (omega arith) (omega (arith, (tasks_fours w ws e).few))

-- A WRITER
pub write_with_room : {make : List ℕ → List ℕ} (table out : List ℕ) → (table_refusal table ≡ None → length (make table) ≤ length out)
    → Makes make table out (answering (table_refusal table) Err (Ok (length (make table)))) (lent (table_refusal table) (make table) out)
write_with_room {make} table out room = by_refusal (table_refusal table) refl
  where
    by_refusal : (o : Option Refusal) → table_refusal table ≡ o
        → Makes make table out (answering o Err (Ok (length (make table)))) (lent o (make table) out)
    by_refusal (Some r) e = write_refused table out r e
    by_refusal None e = write_made table out e (room e)

-- AN ANSWER is a refusal where one is given, and a result where none is
module _ {X : Type 0} (refused : Refusal → X) (result : X) where
  pub was_refused : ((r : Refusal) → refused r ≡ result → ⊥) → ((r s : Refusal) → refused r ≡ refused s → s ≡ r)
      → (o : Option Refusal) (r : Refusal) → refused r ≡ answering o refused result → o ≡ Some r
  was_refused other one None r e = absurd (other r e)
  was_refused other one (Some s) r e = ap Some (one r s e)

  pub was_done : (x : X) → ((r : Refusal) → x ≡ refused r → ⊥) → (o : Option Refusal) → x ≡ answering o refused result → (o ≡ None) × (x ≡ result)
  was_done x other None e = (refl, e)
  was_done x other (Some r) e = absurd (other r e)
