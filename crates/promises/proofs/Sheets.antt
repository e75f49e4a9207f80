-- What the sheet's reader gives is exactly what the paper's table has; a written sheet reads back to its table, and the two formats agree.
use mathlib.Core.Path.{◌≡◌, refl, sym, ap, subst, ◌∙◌}
use mathlib.Core.Logic.{◌↔◌}
use Prim.Native.Nat.{ℕ, ◌*◌, ◌/◌, ◌<◌}
use native.Mathlib.Omega.{arith}
use native.Mathlib.Decide.{dec_lt}
use mathlib.Core.List.{List, []}
use lib.ListN.{length, take, drop, length-append}
use lib.Seq.{take_at}
use Rattle.rules.specs.Told.{Told, read_told}
use Rattle.rules.specs.Text.{write_set}
use Rattle.rules.specs.Sheet.{tasks, read_sheet, write_sheet}
use Rattle.rules.specs.Sheets.{Header, Tasks}
use Rattle.rules.specs.Answers.{read_sheet_answer, read_sheet_table}
use Rattle.rules.specs.Calls.{ReadsSheet, WritesSheet}
use Rattle.rules.specs.declared.Refusal.TheVariants.{TooShort}
use Rattle.rules.proofs.Booleans.{impossible}
use Rattle.rules.proofs.Tables.{valid_of}
use Rattle.rules.proofs.SheetRecords.{kernel_words, sheet_none, sheet_wrong, sheet_tasks, sheet_fours}
use Rattle.rules.proofs.SheetReading.{sheet_headless, sheet_stops, sheet_empty, sheet_short, sheet_set, SheetEnding, headless, at_record, no_record_law, no_room, whole_sheet, sheet_ending}
use Rattle.rules.proofs.SheetTrips.{sheet_then_table}
use Rattle.promises.specs.Tables.{SheetTells}
use Rattle.promises.specs.Demands.{SheetTrips}
use Rattle.promises.proofs.Exact.{exact}
use Rattle.promises.proofs.Trips.{wrote}
use Rattle.std.specs.Prelude.{Result, Ok, Err}
use Rattle.rules.specs.declared.Refusal.{Refusal}

-- records of tasks with no words are no records
no_words : {hs : List (List ℕ)} {s ws : List ℕ} → Tasks hs s ws → length ws ≡ 0 → s ≡ []
no_words Tasks.none e = refl
no_words (Tasks.more {ws = ws} {vs = vs} n k t) e = absurd (omega (arith, kernel_words k, length-append ws vs))

-- THE SHEET'S READER
module _ (sheet table : List ℕ) where
  sheet_given : {t : Told} {a : Result ℕ Refusal} {exit : List ℕ} → read_told a ≡ t → ReadsSheet sheet table a exit
      → (read_told (read_sheet_answer sheet table) ≡ t) × (read_sheet_table sheet table ≡ exit)
  sheet_given e c = (rw (← c.says) e, sym c.leaves)

  abbrev Stands : Type 0
  Stands = SheetTells sheet table (read_told (read_sheet_answer sheet table)) (read_sheet_table sheet table)

  stands : {a : Result ℕ Refusal} {exit : List ℕ} → ReadsSheet sheet table a exit → SheetTells sheet table (read_told a) exit → Stands
  stands c h = rw (← c.says, ← c.leaves) h

  sheet_stands : Stands
  sheet_stands = go (sheet_ending sheet table)
    where
      go : SheetEnding sheet table → Stands
      go (headless e) = stands (sheet_headless sheet table e) (SheetTells.thirteen ((sheet_none sheet).0 e))
      go (at_record l e) = let w = (sheet_wrong sheet l).0 e in stands (sheet_stops sheet table l e) (SheetTells.fourteen w.2 w.3)
      go (no_record_law e) =
          let w = (sheet_tasks sheet []).0 e in
          stands (sheet_empty sheet table e) (SheetTells.fifteen (subst (Header sheet w.0) (no_words w.3 refl) w.2))
      go (no_room ws e p h) = let w = (sheet_tasks sheet ws).0 e in stands (sheet_short sheet table ws e p h) (SheetTells.six w.2 w.3 p w.4 h)
      go (whole_sheet ws e p h) = let w = (sheet_tasks sheet ws).0 e in stands (sheet_set sheet table ws e p h) (SheetTells.set w.2 w.3 p w.4 h)

  sheet_lines : (t : Told) (exit : List ℕ) → SheetTells sheet table t exit → (read_told (read_sheet_answer sheet table) ≡ t) × (read_sheet_table sheet table ≡ exit)
  sheet_lines t exit (SheetTells.thirteen n) = sheet_given refl (sheet_headless sheet table ((sheet_none sheet).1 n))
  sheet_lines t exit (SheetTells.fourteen {hs} {after} {l} h n) = sheet_given refl (sheet_stops sheet table l ((sheet_wrong sheet l).1 (hs, after, h, n)))
  sheet_lines t exit (SheetTells.fifteen {hs} h) = sheet_given refl (sheet_empty sheet table ((sheet_tasks sheet []).1 (hs, [], h, Tasks.none, omega arith)))
  sheet_lines t exit (SheetTells.six {hs} {after} {ws} h k p m r) =
      sheet_given refl (sheet_short sheet table ws ((sheet_tasks sheet ws).1 (hs, after, h, k, m)) p r)
  sheet_lines t exit (SheetTells.set {hs} {after} {ws} h k p m r) =
      sheet_given refl (sheet_set sheet table ws ((sheet_tasks sheet ws).1 (hs, after, h, k, m)) p r)

  pub sheet_tells : (t : Told) (exit : List ℕ) → ((read_told (read_sheet_answer sheet table) ≡ t) × (read_sheet_table sheet table ≡ exit)) ↔ SheetTells sheet table t exit
  sheet_tells = exact (SheetTells sheet table) sheet_stands sheet_lines

-- the sheet that was written, read: the words of the table, which has some
read_back : (table out sheet : List ℕ) (n : ℕ) → WritesSheet table out (Ok n) sheet → read_sheet (take n sheet) ≡ tasks table
read_back table out sheet n w = let x = wrote write_sheet table out sheet n w in ap read_sheet x.made ∙ sheet_then_table table x.fine

some_words : (table out sheet : List ℕ) (n : ℕ) → WritesSheet table out (Ok n) sheet → 0 < length table
some_words table out sheet n w =
    let v = valid_of table (wrote write_sheet table out sheet n w).fine in
    omega (arith, v.words, v.some_task)

-- whatever table it was read into, the words of the table stand at its start
words_back : (table out sheet : List ℕ) (n : ℕ) → WritesSheet table out (Ok n) sheet
    → (room words : List ℕ) (k : ℕ) → ReadsSheet (take n sheet) room (Ok k) words → take (4 * k) words ≡ table
words_back table out sheet n w room words k r = by_room (dec_lt (length room) (length table))
  where
    read : read_sheet (take n sheet) ≡ tasks table
    read = read_back table out sheet n w

    by_room : Dec (length room < length table) → take (4 * k) words ≡ table
    by_room (yes h) =
        let f : Ok k ≡ Err TooShort = r.says ∙ sym (sheet_short (take n sheet) room table read (some_words table out sheet n w) h).says in
        impossible cc
    by_room (no h) =
        let o = sheet_set (take n sheet) room table read (some_words table out sheet n w) (omega arith) in
        let f : Ok k ≡ Ok (length table / 4) = r.says ∙ sym o.says in
        let m : k ≡ length table / 4 = cc in
        ap (take (4 * k)) (r.leaves ∙ sym o.leaves)
        ∙ take_at table (drop (length table) room) (4 * k) (omega (arith, sheet_fours (take n sheet) table read))

pub sheet_trips : SheetTrips
sheet_trips = record {
  sheet_then_table = sheet_then_table;
  written_is_read = λ table out sheet n w room h answer exit r.
      let o = sheet_set (take n sheet) room table (read_back table out sheet n w) (some_words table out sheet n w) h in
      (r.says ∙ sym o.says, r.leaves ∙ sym o.leaves);
  formats_agree = λ table out sheet n w room words k r. ap write_set (words_back table out sheet n w room words k r);
}
