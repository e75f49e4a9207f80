-- What the reader, the writers and the report give is exactly what the paper's tables have.
use mathlib.Core.Path.{◌≡◌, refl, sym, subst}
use mathlib.Core.Logic.{◌↔◌}
use Prim.Native.Nat.{ℕ, ◌≤◌, ◌<◌}
use native.Mathlib.Omega.{arith}
use native.Mathlib.Decide.{dec_lt}
use mathlib.Core.List.{List}
use lib.ListN.{length}
use Rattle.rules.specs.Table.{table_refusal}
use Rattle.rules.specs.Told.{Told, read_told, write_told, report_told}
use Rattle.rules.specs.Text.{Lines, took, stop, read_set}
use Rattle.rules.specs.Answers.{read_answer, read_table, read_rest, make_answer, make_buffer}
use Rattle.rules.specs.Report.{set_lines, report_answer, report_buffer}
use Rattle.rules.specs.Calls.{Reads, Makes, Reports}
use Rattle.rules.specs.declared.Refusal.{Refusal}
use Rattle.rules.proofs.Calls.{read_stops, read_short, read_set_law, write_refused, write_short, write_made, report_short, report_lines}
use Rattle.promises.specs.Tables.{ReaderTells, WriterTells, ReportTells}
use Rattle.promises.proofs.Exact.{along, exact, table_tells, told_table, fine_not, not_fine}
use Rattle.std.specs.Prelude.{Option, Some, None, Result}
use Rattle.rules.specs.declared.Reported.{Reported}

-- THE READER
module _ (text table : List ℕ) where
  -- an outcome that the contract allows is the one given
  read_given : {t : Told} {a : Result ℕ Refusal} {rest exit : List ℕ} → read_told a ≡ t → Reads text table a rest exit
      → (read_told (read_answer text table) ≡ t) × (read_rest text table ≡ rest) × (read_table text table ≡ exit)
  read_given e c = (rw (← c.says) e, sym c.hands_back, sym c.leaves)

  abbrev Stands : Type 0
  Stands = ReaderTells text table (read_told (read_answer text table)) (read_rest text table) (read_table text table)

  stands : {a : Result ℕ Refusal} {rest exit : List ℕ} → Reads text table a rest exit → ReaderTells text table (read_told a) rest exit → Stands
  stands c h = rw (← c.says, ← c.hands_back, ← c.leaves) h

  read_stands : Stands
  read_stands = go (read_set text) refl
    where
      room : (ws after : List ℕ) → read_set text ≡ took ws after → Dec (length table < length ws) → Stands
      room ws after e (yes h) = stands (read_short text table ws after e h) (ReaderTells.six e h)
      room ws after e (no h) = let k : length ws ≤ length table = omega arith in stands (read_set_law text table ws after e k) (ReaderTells.set e k)

      go : (x : Lines) → read_set text ≡ x → Stands
      go (stop l) e = stands (read_stops text table l e) (ReaderTells.seven e)
      go (took ws after) e = room ws after e (dec_lt (length table) (length ws))

  read_lines : (t : Told) (rest exit : List ℕ) → ReaderTells text table t rest exit
      → (read_told (read_answer text table) ≡ t) × (read_rest text table ≡ rest) × (read_table text table ≡ exit)
  read_lines t rest exit (ReaderTells.seven {l = l} e) = read_given refl (read_stops text table l e)
  read_lines t rest exit (ReaderTells.six {ws = ws} {after = after} e h) = read_given refl (read_short text table ws after e h)
  read_lines t rest exit (ReaderTells.set {ws = ws} {after = after} e h) = read_given refl (read_set_law text table ws after e h)

  pub reader_tells : (t : Told) (rest exit : List ℕ)
      → ((read_told (read_answer text table) ≡ t) × (read_rest text table ≡ rest) × (read_table text table ≡ exit)) ↔ ReaderTells text table t rest exit
  reader_tells t rest exit = (
    λ p. subst (λ (b : List ℕ). ReaderTells text table t b exit) p.1 (along (λ (u : Told) (b : List ℕ). ReaderTells text table u (read_rest text table) b) p.0 p.2 read_stands),
    read_lines t rest exit,
  )

-- A WRITER
module _ (make : List ℕ → List ℕ) (table out : List ℕ) where
  write_given : {t : Told} {a : Result ℕ Refusal} {exit : List ℕ} → write_told a ≡ t → Makes make table out a exit
      → (write_told (make_answer make table out) ≡ t) × (make_buffer make table out ≡ exit)
  write_given e c = (rw (← c.says) e, sym c.leaves)

  abbrev Written : Type 0
  Written = WriterTells make table out (write_told (make_answer make table out)) (make_buffer make table out)

  written : {a : Result ℕ Refusal} {exit : List ℕ} → Makes make table out a exit → WriterTells make table out (write_told a) exit → Written
  written c h = rw (← c.says, ← c.leaves) h

  write_stands : Written
  write_stands = go (table_refusal table) refl
    where
      room : table_refusal table ≡ None → Dec (length out < length (make table)) → Written
      room e (yes h) = written (write_short table out e h) (WriterTells.six (not_fine table e) h)
      room e (no h) =
          let k : length (make table) ≤ length out = omega arith in
          written (write_made table out e k) (WriterTells.made (not_fine table e) k)

      go : (o : Option Refusal) → table_refusal table ≡ o → Written
      go (Some r) e = written (write_refused table out r e) (WriterTells.refused (table_tells table r e))
      go None e = room e (dec_lt (length out) (length (make table)))

  write_lines : (t : Told) (exit : List ℕ) → WriterTells make table out t exit → (write_told (make_answer make table out) ≡ t) × (make_buffer make table out ≡ exit)
  write_lines t exit (WriterTells.refused x) = let r = told_table table t x in write_given r.2 (write_refused table out r.0 r.1)
  write_lines t exit (WriterTells.six f h) = write_given refl (write_short table out (fine_not table f) h)
  write_lines t exit (WriterTells.made f h) = write_given refl (write_made table out (fine_not table f) h)

  pub writer_tells : (t : Told) (exit : List ℕ) → ((write_told (make_answer make table out) ≡ t) × (make_buffer make table out ≡ exit)) ↔ WriterTells make table out t exit
  writer_tells = exact (WriterTells make table out) write_stands write_lines

-- THE REPORT OF ONE SET
module _ (n : ℕ) (text out : List ℕ) where
  report_given : {t : Told} {a : Result Reported Refusal} {exit : List ℕ} → report_told a ≡ t → Reports n text out a exit
      → (report_told (report_answer n text out) ≡ t) × (report_buffer n text out ≡ exit)
  report_given e c = (rw (← c.says) e, sym c.leaves)

  report_stands : ReportTells n text out (report_told (report_answer n text out)) (report_buffer n text out)
  report_stands = go (dec_lt (length out) (length (set_lines n text)))
    where
      go : Dec (length out < length (set_lines n text)) → ReportTells n text out (report_told (report_answer n text out)) (report_buffer n text out)
      go (yes h) = let c = report_short n text out h in rw (← c.says, ← c.leaves) (ReportTells.six h)
      go (no h) =
          let k : length (set_lines n text) ≤ length out = omega arith in
          let c = report_lines n text out k in
          rw (← c.says, ← c.leaves) (ReportTells.lines k)

  line_lines : (t : Told) (exit : List ℕ) → ReportTells n text out t exit → (report_told (report_answer n text out) ≡ t) × (report_buffer n text out ≡ exit)
  line_lines t exit (ReportTells.six h) = report_given refl (report_short n text out h)
  line_lines t exit (ReportTells.lines h) = report_given refl (report_lines n text out h)

  pub report_tells : (t : Told) (exit : List ℕ)
      → ((report_told (report_answer n text out) ≡ t) × (report_buffer n text out ≡ exit)) ↔ ReportTells n text out t exit
  report_tells = exact (ReportTells n text out) report_stands line_lines
