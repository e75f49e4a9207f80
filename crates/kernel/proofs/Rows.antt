-- A kernel's record, field by field, and its row.
use mathlib.Core.Path.{◌≡◌, refl, sym, ap, ◌∙◌}
use Prim.Native.Nat.{ℕ, ◌+◌, ◌-◌, ◌≤◌, ◌<◌}
use native.Mathlib.Omega.{arith}
use mathlib.Core.List.{List, [], ◌∷◌, ◌++◌}
use lib.ListN.{length, get_or, length-append, get_or-append}
use lib.Seq.{get_or_at}
use Rattle.rules.specs.Sheet.{read_record, field_number, row, no_row, read_row}
use Rattle.rules.specs.Sheets.{doubled}
use Rattle.rules.proofs.Booleans.{split}
use Rattle.rules.proofs.Records.{number_standing}
use Rattle.rules.proofs.RowSteps.{row_none, row_other, row_right, row_wrong}
use Rattle.field.specs.Takers.{TakesOn, Taken, Refused, none_there, not_due}
use Rattle.header.specs.Within.{Within}
use Rattle.kernel.specs.Kernels.{Stores, FromOne, IsStored, IsMissing}
use Rattle.kernel.specs.declared.Row.{Row}
use Rattle.std.specs.Prelude.{Option, Some, None}

-- what storing a number does is what is asked of what takes a record's fields
module _ (columns : List ℕ) (one : FromOne columns) (cs : List (List ℕ)) (c : List ℕ) (body : List ℕ) (standing : body ≡ doubled c) where
  number : field_number body ≡ field_number c
  number = ap field_number standing ∙ number_standing c

  at_last : (k : ℕ) → get_or columns k 0 ≡ length cs + 1 → get_or (cs ++ (c ∷ [])) (get_or columns k 0 - 1) [] ≡ c
  at_last k e = get_or_at cs c [] [] (get_or columns k 0 - 1) (omega arith)

  longer : length (cs ++ (c ∷ [])) ≡ length cs + 1
  longer = length-append cs (c ∷ [])

  missing : {words exit : List ℕ} → Stores body (length cs + 1) columns words None exit
      → (k : ℕ) × (k < 4) × (get_or columns k 0 - 1 < length (cs ++ (c ∷ []))) × (field_number (get_or (cs ++ (c ∷ [])) (get_or columns k 0 - 1) []) ≡ None)
  missing stores =
      let found = stores.none_here refl in
      let k = found.0 in
      (k, found.1, omega (arith, longer, found.2), ap field_number (at_last k found.2) ∙ sym number ∙ found.3)

  stored : {words exit : List ℕ} → Stores body (length cs + 1) columns words (Some tt) exit
      → ((k : ℕ) → k < 4 → get_or columns k 0 ≤ length cs → field_number (get_or cs (get_or columns k 0 - 1) []) ≡ Some (get_or words k 0))
      → (k : ℕ) → k < 4 → get_or columns k 0 ≤ length (cs ++ (c ∷ [])) → field_number (get_or (cs ++ (c ∷ [])) (get_or columns k 0 - 1) []) ≡ Some (get_or exit k 0)
  stored stores so_far k h l =
      split
      (get_or columns k 0)
      (length cs)
      (λ m.
      ap field_number (get_or-append cs (c ∷ []) [] (get_or columns k 0 - 1) (omega (arith, one k h)))
      ∙ so_far k h m
      ∙ ap Some (sym (stores.elsewhere k h (λ e. omega arith))))
      (λ m.
      let here : get_or columns k 0 ≡ length cs + 1 = omega (arith, longer) in
      ap field_number (at_last k here) ∙ sym number ∙ stores.here refl k h here)

pub takes : (body : List ℕ) (n : ℕ) (old : Row) (exit : List ℕ) (answer : Option (Unit {0})) → Stores body n old.columns old.words answer exit
    → TakesOn (λ (start : Row) (cs : List (List ℕ)) (now : Row). IsStored start.columns start.words cs now.columns now.words) (λ (start : Row) (cs : List (List ℕ)). IsMissing start.columns cs) body n old
    (record { columns = old.columns; words = exit }) answer
takes body n old exit (Some u) stores = record {
  says = λ start cs c before standing counts one.
      let so_far = before one in
      (so_far.0, stores.four ∙ so_far.1, stored start.columns one cs c body standing (rw counts at (rw so_far.0 at stores)) so_far.2);
}
takes body n old exit None stores = record {
  says = λ start cs c before standing counts one. missing start.columns one cs c body standing (rw counts at (rw (before one).0 at stores));
}

-- a record that is read under a header
module _ (s columns : List ℕ) (count : ℕ) (in_header : Within columns count) (words : List ℕ) where
  -- it is none, or a field is no number where one is due
  pub no_kernel : Refused (λ (x : Row) (cs : List (List ℕ)). IsMissing x.columns cs) s (record { columns = columns; words = words }) → read_row count columns (read_record s) ≡ no_row
  no_kernel (none_there e) = ap (read_row count columns) e ∙ row_none count columns
  no_kernel (not_due cs left e missed) =
      let found = missed in_header.from_one in
      ap (read_row count columns) (sym e) ∙ row_wrong count columns cs found.0 (omega (arith, found.1, in_header.four)) found.2 found.3 left

  module _ {now : Row} {n : ℕ} {rest : List ℕ} (t : Taken (λ (x : Row) (cs : List (List ℕ)) (y : Row). IsStored x.columns x.words cs y.columns y.words) s (record { columns = columns; words = words }) now n rest) where
    -- with another number of fields than the header
    pub miscounted : (n ≡ count → ⊥) → read_row count columns (read_record s) ≡ no_row
    miscounted other = ap (read_row count columns) t.reads ∙ row_other count columns t.contents rest (λ e. other (t.counts ∙ e))

    -- with as many
    pub complete : n ≡ count → length words ≡ 4 → read_row count columns (read_record s) ≡ row now.words rest
    complete same four =
        ap (read_row count columns) t.reads
        ∙ row_right
        count
        columns
        t.contents
        rest
        now.words
        (sym t.counts ∙ same)
        ((t.holds in_header.from_one).1 ∙ four ∙ sym in_header.four)
        (λ k h.
        let within : k < 4 = omega (arith, in_header.four) in
        (t.holds in_header.from_one).2 k within (omega (arith, in_header.to_last k within, t.counts)))
