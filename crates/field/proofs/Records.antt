-- A record by what the search for its next field said.
use mathlib.Core.Path.{◌≡◌, sym, ap, ◌∙◌}
use Prim.Native.Nat.{ℕ, ◌<◌}
use mathlib.Core.List.{List, [], ◌∷◌}
use mathlib.Core.Bool.{Bool, true, false}
use lib.ListN.{length}
use Rattle.rules.specs.Sheet.{next_field, no_step, Record, fields, no_record, before, read_record}
use Rattle.rules.specs.Sheets.{doubled}
use Rattle.rules.specs.Standing.{standing_step}
use Rattle.rules.proofs.Records.{more_shorter, record_more, record_last, record_none, befores_none, befores_more, befores_fields}
use Rattle.rules.proofs.FieldSteps.{stands_more, stands_last, stands_none}
use Rattle.field.specs.Fields.{step_of}

-- what is left of a record after a field
abbrev pub after_field : Bool → List ℕ → Record
after_field false rest = read_record rest
after_field true rest = fields [] rest

module _ (s : List ℕ) where
  -- no field is found
  pub none_found : no_step ≡ standing_step (next_field s) → read_record s ≡ no_record
  none_found e = record_none s (stands_none (next_field s) e)

  module _ (body rest : List ℕ) where
    -- a field is: its content is before what is left
    pub field_found : (last : Bool) → step_of last body rest ≡ standing_step (next_field s)
        → (c : List ℕ) × (body ≡ doubled c) × (read_record s ≡ before c (after_field last rest))
    field_found false e =
        let found = stands_more body rest (next_field s) e in
        (found.0, found.2, record_more s found.0 rest found.1)
    field_found true e =
        let found = stands_last body rest (next_field s) e in
        let c = found.0 in
        let alone : before c (fields [] rest) ≡ fields (c ∷ []) rest = sym (befores_none (before c (fields [] rest))) ∙ befores_more [] c (fields [] rest) ∙ befores_fields (c ∷ []) [] rest in
        (c, found.2, record_last s c rest found.1 ∙ sym alone)

    -- more fields come: fewer bytes are left
    pub fewer_left : (last : Bool) → last ≡ false → step_of last body rest ≡ standing_step (next_field s) → length rest < length s
    fewer_left last n e =
        let found = stands_more body rest (next_field s) (ap (λ (b : Bool). step_of b body rest) (sym n) ∙ e) in
        more_shorter s found.0 rest found.1
