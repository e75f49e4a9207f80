-- The fields of a record taken one after another.
use mathlib.Core.Path.{◌≡◌, refl, sym, ap, ◌∙◌}
use Prim.Native.Nat.{ℕ, ◌+◌}
use mathlib.Core.List.{List, [], ◌∷◌, ◌++◌}
use mathlib.Core.Bool.{Bool}
use lib.ListN.{length, length-append}
use Rattle.std.specs.Prelude.{Some, None}
use Rattle.rules.specs.Sheet.{no_step, next_field, Record, fields, before, read_record}
use Rattle.rules.specs.Sheets.{doubled}
use Rattle.rules.specs.Standing.{standing_step}
use Rattle.rules.proofs.Records.{befores, befores_none, befores_more, befores_all, befores_nothing}
use Rattle.field.specs.Fields.{step_of}
use Rattle.field.specs.Takers.{TakesOn, Taken, Refused, none_there, not_due, TakenOne}
use Rattle.field.proofs.Records.{after_field, field_found, none_found}

-- n fields are taken: their contents before what is left are the record
pub record Taking {S : Type 0} (taken : S → List (List ℕ) → S → Type 0) (s : List ℕ) (left : Record) (n : ℕ) (start now : S) : Type 0 where
  pub contents : List (List ℕ)
  pub reads : befores contents left ≡ read_record s
  pub counts : length contents ≡ n
  pub holds : taken start contents now

module _ {S : Type 0} {taken : S → List (List ℕ) → S → Type 0} where
  pub none_taken : (s : List ℕ) (start : S) → taken start [] start → Taking taken s (read_record s) 0 start start
  none_taken s start begins = record { contents = []; reads = befores_none (read_record s); counts = refl; holds = begins }

  -- no field is left
  pub all_taken : {s rest : List ℕ} {n : ℕ} {start now : S} → Taking taken s (fields [] rest) n start now → Taken taken s start now n rest
  all_taken {rest} all = record {
    contents = all.contents;
    reads = sym all.reads ∙ befores_all all.contents rest;
    counts = sym all.counts;
    holds = all.holds;
  }

  -- a field is left
  module _ (refused : S → List (List ℕ) → Type 0) {s : List ℕ} (t : List ℕ) {n : ℕ} {start now : S} (so_far : Taking taken s (read_record t) n start now) where
    -- it is not as due
    pub broken : no_step ≡ standing_step (next_field t) → Refused refused s start
    broken e = none_there (sym so_far.reads ∙ ap (befores so_far.contents) (none_found t e) ∙ befores_nothing so_far.contents)

    -- it is, and it is taken or not
    module _ (body rest : List ℕ) (last : Bool) (says : step_of last body rest ≡ standing_step (next_field t)) (new : S) where
      found : (c : List ℕ) × (body ≡ doubled c) × (read_record t ≡ before c (after_field last rest))
      found = field_found t body rest last says

      grown : befores (so_far.contents ++ (found.0 ∷ [])) (after_field last rest) ≡ read_record s
      grown = sym (befores_more so_far.contents found.0 (after_field last rest)) ∙ ap (befores so_far.contents) (sym found.2) ∙ so_far.reads

      pub stopped : TakesOn taken refused body (n + 1) now new None → Refused refused s start
      stopped takes = not_due _ _ grown (takes.says start so_far.contents found.0 so_far.holds found.1 (ap (λ (m : ℕ). m + 1) (sym so_far.counts)))

      pub one_more : TakesOn taken refused body (n + 1) now new (Some tt) → (is_last : Bool) → last ≡ is_last → Taking taken s (after_field is_last rest) (n + 1) start new
      one_more takes is_last e = record {
        contents = so_far.contents ++ (found.0 ∷ []);
        reads = rw (ap (λ (x : Bool). after_field x rest) e) at grown;
        counts = length-append so_far.contents (found.0 ∷ []) ∙ ap (λ (m : ℕ). m + 1) so_far.counts;
        holds = takes.says start so_far.contents found.0 so_far.holds found.1 (ap (λ (m : ℕ). m + 1) (sym so_far.counts));
      }

-- one outcome
pub taken_one : TakenOne
taken_one S taken s start new other n m rest after a b =
    let same : fields a.contents rest ≡ fields b.contents after = sym a.reads ∙ b.reads in
    let contents : a.contents ≡ b.contents = cc in
    (a.counts ∙ ap length contents ∙ sym b.counts, (cc))
