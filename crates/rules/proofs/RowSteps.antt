-- A field's number by what is read at its start; a task's record by the numbers in its columns; and the records of tasks one by one.
use Rattle.std.specs.Prelude.{if◌then◌else◌, Option, Some, None}
use mathlib.Core.Path.{◌≡◌, refl, sym, ap, ◌∙◌}
use Prim.Native.Nat.{ℕ, zero, suc, ◌+◌, ◌-◌, ◌<◌}
use native.Mathlib.Nat.{not-suc-le-zero}
use native.Mathlib.Omega.{arith}
use mathlib.Core.List.{List, [], ◌∷◌, ◌++◌, append-nil, append_assoc}
use mathlib.Core.Bool.{Bool, true, false}
use lib.Dec.{eqb}
use lib.ListN.{length, get_or, get_or-append}
use borrow.Author.Tests.{eq-eqb, ne_eqb}
use Rattle.rules.specs.Numbers.{task_most}
use Rattle.rules.specs.Text.{got, bad, read_number}
use Rattle.rules.specs.Sheet.{Record, fields, no_record, read_record, whole, field_number, also, numbers_in, Row, row, no_row, row_of, read_row, Sheet, tasks, wrong, no_header, words_ahead, or_wrong, at_record, read_tasks}
use Rattle.rules.proofs.ReadSteps.{first_of}
use Rattle.rules.proofs.Records.{befores, befores_fields, befores_nothing}
use Rattle.std.proofs.lemmas.List.{nil_from_length}

-- a field's number, by what is read at its start
module _ (c : List ℕ) where
  pub no_number : read_number c ≡ bad → field_number c ≡ None
  unfolding field_number whole
  no_number e = rw e

  module _ (v : ℕ) (s : List ℕ) (e : read_number c ≡ got v s) where
    -- nothing is left
    pub whole_number : length s ≡ 0 → field_number c ≡ Some v
    unfolding field_number whole
    whole_number n = rw (e, nil_from_length s n)

    -- some bytes are
    pub number_and_more : (length s ≡ 0 → ⊥) → field_number c ≡ None
    unfolding field_number whole
    number_and_more n = let p : 0 < length s = omega arith in rw (e, first_of s p)

-- the numbers in some columns of a record: all are as due
numbers_all : (columns words : List ℕ) (cs : List (List ℕ)) → length words ≡ length columns
    → ((k : ℕ) → k < length columns → field_number (get_or cs (get_or columns k 0 - 1) []) ≡ Some (get_or words k 0)) → numbers_in columns cs ≡ Some words
unfolding also numbers_in
numbers_all [] [] cs l h = refl
numbers_all [] (w ∷ ws) cs l h = absurd (omega (arith, l))
numbers_all (k ∷ ks) [] cs l h = absurd (omega (arith, l))
numbers_all (k ∷ ks) (w ∷ ws) cs l h = rw (h 0 (omega arith), numbers_all ks ws cs (omega (arith, l)) (λ j m. h (suc j) (omega arith)))

-- or one is not
numbers_none : (columns : List ℕ) (cs : List (List ℕ)) (k : ℕ) → k < length columns → field_number (get_or cs (get_or columns k 0 - 1) []) ≡ None → numbers_in columns cs ≡ None
unfolding also numbers_in
numbers_none [] cs k h e = absurd (not-suc-le-zero h)
numbers_none (j ∷ js) cs zero h e = rw e
numbers_none (j ∷ js) cs (suc k) h e = rw (numbers_none js cs k (omega arith) e) (nothing (field_number (get_or cs (j - 1) [])))
  where
    nothing : (v : Option ℕ) → also v None ≡ None
    nothing (Some v) = refl
    nothing None = refl

-- a task's record
module _ (count : ℕ) (columns : List ℕ) where
  pub row_none : read_row count columns no_record ≡ no_row
  unfolding read_row
  row_none = refl

  module _ (cs : List (List ℕ)) where
    -- it has another number of fields than the header
    pub row_other : (s : List ℕ) → (length cs ≡ count → ⊥) → read_row count columns (fields cs s) ≡ no_row
    unfolding read_row
    row_other s n = rw (ne_eqb (length cs) count n)

    -- it has as many, and a number in each column
    pub row_right : (s words : List ℕ) → length cs ≡ count → length words ≡ length columns
        → ((k : ℕ) → k < length columns → field_number (get_or cs (get_or columns k 0 - 1) []) ≡ Some (get_or words k 0)) → read_row count columns (fields cs s) ≡ row words s
    unfolding read_row row_of
    row_right s words e l h = rw (eq-eqb (length cs) count e, numbers_all columns words cs l h)

    -- one of its first fields is no number where one is due, whatever follows
    pub row_wrong : (k : ℕ) → k < length columns → get_or columns k 0 - 1 < length cs → field_number (get_or cs (get_or columns k 0 - 1) []) ≡ None
        → (r : Record) → read_row count columns (befores cs r) ≡ no_row
    unfolding read_row row_of
    row_wrong k h l e (fields ds s) =
        let f : numbers_in columns (cs ++ ds) ≡ None = numbers_none columns (cs ++ ds) k h (rw (get_or-append cs ds [] (get_or columns k 0 - 1) l) e) in
        rw (befores_fields cs ds s, f) (either_way (eqb (length (cs ++ ds)) count))
      where
        either_way : (t : Bool) → (if t then no_row else no_row) ≡ no_row
        either_way true = refl
        either_way false = refl
    row_wrong k h l e no_record = rw (befores_nothing cs)

-- words ahead of those of the records still to read
pub ahead_none : (r : Sheet) → words_ahead [] r ≡ r
unfolding words_ahead
ahead_none (tasks vs) = refl
ahead_none (wrong l) = refl
ahead_none no_header = refl

ahead_more : (us ws : List ℕ) (r : Sheet) → words_ahead us (words_ahead ws r) ≡ words_ahead (us ++ ws) r
unfolding words_ahead
ahead_more us ws (tasks vs) = ap tasks (sym (append_assoc us ws vs))
ahead_more us ws (wrong l) = refl
ahead_more us ws no_header = refl

-- n records are read, their words are ws, and t is left
module _ (count : ℕ) (columns : List ℕ) (n : ℕ) (ws t : List ℕ) where
  -- the end of the sheet
  pub tasks_done : length t ≡ 0 → words_ahead ws (read_tasks count columns (task_most - n) (n + 2) t) ≡ tasks ws
  unfolding words_ahead at_record read_tasks
  tasks_done e = ap (words_ahead ws) (none_left (task_most - n)) ∙ ap tasks (append-nil ws)
    where
      none_left : (m : ℕ) → read_tasks count columns m (n + 2) t ≡ tasks []
      none_left zero = rw (nil_from_length t e)
      none_left (suc m) = rw (nil_from_length t e)

  module _ (p : 0 < length t) where
    -- one too many
    pub tasks_full : n ≡ task_most → words_ahead ws (read_tasks count columns (task_most - n) (n + 2) t) ≡ wrong (n + 2)
    unfolding words_ahead at_record read_tasks
    tasks_full e = let z : task_most - n ≡ 0 = omega arith in rw (z, first_of t p)

    module _ (h : n < task_most) where
      next_record : (r : Row) → read_row count columns (read_record t) ≡ r
          → read_tasks count columns (task_most - n) (n + 2) t ≡ or_wrong (n + 2) r (λ rest. read_tasks count columns (task_most - (n + 1)) (n + 1 + 2) rest)
      unfolding at_record read_tasks
      next_record r e =
          let left : task_most - n ≡ suc (task_most - (n + 1)) = omega arith in
          let after : suc (n + 2) ≡ n + 1 + 2 = omega arith in
          rw (left, e, first_of t p, after)

      -- the next record is not as due
      pub tasks_wrong : read_row count columns (read_record t) ≡ no_row → words_ahead ws (read_tasks count columns (task_most - n) (n + 2) t) ≡ wrong (n + 2)
      unfolding words_ahead or_wrong
      tasks_wrong e = ap (words_ahead ws) (next_record no_row e)

      -- the next record is
      pub tasks_more : (vs u : List ℕ) → read_row count columns (read_record t) ≡ row vs u
          → words_ahead (ws ++ vs) (read_tasks count columns (task_most - (n + 1)) (n + 1 + 2) u) ≡ words_ahead ws (read_tasks count columns (task_most - n) (n + 2) t)
      unfolding or_wrong
      tasks_more vs u e =
          sym (ahead_more ws vs (read_tasks count columns (task_most - (n + 1)) (n + 1 + 2) u)) ∙ ap (words_ahead ws) (sym (next_record (row vs u) e))
