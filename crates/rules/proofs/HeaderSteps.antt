-- A header's columns one by one: which of them has a name, how many have it, and when the header is good.
use Rattle.std.specs.Prelude.{if◌then◌else◌}
use mathlib.Core.Path.{◌≡◌, refl, sym, ap, ◌∙◌}
use Prim.Native.Nat.{ℕ, zero, suc, ◌+◌, ◌≤◌, ◌<◌}
use native.Mathlib.Omega.{arith}
use mathlib.Core.List.{List, [], ◌∷◌, ◌++◌}
use mathlib.Core.Bool.{Bool, true, false, not, ◌&&◌}
use lib.Dec.{eqb}
use lib.ListN.{length, get_or}
use lib.Seq.{ext_get_or}
use borrow.Author.Tests.{eq-eqb, ne_eqb}
use Rattle.rules.specs.Numbers.{task_most}
use Rattle.rules.specs.Sheet.{Record, fields, no_record, read_record, name_of, is_name, times, column_from, good_header, columns_of, no_header, read_tasks, under_header, read_sheet}
use Rattle.rules.specs.Sheets.{Once}
use Rattle.rules.proofs.Booleans.{split}
use Rattle.rules.proofs.Records.{befores, befores_fields, befores_nothing}
use Rattle.rules.proofs.SheetNames.{once_exact, column_is, header_exact}
use Rattle.rules.proofs.SheetRecords.{header_of, sheet_none}

-- the columns that have a name
module _ (name : List ℕ) where
  -- where none has it
  pub unnamed : (k : ℕ) (hs : List (List ℕ)) → times name hs ≡ 0 → column_from k name hs ≡ 0
  unfolding times column_from
  unnamed k [] e = refl
  unnamed k (h ∷ hs) e = by_name (is_name name h) e (unnamed (suc k) hs)
    where
      by_name : (b : Bool) → (if b then 1 else 0) + times name hs ≡ 0 → (times name hs ≡ 0 → column_from (suc k) name hs ≡ 0)
          → (if b then k else column_from (suc k) name hs) ≡ 0
      by_name true e later = absurd (omega arith)
      by_name false e later = later (omega arith)

  -- no column
  pub times_none : times name [] ≡ 0
  unfolding times
  times_none = refl

  -- one column more
  times_more : (hs : List (List ℕ)) (h : List ℕ) → times name (hs ++ (h ∷ [])) ≡ times name hs + (if is_name name h then 1 else 0)
  unfolding times
  times_more [] h = omega arith
  times_more (g ∷ hs) h = omega (arith, times_more hs h)

  times_on : (hs gs : List (List ℕ)) → times name hs ≤ times name (hs ++ gs)
  unfolding times
  times_on [] gs = omega arith
  times_on (h ∷ hs) gs = omega (arith, times_on hs gs)

  column_more : (k : ℕ) (hs : List (List ℕ)) (h : List ℕ) → (is_name name h ≡ true → times name hs ≡ 0)
      → column_from k name (hs ++ (h ∷ [])) ≡ (if is_name name h then k + length hs else column_from k name hs)
  unfolding times column_from
  column_more k [] h new = let e : k ≡ k + 0 = omega arith in ap (λ (n : ℕ). if is_name name h then n else 0) e
  column_more k (g ∷ hs) h new = by_names (is_name name g) (is_name name h) new (column_more (suc k) hs h (λ e. omega (arith, new e)))
    where
      by_names : (b d : Bool) → (d ≡ true → (if b then 1 else 0) + times name hs ≡ 0)
          → column_from (suc k) name (hs ++ (h ∷ [])) ≡ (if d then suc k + length hs else column_from (suc k) name hs)
          → (if b then k else column_from (suc k) name (hs ++ (h ∷ []))) ≡ (if d then k + suc (length hs) else (if b then k else column_from (suc k) name hs))
      by_names true true new later = absurd (omega (arith, new refl))
      by_names true false new later = refl
      by_names false true new later = omega arith
      by_names false false new later = later

  -- one that has it where another has is one too many
  pub twice_more : (hs : List (List ℕ)) (h : List ℕ) → is_name name h ≡ true → (column_from 1 name hs ≡ 0 → ⊥) → 1 < times name (hs ++ (h ∷ []))
  twice_more hs h is before =
      split (times name hs) 0 (λ l. absurd (before (unnamed 1 hs (omega arith)))) (λ p. rw (times_more hs h, is) (omega arith))

  -- a name that comes once at most comes once where it has a column
  module _ (hs : List (List ℕ)) (once : times name hs ≤ 1) where
    once_found : 0 < times name hs → 0 < column_from 1 name hs
    once_found p = omega (arith, column_is name hs ((once_exact name hs).0 (omega arith)))

    pub once_named : eqb (times name hs) 1 ≡ not (eqb (column_from 1 name hs) 0)
    once_named = split (times name hs) 0 never found
      where
        never : times name hs ≤ 0 → eqb (times name hs) 1 ≡ not (eqb (column_from 1 name hs) 0)
        never l = let e : times name hs ≡ 0 = omega arith in rw (e, unnamed 1 hs e)

        found : 0 < times name hs → eqb (times name hs) 1 ≡ not (eqb (column_from 1 name hs) 0)
        found p = rw (eq-eqb (times name hs) 1 (omega arith), ne_eqb (column_from 1 name hs) 0 (omega (arith, once_found p)))

    -- one column more, which has it only where none has so far
    module _ (h : List ℕ) (new : is_name name h ≡ true → column_from 1 name hs ≡ 0) where
      none_before : is_name name h ≡ true → times name hs ≡ 0
      none_before is = split (times name hs) 0 (λ l. omega arith) (λ p. absurd (omega (arith, once_found p, new is)))

      pub first_more : column_from 1 name (hs ++ (h ∷ [])) ≡ (if is_name name h then length hs + 1 else column_from 1 name hs)
      first_more =
          let e : 1 + length hs ≡ length hs + 1 = omega arith in
          column_more 1 hs h none_before ∙ ap (λ (n : ℕ). if is_name name h then n else column_from 1 name hs) e

      pub once_more : times name (hs ++ (h ∷ [])) ≤ 1
      once_more = by_name (is_name name h) refl
        where
          by_name : (b : Bool) → is_name name h ≡ b → times name (hs ++ (h ∷ [])) ≤ 1
          by_name true e = rw (times_more hs h, e) (omega (arith, none_before e))
          by_name false e = rw (times_more hs h, e) (omega arith)

-- a header is good by a test of each name
module _ (hs : List (List ℕ)) where
  pub good_by : (test : ℕ → Bool) → ((k : ℕ) → k < 4 → eqb (times (name_of k) hs) 1 ≡ test k) → good_header hs ≡ (test 0 && (test 1 && (test 2 && test 3)))
  unfolding good_header
  good_by test e = rw (e 0 (omega arith), e 1 (omega arith), e 2 (omega arith), e 3 (omega arith))

  -- a good header has each name once
  names_once : good_header hs ≡ true → (k : ℕ) → k < 4 → Once (name_of k) hs
  names_once good zero h = ((header_exact hs).0 good).0
  names_once good (suc zero) h = ((header_exact hs).0 good).1
  names_once good (suc (suc zero)) h = ((header_exact hs).0 good).2
  names_once good (suc (suc (suc zero))) h = ((header_exact hs).0 good).3
  names_once good (suc (suc (suc (suc k)))) h = absurd (omega arith)

  -- and so one with a name twice is not
  twice_bad : (k : ℕ) → k < 4 → 1 < times (name_of k) hs → good_header hs ≡ false
  twice_bad k h twice = by_test (good_header hs) refl
    where
      by_test : (b : Bool) → good_header hs ≡ b → b ≡ false
      by_test true good = absurd (omega (arith, (once_exact (name_of k) hs).1 (names_once good k h)))
      by_test false bad = refl

  -- the columns by their index
  columns_at : (k : ℕ) → k < 4 → get_or (columns_of hs) k 0 ≡ column_from 1 (name_of k) hs
  unfolding columns_of
  columns_at zero h = refl
  columns_at (suc zero) h = refl
  columns_at (suc (suc zero)) h = refl
  columns_at (suc (suc (suc zero))) h = refl
  columns_at (suc (suc (suc (suc k)))) h = absurd (omega arith)

  pub columns_four : length (columns_of hs) ≡ 4
  unfolding columns_of
  columns_four = refl

  pub columns_are : (columns : List ℕ) → length columns ≡ 4 → ((k : ℕ) → k < 4 → get_or columns k 0 ≡ column_from 1 (name_of k) hs) → columns ≡ columns_of hs
  unfolding columns_of
  columns_are columns four each = ext_get_or 0 columns (columns_of hs) four (λ k h. each k (omega arith) ∙ sym (columns_at k (omega arith)))

  -- those of a good header are columns that it has
  module _ (good : good_header hs ≡ true) where
    pub columns_within : (k : ℕ) → k < 4 → (1 ≤ get_or (columns_of hs) k 0) × (get_or (columns_of hs) k 0 ≤ length hs)
    columns_within k h =
        let once = names_once good k h in
        rw (columns_at k h) (omega (arith, column_is (name_of k) hs once, once.there))

-- a sheet by its header
module _ (s : List ℕ) where
  pub no_record_law : read_record s ≡ no_record → read_sheet s ≡ no_header
  unfolding read_sheet under_header
  no_record_law e = rw e

  module _ (hs : List (List ℕ)) (t : List ℕ) (e : read_record s ≡ fields hs t) where
    pub bad_header : good_header hs ≡ false → read_sheet s ≡ no_header
    unfolding read_sheet under_header
    bad_header bad = rw (e, bad)

    pub good_header_law : good_header hs ≡ true → read_sheet s ≡ read_tasks (length hs) (columns_of hs) task_most 2 t
    unfolding read_sheet under_header
    good_header_law good = rw (e, good)

    pub not_both : good_header hs ≡ true → read_sheet s ≡ no_header → ⊥
    not_both good none_is = (sheet_none s).0 none_is hs t (header_of s e good)

  -- a name that comes twice, whatever follows
  pub name_twice : (cs : List (List ℕ)) (r : Record) → befores cs r ≡ read_record s → (k : ℕ) → k < 4 → 1 < times (name_of k) cs → read_sheet s ≡ no_header
  name_twice cs (fields ds t) e k h twice =
      bad_header (cs ++ ds) t (sym e ∙ befores_fields cs ds t) (twice_bad (cs ++ ds) k h (omega (arith, times_on (name_of k) cs ds)))
  name_twice cs no_record e k h twice = no_record_law (sym e ∙ befores_nothing cs)
