-- What reading a sheet gives is what the paper's words say, both ways: a task's record, the records of tasks, the first that is not as due, the whole sheet.
-- What was read has its words, record after record; and where the words hold that is what is read, since each step of theirs is one of the reading.
use Rattle.std.specs.Prelude.{if◌then◌else◌, Option, Some, None}
use mathlib.Core.Path.{◌≡◌, refl, sym, ap, subst, ◌∙◌}
use Prim.Native.Nat.{ℕ, zero, suc, ◌+◌, ◌-◌, ◌*◌, ◌/◌, ◌%◌, ◌≤◌}
use native.Mathlib.Omega.{arith}
use mathlib.Core.Logic.{◌↔◌}
use mathlib.Core.List.{List, [], ◌∷◌}
use mathlib.Core.Bool.{Bool, true, false}
use lib.Dec.{eqb}
use lib.ListN.{length, get_or, length-append}
use borrow.Author.Tests.{eq-eqb, eqb-true}
use Rattle.rules.specs.Sheet.{Record, fields, no_record, read_record, name_of, column_from, good_header, columns_of, field_number, also, numbers_in, Row, row, no_row, row_of, read_row, Sheet, tasks, wrong, no_header, words_ahead, or_wrong, at_record, read_tasks, under_header, read_sheet}
use Rattle.rules.specs.Sheets.{Begins, Once, Header, Under, Kernel, kernel, Tasks, NotDue}
use Rattle.rules.proofs.Booleans.{impossible, true_is_not_false}
use Rattle.rules.proofs.SheetGrammar.{record_exact}
use Rattle.rules.proofs.SheetNames.{column_is, header_exact, number_exact}

-- NUMBERS
-- the number in the column of a name
under_exact : (name : List ℕ) (hs cs : List (List ℕ)) (v : ℕ) → Once name hs → (field_number (get_or cs (column_from 1 name hs - 1) []) ≡ Some v) ↔ Under hs cs name v
under_exact name hs cs v o = (
  λ e.
      let number = (number_exact (get_or cs (column_from 1 name hs - 1) []) v).0 e in
      (number.0, λ i l has. ap (λ (k : ℕ). get_or cs k []) (o.alone i l has ∙ sym place_is) ∙ number.1),
  λ u.
      (number_exact (get_or cs (column_from 1 name hs - 1) []) v).1 (u.0, ap (λ (k : ℕ). get_or cs k []) place_is ∙ u.1 o.place o.there o.has),
)
  where
    place_is : column_from 1 name hs - 1 ≡ o.place
    place_is = omega (arith, column_is name hs o)

-- the numbers in some columns of a record, one by one
data Numbers (cs : List (List ℕ)) : List ℕ → List ℕ → Type 0 where
  no_column : Numbers cs [] []
  column : {k v : ℕ} {ks vs : List ℕ} → field_number (get_or cs (k - 1) []) ≡ Some v → Numbers cs ks vs → Numbers cs (k ∷ ks) (v ∷ vs)

numbers_were : (cs : List (List ℕ)) (columns ws : List ℕ) → numbers_in columns cs ≡ Some ws → Numbers cs columns ws
unfolding numbers_in also
numbers_were cs [] ws e = let none_read : ws ≡ [] = cc in rw none_read no_column
numbers_were cs (k ∷ ks) ws e = by_number (field_number (get_or cs (k - 1) [])) (numbers_in ks cs) refl refl e (numbers_were cs ks)
  where
    by_number : (first : Option ℕ) (others : Option (List ℕ)) → field_number (get_or cs (k - 1) []) ≡ first → numbers_in ks cs ≡ others → also first others ≡ Some ws
        → ((vs : List ℕ) → numbers_in ks cs ≡ Some vs → Numbers cs ks vs) → Numbers cs (k ∷ ks) ws
    by_number (Some v) (Some vs) is are e later = let words : ws ≡ v ∷ vs = cc in rw words (column is (later vs are))
    by_number (Some v) None is are e later = impossible cc
    by_number None others is are e later = impossible cc

-- a record that was read as a task: its fields, as many as due, and the numbers in their columns
record RowWas (count : ℕ) (columns : List ℕ) (r : Record) (ws after : List ℕ) : Type 0 where
  cs : List (List ℕ)
  from : r ≡ fields cs after
  as_many : length cs ≡ count
  numbers : Numbers cs columns ws

row_was : (count : ℕ) (columns : List ℕ) (r : Record) (ws after : List ℕ) → read_row count columns r ≡ row ws after → RowWas count columns r ws after
unfolding read_row row_of
row_was count columns no_record ws after e = impossible cc
row_was count columns (fields cs rest) ws after e = by_count (eqb (length cs) count) refl e
  where
    by_numbers : length cs ≡ count → (o : Option (List ℕ)) → numbers_in columns cs ≡ o → row_of o rest ≡ row ws after → RowWas count columns (fields cs rest) ws after
    by_numbers as_many None n e = impossible cc
    by_numbers as_many (Some us) n e = record { cs = cs; from = cc; as_many = as_many; numbers = numbers_were cs columns ws (cc) }

    by_count : (t : Bool) → eqb (length cs) count ≡ t → (if t then row_of (numbers_in columns cs) rest else no_row) ≡ row ws after → RowWas count columns (fields cs rest) ws after
    by_count true t e = by_numbers (eqb-true (length cs) count t) (numbers_in columns cs) refl e
    by_count false t e = impossible cc

-- while bytes are left there is a record more
some_byte : (b : ℕ) (s : List ℕ) → ◌≡◌ {A = List ℕ} (b ∷ s) [] → ⊥
some_byte b s e = impossible cc

at_bytes : (s : List ℕ) → (s ≡ [] → ⊥) → (x : Sheet) → at_record s x ≡ x
unfolding at_record
at_bytes [] bytes_left x = absurd (bytes_left refl)
at_bytes (b ∷ s) bytes_left x = refl

-- the words of a task are four
pub kernel_words : {hs : List (List ℕ)} {s ws after : List ℕ} → Kernel hs s ws after → length ws ≡ 4
kernel_words (kernel begins as_many c d t r) = refl

pub tasks_fours : {hs : List (List ℕ)} {s ws : List ℕ} → Tasks hs s ws → length ws % 4 ≡ 0
tasks_fours Tasks.none = refl
tasks_fours (Tasks.more {ws = ws} {vs = vs} bytes_left due others) = omega (arith, length-append ws vs, kernel_words due, tasks_fours others)

module _ (hs : List (List ℕ)) where
  -- n records of tasks may come, the first is record l
  abbrev read : ℕ → ℕ → List ℕ → Sheet
  read n l s = read_tasks (length hs) (columns_of hs) n l s

  -- what that is, in the paper's words
  abbrev Gives : ℕ → ℕ → List ℕ → Sheet → Type 0
  Gives n l s (tasks ws) = Tasks hs s ws × (length ws ≤ 4 * n)
  Gives n l s (wrong k) = NotDue hs l s k
  Gives n l s no_header = ⊥

  module _ (good : good_header hs ≡ true) where
    -- A TASK'S RECORD
    row_back : (s ws after : List ℕ) → read_row (length hs) (columns_of hs) (read_record s) ≡ row ws after → Kernel hs s ws after
    unfolding columns_of
    row_back s ws after e =
        let was = row_was (length hs) (columns_of hs) (read_record s) ws after e in
        by_numbers was.cs ((record_exact s was.cs after).0 was.from) was.as_many was.numbers
      where
        by_numbers : (cs : List (List ℕ)) {us : List ℕ} → Begins s cs after → length cs ≡ length hs → Numbers cs (columns_of hs) us → Kernel hs s us after
        by_numbers cs begins as_many (column {v = c} ec (column {v = d} ed (column {v = t} et (column {v = r} er no_column)))) =
            let names = (header_exact hs).0 good in
            kernel
            begins
            as_many
            ((under_exact (name_of 0) hs cs c names.0).0 ec)
            ((under_exact (name_of 1) hs cs d names.1).0 ed)
            ((under_exact (name_of 2) hs cs t names.2).0 et)
            ((under_exact (name_of 3) hs cs r names.3).0 er)

    row_there : {s ws after : List ℕ} → Kernel hs s ws after → read_row (length hs) (columns_of hs) (read_record s) ≡ row ws after
    unfolding read_row row_of numbers_in columns_of also
    row_there {s} (kernel {cs = cs} {after = after} {c = c} {d = d} {t = t} {r = r} begins as_many ec ed et er) =
        let names = (header_exact hs).0 good in
        rw (
          (record_exact s cs after).1 begins,
          eq-eqb (length cs) (length hs) as_many,
          (under_exact (name_of 0) hs cs c names.0).1 ec,
          (under_exact (name_of 1) hs cs d names.1).1 ed,
          (under_exact (name_of 2) hs cs t names.2).1 et,
          (under_exact (name_of 3) hs cs r names.3).1 er,
        )

    pub row_exact : (s ws after : List ℕ) → (read_row (length hs) (columns_of hs) (read_record s) ≡ row ws after) ↔ Kernel hs s ws after
    row_exact s ws after = (row_back s ws after, row_there)

    -- THE RECORDS OF TASKS
    -- what was read has the paper's words; n records more are those up to record 65
    gives : (n l : ℕ) (s : List ℕ) → l + n ≡ 66 → Gives n l s (read n l s)
    unfolding read_tasks at_record or_wrong words_ahead
    gives zero l [] limit = (Tasks.none, omega arith)
    gives zero l (b ∷ s) limit =
        let last : l ≡ 66 = omega arith in
        rw last (NotDue.too_many (some_byte b s))
    gives (suc n) l [] limit = (Tasks.none, omega arith)
    gives (suc n) l (b ∷ s) limit = by_row (read_row (length hs) (columns_of hs) (read_record (b ∷ s))) refl (λ after. gives n (suc l) after (omega arith))
      where
        by_later : {ws after : List ℕ} → Kernel hs (b ∷ s) ws after → (later : Sheet) → Gives n (suc l) after later → Gives (suc n) l (b ∷ s) (words_ahead ws later)
        by_later {ws} due (tasks vs) g = (Tasks.more (some_byte b s) due g.0, omega (arith, length-append ws vs, kernel_words due, g.1))
        by_later due (wrong m) g = NotDue.later {l = l} (omega arith) (some_byte b s) due g
        by_later due no_header g = g

        by_row : (r : Row) → read_row (length hs) (columns_of hs) (read_record (b ∷ s)) ≡ r → ((after : List ℕ) → Gives n (suc l) after (read n (suc l) after))
            → Gives (suc n) l (b ∷ s) (or_wrong l r (λ rest. read n (suc l) rest))
        by_row (row ws after) e later = by_later (row_back (b ∷ s) ws after e) (read n (suc l) after) (later after)
        by_row no_row e later = NotDue.this (some_byte b s) (λ ws after due. let x = row_there due in impossible cc)

    -- a record more, where there are bytes: it is as due, or it is not, or it may not come
    module _ {s : List ℕ} (bytes_left : s ≡ [] → ⊥) where
      record_due : (n l : ℕ) {ws after : List ℕ} → Kernel hs s ws after → read (suc n) l s ≡ words_ahead ws (read n (suc l) after)
      unfolding read_tasks or_wrong
      record_due n l due = at_bytes s bytes_left _ ∙ rw (row_there due)

      not_due : (n l : ℕ) → ((ws after : List ℕ) → Kernel hs s ws after → ⊥) → read (suc n) l s ≡ wrong l
      unfolding read_tasks or_wrong
      not_due n l none_is = at_bytes s bytes_left _ ∙ by_row (read_row (length hs) (columns_of hs) (read_record s)) refl
        where
          by_row : (r : Row) → read_row (length hs) (columns_of hs) (read_record s) ≡ r → or_wrong l r (λ rest. read n (suc l) rest) ≡ wrong l
          by_row (row ws after) e = absurd (none_is ws after (row_back s ws after e))
          by_row no_row e = refl

      too_far : (l : ℕ) → read 0 l s ≡ wrong l
      unfolding read_tasks
      too_far l = at_bytes s bytes_left _

    -- and what has them is read
    tasks_there : (n l : ℕ) {s ws : List ℕ} → Tasks hs s ws → length ws ≤ 4 * n → read n l s ≡ tasks ws
    unfolding read_tasks at_record words_ahead
    tasks_there zero l Tasks.none few = refl
    tasks_there (suc n) l Tasks.none few = refl
    tasks_there zero l (Tasks.more {ws = ws} {vs = vs} bytes_left due others) few = absurd (omega (arith, length-append ws vs, kernel_words due))
    tasks_there (suc n) l (Tasks.more {ws = ws} {vs = vs} bytes_left due others) few =
        record_due bytes_left n l due ∙ ap (words_ahead ws) (tasks_there n (suc l) others (omega (arith, length-append ws vs, kernel_words due)))

    wrong_there : (n : ℕ) {l k : ℕ} {s : List ℕ} → NotDue hs l s k → l + n ≡ 66 → read n l s ≡ wrong k
    unfolding words_ahead
    wrong_there zero (NotDue.this {l = l} bytes_left none_is) limit = too_far bytes_left l
    wrong_there (suc n) (NotDue.this {l = l} bytes_left none_is) limit = not_due bytes_left n l none_is
    wrong_there zero (NotDue.too_many bytes_left) limit = too_far bytes_left 66
    wrong_there (suc n) (NotDue.too_many bytes_left) limit = absurd (omega arith)
    wrong_there zero (NotDue.later below bytes_left due others) limit = absurd (omega arith)
    wrong_there (suc n) (NotDue.later {l = l} {ws = ws} below bytes_left due others) limit =
        record_due bytes_left n l due ∙ ap (words_ahead ws) (wrong_there n others (omega arith))

    pub tasks_exact : (s ws : List ℕ) → (read_tasks (length hs) (columns_of hs) 64 2 s ≡ tasks ws) ↔ (Tasks hs s ws × (length ws ≤ 256))
    tasks_exact s ws = (λ e. subst (Gives 64 2 s) e (gives 64 2 s refl), λ g. tasks_there 64 2 g.0 g.1)

    pub wrong_exact : (s : List ℕ) (l : ℕ) → (read_tasks (length hs) (columns_of hs) 64 2 s ≡ wrong l) ↔ NotDue hs 2 s l
    wrong_exact s l = (λ e. subst (Gives 64 2 s) e (gives 64 2 s refl), λ g. wrong_there 64 g refl)

-- THE SHEET
module _ (s : List ℕ) where
  header_good : {hs : List (List ℕ)} {after : List ℕ} → Header s hs after → good_header hs ≡ true
  header_good {hs} H = (header_exact hs).1 (H.execution, H.deadline, H.period, H.release)

  pub header_of : {hs : List (List ℕ)} {after : List ℕ} → read_record s ≡ fields hs after → good_header hs ≡ true → Header s hs after
  header_of {hs} {after} e good =
      let names = (header_exact hs).0 good in
      record { begins = (record_exact s hs after).0 e; execution = names.0; deadline = names.1; period = names.2; release = names.3 }

  -- what a sheet gives under its header
  under_header_law : {hs : List (List ℕ)} {after : List ℕ} → Header s hs after → read_sheet s ≡ read_tasks (length hs) (columns_of hs) 64 2 after
  unfolding read_sheet under_header
  under_header_law {hs} {after} H = rw ((record_exact s hs after).1 H.begins, header_good H)

  -- what is read, in the paper's words
  abbrev Told : Sheet → Type 0
  Told (tasks ws) = (hs : List (List ℕ)) × (after : List ℕ) × Header s hs after × Tasks hs after ws × (length ws ≤ 256)
  Told (wrong l) = (hs : List (List ℕ)) × (after : List ℕ) × Header s hs after × NotDue hs 2 after l
  Told no_header = (hs : List (List ℕ)) (after : List ℕ) → Header s hs after → ⊥

  told : Told (read_sheet s)
  unfolding read_sheet under_header
  told = by_record (read_record s) refl
    where
      by_names : (hs : List (List ℕ)) (after : List ℕ) → read_record s ≡ fields hs after → (t : Bool) → good_header hs ≡ t
          → Told (if t then read_tasks (length hs) (columns_of hs) 64 2 after else no_header)
      by_names hs after e true good = by_tasks (read_tasks (length hs) (columns_of hs) 64 2 after) (gives hs good 64 2 after refl)
        where
          by_tasks : (x : Sheet) → Gives hs 64 2 after x → Told x
          by_tasks (tasks ws) g = (hs, after, header_of e good, g.0, g.1)
          by_tasks (wrong l) g = (hs, after, header_of e good, g)
          by_tasks no_header g = absurd g
      by_names hs after e false bad = λ names rest H.
          let read = (record_exact s names rest).1 H.begins in
          let same : hs ≡ names = cc in
          true_is_not_false (sym (header_good H) ∙ ap good_header (sym same) ∙ bad)

      by_record : (r : Record) → read_record s ≡ r → Told (under_header r)
      by_record (fields hs after) e = by_names hs after e (good_header hs) refl
      by_record no_record e = λ hs after H.
          let read = (record_exact s hs after).1 H.begins in
          impossible cc

  pub sheet_none : (read_sheet s ≡ no_header) ↔ ((hs : List (List ℕ)) (after : List ℕ) → Header s hs after → ⊥)
  sheet_none = (λ e. subst Told e told, λ none_is. by_sheet none_is (read_sheet s) told)
    where
      by_sheet : ((hs : List (List ℕ)) (after : List ℕ) → Header s hs after → ⊥) → (x : Sheet) → Told x → x ≡ no_header
      by_sheet none_is (tasks ws) t = absurd (none_is t.0 t.1 t.2)
      by_sheet none_is (wrong l) t = absurd (none_is t.0 t.1 t.2)
      by_sheet none_is no_header t = refl

  pub sheet_wrong : (l : ℕ) → (read_sheet s ≡ wrong l) ↔ ((hs : List (List ℕ)) × (after : List ℕ) × Header s hs after × NotDue hs 2 after l)
  sheet_wrong l = (
    λ e. subst Told e told,
    λ t. under_header_law t.2 ∙ (wrong_exact t.0 (header_good t.2) t.1 l).1 t.3,
  )

  pub sheet_tasks : (ws : List ℕ)
      → (read_sheet s ≡ tasks ws) ↔ ((hs : List (List ℕ)) × (after : List ℕ) × Header s hs after × Tasks hs after ws × (length ws ≤ 256))
  sheet_tasks ws = (
    λ e. subst Told e told,
    λ t. under_header_law t.2 ∙ (tasks_exact t.0 (header_good t.2) t.1 ws).1 (t.3, t.4),
  )

  -- four words a task
  pub sheet_fours : (ws : List ℕ) → read_sheet s ≡ tasks ws → length ws ≡ 4 * (length ws / 4)
  sheet_fours ws e = let t = (sheet_tasks ws).0 e in omega (arith, tasks_fours t.3)
