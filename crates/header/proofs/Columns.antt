-- The fields of a header one after another: which of the four names have come, and in which columns.
use mathlib.Core.Path.{◌≡◌, refl, sym, ap, ◌∙◌}
use borrow.Author.Tests.{ne_eqb}
use Prim.Native.Nat.{ℕ, zero, suc, ◌+◌, ◌<◌}
use native.Mathlib.Omega.{arith}
use mathlib.Core.List.{List, [], ◌∷◌, ◌++◌}
use mathlib.Core.Bool.{Bool, true, false, not, ◌&&◌}
use lib.Dec.{eqb}
use Rattle.std.proofs.lemmas.List.{get_or-map, length-map}
use lib.ListN.{length, get_or}
use Rattle.rules.specs.Sheet.{name_of, is_name, times, column_from, good_header, columns_of, read_sheet, no_header}
use Rattle.rules.specs.Sheets.{doubled}
use Rattle.rules.proofs.Records.{name_standing}
use Rattle.rules.proofs.HeaderSteps.{first_more, once_more, twice_more, once_named, good_by, columns_are, columns_four, columns_within, no_record_law, bad_header, not_both, name_twice}
use Rattle.header.specs.Within.{Within}
use Rattle.header.specs.Headers.{Column, Noted, IsNoted, IsTwice, Notes, Good, good, HeadsOne}
use Rattle.header.specs.declared.Named.{Named}
use Rattle.field.specs.Takers.{TakesOn, Taken, Refused, none_there, not_due}
use Rattle.std.specs.Prelude.{Option, Some, None, map, if◌then◌else◌}

column_there : (noted : Option ℕ) (k : ℕ) → Column noted k → (noted ≡ None → ⊥) → k ≡ 0 → ⊥
column_there (Some n) k c some e = omega (arith, c.1)
column_there None k c some e = some refl

-- one field more
module _ (cs : List (List ℕ)) (columns : List (Option ℕ)) (so_far : Noted cs columns) (c : List ℕ) (exit : List (Option ℕ)) where
  module _ (says : Notes (doubled c) (length cs + 1) columns (Some tt) exit) where
    -- a name that it is has no column yet
    new : (k : ℕ) → k < 4 → is_name (name_of k) c ≡ true → column_from 1 (name_of k) cs ≡ 0
    new k h is = rw (says.new refl k h (name_standing k c ∙ is)) at (so_far.each k h)

    column_more : (k : ℕ) → k < 4 → Column (if is_name (name_of k) c then Some (length cs + 1) else get_or columns k None) (if is_name (name_of k) c then length cs + 1 else column_from 1 (name_of k) cs)
    column_more k h = by_name (is_name (name_of k) c)
      where
        by_name : (b : Bool) → Column (if b then Some (length cs + 1) else get_or columns k None) (if b then length cs + 1 else column_from 1 (name_of k) cs)
        by_name true = (refl, omega arith)
        by_name false = so_far.each k h

    noted_more : Noted (cs ++ (c ∷ [])) exit
    noted_more = record {
      four = says.four ∙ so_far.four;
      each = λ k h. rw (says.notes refl k h, name_standing k c, first_more (name_of k) cs (so_far.once k h) c (new k h)) (column_more k h);
      once = λ k h. once_more (name_of k) cs (so_far.once k h) c (new k h);
    }

  noted_twice : Notes (doubled c) (length cs + 1) columns None exit → (k : ℕ) × (k < 4) × (1 < times (name_of k) (cs ++ (c ∷ [])))
  noted_twice says =
      let found = says.twice refl in
      let k = found.0 in
      (k, found.1, twice_more (name_of k) cs c (sym (name_standing k c) ∙ found.2) (column_there (get_or columns k None) (column_from 1 (name_of k) cs) (so_far.each k found.1) found.3))

and_false : (b : Bool) → (b && false) ≡ false
and_false true = refl
and_false false = refl

-- of four tests one fails
any_fails : (test : ℕ → Bool) (k : ℕ) → k < 4 → test k ≡ false → (test 0 && (test 1 && (test 2 && test 3))) ≡ false
any_fails test zero h e = rw e
any_fails test (suc zero) h e = rw (e, and_false (test 0))
any_fails test (suc (suc zero)) h e = rw (e, and_false (test 1), and_false (test 0))
any_fails test (suc (suc (suc zero))) h e = rw (e, and_false (test 2), and_false (test 1), and_false (test 0))
any_fails test (suc (suc (suc (suc k)))) h e = absurd (omega arith)

-- all fields are read
module _ (hs : List (List ℕ)) (noted : List (Option ℕ)) (all : Noted hs noted) where
  good_by_columns : good_header hs ≡ (not (eqb (column_from 1 (name_of 0) hs) 0) && (not (eqb (column_from 1 (name_of 1) hs) 0) && (not (eqb (column_from 1 (name_of 2) hs) 0) && not (eqb (column_from 1 (name_of 3) hs) 0))))
  good_by_columns = good_by hs (λ k. not (eqb (column_from 1 (name_of k) hs) 0)) (λ k h. once_named (name_of k) hs (all.once k h))

  -- a name has no column
  missing_is : (k : ℕ) → k < 4 → get_or noted k None ≡ None → good_header hs ≡ false
  missing_is k h e =
      let none : column_from 1 (name_of k) hs ≡ 0 = rw e at (all.each k h) in
      good_by_columns ∙ any_fails (λ k. not (eqb (column_from 1 (name_of k) hs) 0)) k h (rw none)

  -- all have one
  module _ (columns : List ℕ) (are : noted ≡ map Some columns) where
    long : length columns ≡ 4
    long = sym (length-map columns Some) ∙ sym (ap length are) ∙ all.four

    column : (k : ℕ) → k < 4 → (get_or columns k 0 ≡ column_from 1 (name_of k) hs) × (0 < column_from 1 (name_of k) hs)
    column k h =
        let at : get_or noted k None ≡ Some (get_or columns k 0) = ap (λ (l : List (Option ℕ)). get_or l k None) are ∙ get_or-map Some columns k 0 None (omega (arith, long)) in
        rw at at (all.each k h)

    good_is : good_header hs ≡ true
    good_is = good_by hs (λ k. true) (λ k h. once_named (name_of k) hs (all.once k h) ∙ ap not (ne_eqb (column_from 1 (name_of k) hs) 0 (omega (arith, (column k h).1))))

    columns_noted : columns ≡ columns_of hs
    columns_noted = columns_are hs columns long (λ k h. (column k h).0)

-- what noting a name does is what is asked of what takes a record's fields
pub takes : (body : List ℕ) (n : ℕ) (old new : Named) (answer : Option (Unit {0})) → Notes body n old.columns answer new.columns
    → TakesOn (λ (start : Named) (cs : List (List ℕ)) (now : Named). IsNoted start.columns cs now.columns) (λ (start : Named) (cs : List (List ℕ)). IsTwice start.columns cs) body n old new answer
takes body n old new (Some u) notes = record {
  says = λ start cs c before standing counts fresh. noted_more cs old.columns (before fresh) c new.columns (rw counts at (rw standing at notes));
}
takes body n old new None notes = record {
  says = λ start cs c before standing counts fresh. noted_twice cs old.columns (before fresh) c new.columns (rw counts at (rw standing at notes));
}

-- a record of which no field was noted before
module _ (s : List ℕ) (start : List (Option ℕ)) (fresh : start ≡ None ∷ None ∷ None ∷ None ∷ []) where
  -- it is none, or a name comes twice in it
  pub headless : Refused (λ (x : Named) (cs : List (List ℕ)). IsTwice x.columns cs) s (record { columns = start }) → read_sheet s ≡ no_header
  headless (none_there e) = no_record_law s e
  headless (not_due cs left e twice) = let found = twice fresh in name_twice s cs left e found.0 found.1 found.2

  module _ {now : Named} {n : ℕ} {rest : List ℕ} (t : Taken (λ (x : Named) (cs : List (List ℕ)) (y : Named). IsNoted x.columns cs y.columns) s (record { columns = start }) now n rest) where
    -- a name has no column
    pub headed_bad : (k : ℕ) → k < 4 → get_or now.columns k None ≡ None → read_sheet s ≡ no_header
    headed_bad k h e = bad_header s t.contents rest t.reads (missing_is t.contents now.columns (t.holds fresh) k h e)

    -- all have one
    pub headed_good : (columns : List ℕ) → now.columns ≡ map Some columns → Good s columns n rest
    headed_good columns e =
        rw (t.counts, columns_noted t.contents now.columns (t.holds fresh) columns e) (good t.reads (good_is t.contents now.columns (t.holds fresh) columns e))

-- the columns of a good header are among those that it has
pub good_within : {s columns after : List ℕ} {count : ℕ} → Good s columns count after → Within columns count
good_within (good {hs} e named) = record {
  four = columns_four hs;
  from_one = λ k h. (columns_within hs named k h).0;
  to_last = λ k h. (columns_within hs named k h).1;
}

-- one outcome: no header is both good and bad, and a good one is one record's
one_good : (s columns others after rest : List ℕ) (m n : ℕ) → Good s columns m after → Good s others n rest
    → ◌≡◌ {A = Option (List ℕ × ℕ × List ℕ)} (Some (columns, m, after)) (Some (others, n, rest))
one_good s columns others after rest m n (good {hs} e g) (good {hs = gs} f h) =
    let same : hs ≡ gs = cc in
    let left : after ≡ rest = cc in
    rw (same, left)

never : (s columns after : List ℕ) (m : ℕ) → Good s columns m after → read_sheet s ≡ no_header → ⊥
never s columns after m (good {hs} e g) f = not_both s hs after e g f

pub heads_one : HeadsOne
heads_one s (Some h) (Some i) a b = one_good s h.columns i.columns h.rest.now i.rest.now h.count i.count a b
heads_one s (Some h) None a b = absurd (never s h.columns h.rest.now h.count a b)
heads_one s None (Some i) a b = absurd (never s i.columns i.rest.now i.count b a)
heads_one s None None a b = refl
