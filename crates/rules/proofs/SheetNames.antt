-- A sheet's names, header and numbers are the paper's: the tests say what its words say, both ways. A content is a name byte for byte; a name that is
-- counted once has one column, and it is the one that is found; a header is good where the four names come once each; a number is a field's whole content.
use Rattle.std.specs.Prelude.{if◌then◌else◌, Option, Some, None}
use mathlib.Core.Path.{◌≡◌, refl, sym, ap, ◌∙◌}
use Prim.Native.Nat.{ℕ, zero, suc, ◌+◌, ◌<◌}
use native.Mathlib.Omega.{arith}
use mathlib.Core.Logic.{◌↔◌}
use mathlib.Core.List.{List, [], ◌∷◌, append-nil}
use mathlib.Core.Bool.{Bool, true, false, ◌&&◌}
use lib.Dec.{eqb}
use lib.ListN.{length, get_or}
use borrow.Author.Tests.{eq-eqb, eqb-true}
use Rattle.rules.specs.Text.{bytes, Read, got, bad, after_key, read_number, digits}
use Rattle.rules.specs.Sheet.{name_of, none_left, is_name, times, column_from, good_header, whole, field_number}
use Rattle.rules.specs.Sheets.{Once}
use Rattle.rules.proofs.Booleans.{impossible, true_is_not_false}
use Rattle.rules.proofs.ReadSteps.{more_none}
use Rattle.rules.proofs.LineTrips.{number_back, number_stops, key_there, key_back}
use Rattle.std.proofs.lemmas.Bool.{and_parts, and_from}

-- NAMES
pub name_exact : (name h : List ℕ) → (is_name name h ≡ true) ↔ (h ≡ name)
unfolding is_name
name_exact name h = (
  λ e. by_left (after_key name h) refl e,
  λ e. ap (λ (c : List ℕ). none_left (after_key name c)) (e ∙ sym (append-nil name)) ∙ ap none_left (key_there name []),
)
  where
    by_left : (left : Option (List ℕ)) → after_key name h ≡ left → none_left left ≡ true → h ≡ name
    by_left (Some []) k e = key_back name h [] k ∙ append-nil name
    by_left (Some (b ∷ s)) k e = true_is_not_false (sym e)
    by_left None k e = true_is_not_false (sym e)

-- and no name where it is another
name_other : (name h : List ℕ) → (h ≡ name → ⊥) → is_name name h ≡ false
name_other name h other = by_test (is_name name h) refl
  where
    by_test : (t : Bool) → is_name name h ≡ t → is_name name h ≡ false
    by_test true e = absurd (other ((name_exact name h).0 e))
    by_test false e = e

module _ (name : List ℕ) where
  -- no column has the name; column i has it, and no other
  abbrev Nowhere : List (List ℕ) → Type 0
  Nowhere hs = (j : ℕ) → j < length hs → get_or hs j [] ≡ name → ⊥

  abbrev Alone : ℕ → List (List ℕ) → Type 0
  Alone i hs = (j : ℕ) → j < length hs → get_or hs j [] ≡ name → j ≡ i

  none_counted : (hs : List (List ℕ)) → Nowhere hs → times name hs ≡ 0
  unfolding times
  none_counted [] nowhere = refl
  none_counted (h ∷ hs) nowhere =
      rw (name_other name h (nowhere 0 (omega arith)), none_counted hs (λ j l e. nowhere (suc j) (omega arith) e))

  counted_none : (hs : List (List ℕ)) → times name hs ≡ 0 → Nowhere hs
  unfolding times
  counted_none [] n j l e = omega arith
  counted_none (h ∷ hs) n zero l e = let here : 1 + times name hs ≡ 0 = rw ((name_exact name h).1 e) at n in omega arith
  counted_none (h ∷ hs) n (suc j) l e = counted_none hs (omega arith) j (omega arith) e

  -- the name of column i alone is counted once, and its column is found
  alone_counted : (hs : List (List ℕ)) (k i : ℕ) → i < length hs → get_or hs i [] ≡ name → Alone i hs
      → (times name hs ≡ 1) × (column_from k name hs ≡ k + i)
  unfolding times column_from
  alone_counted [] k i l e alone = absurd (omega arith)
  alone_counted (h ∷ hs) k zero l e alone =
      let none_after = none_counted hs (λ j m f. omega (arith, alone (suc j) (omega arith) f)) in
      rw ((name_exact name h).1 e, none_after) (refl, omega arith)
  alone_counted (h ∷ hs) k (suc i) l e alone =
      let other = name_other name h (λ f. omega (arith, alone 0 (omega arith) f)) in
      let later = alone_counted hs (suc k) i (omega arith) e (λ j m f. omega (arith, alone (suc j) (omega arith) f)) in
      rw other (omega arith, omega arith)

  counted_once : (hs : List (List ℕ)) → times name hs ≡ 1 → Once name hs
  unfolding times
  counted_once [] n = absurd (omega arith)
  counted_once (h ∷ hs) n = by_name (is_name name h) refl n (counted_once hs)
    where
      by_name : (t : Bool) → is_name name h ≡ t → (if t then 1 else 0) + times name hs ≡ 1 → (times name hs ≡ 1 → Once name hs) → Once name (h ∷ hs)
      by_name true is n later = record { place = 0; there = omega arith; has = (name_exact name h).0 is; alone = alone }
        where
          alone : Alone 0 (h ∷ hs)
          alone zero l e = refl
          alone (suc j) l e = absurd (counted_none hs (omega arith) j (omega arith) e)
      by_name false is n later =
          let o = later (omega arith) in
          record { place = suc o.place; there = omega (arith, o.there); has = o.has; alone = alone o }
        where
          alone : (o : Once name hs) → Alone (suc o.place) (h ∷ hs)
          alone o zero l e = true_is_not_false (sym ((name_exact name h).1 e) ∙ is)
          alone o (suc j) l e = ap suc (o.alone j (omega arith) e)

  pub once_exact : (hs : List (List ℕ)) → (times name hs ≡ 1) ↔ Once name hs
  once_exact hs = (counted_once hs, λ o. (alone_counted hs 1 o.place o.there o.has o.alone).0)

  pub column_is : (hs : List (List ℕ)) (o : Once name hs) → column_from 1 name hs ≡ suc o.place
  column_is hs o = (alone_counted hs 1 o.place o.there o.has o.alone).1 ∙ omega arith

-- THE HEADER
pub header_exact : (hs : List (List ℕ))
    → (good_header hs ≡ true) ↔ (Once (bytes "execution") hs × Once (bytes "deadline") hs × Once (bytes "period") hs × Once (bytes "release") hs)
unfolding good_header
header_exact hs = (
  λ good.
      let first = and_parts (counted 0) (counted 1 && (counted 2 && counted 3)) good in
      let second = and_parts (counted 1) (counted 2 && counted 3) first.1 in
      let third = and_parts (counted 2) (counted 3) second.1 in
      (once 0 first.0, once 1 second.0, once 2 third.0, once 3 third.1),
  λ names.
      and_from
      (counted 0)
      (counted 1 && (counted 2 && counted 3))
      (one 0 names.0)
      (and_from (counted 1) (counted 2 && counted 3) (one 1 names.1) (and_from (counted 2) (counted 3) (one 2 names.2) (one 3 names.3))),
)
  where
    counted : ℕ → Bool
    counted k = eqb (times (name_of k) hs) 1

    once : (k : ℕ) → counted k ≡ true → Once (name_of k) hs
    once k e = (once_exact (name_of k) hs).0 (eqb-true (times (name_of k) hs) 1 e)

    one : (k : ℕ) → Once (name_of k) hs → counted k ≡ true
    one k o = eq-eqb (times (name_of k) hs) 1 ((once_exact (name_of k) hs).1 o)

-- NUMBERS
pub number_exact : (c : List ℕ) (v : ℕ) → (field_number c ≡ Some v) ↔ ((v < 100000) × (c ≡ digits v))
unfolding field_number whole
number_exact c v = (λ e. by_read (read_number c) refl e, λ p. there p.0 p.1)
  where
    by_read : (r : Read) → read_number c ≡ r → whole r ≡ Some v → (v < 100000) × (c ≡ digits v)
    by_read (got w []) n e =
        let was = number_back c w [] n in
        let same : w ≡ v = cc in
        (omega (arith, was.small), was.text ∙ append-nil (digits w) ∙ ap digits same)
    by_read (got w (b ∷ s)) n e = impossible cc
    by_read bad n e = impossible cc

    there : v < 100000 → c ≡ digits v → whole (read_number c) ≡ Some v
    there l e =
        ap (λ (s : List ℕ). whole (read_number s)) (e ∙ sym (append-nil (digits v))) ∙ ap whole (number_stops v [] l (λ n. more_none v [] n refl))
