-- Refusals 1 to 4 are given exactly when document 01's table says.
use Rattle.std.specs.Prelude.{if◌then◌else◌, Option, Some, None}
use mathlib.Core.Path.{◌≡◌, refl, sym, ap, subst, ◌∙◌}
use mathlib.Core.Logic.{◌↔◌}
use Prim.Native.Nat.{ℕ, zero, suc, ◌+◌, ◌%◌, ◌≤◌, ◌<◌}
use native.Mathlib.Nat.{add-zero, zero-add}
use native.Mathlib.Omega.{arith}
use native.Mathlib.Decide.{dec_lt}
use mathlib.Core.List.{List, [], ◌∷◌}
use mathlib.Core.Bool.{Bool, true, false, not}
use lib.Dec.{leb, ltb, eqb}
use lib.ListN.{length, get_or}
use borrow.Author.Tests.{leb-true, ltb-true, ltb-false, eqb-true, eqb-false, le-leb, lt-ltb, le-ltb, eq-eqb, ne_eqb}
use Rattle.rules.specs.Refusals.{◌when◌, first_of}
use Rattle.rules.specs.Numbers.{table_most, word_most}
use Rattle.rules.specs.Table.{word_least, in_range, out_of_range, table_refusal, Ranged, FirstOut, Fine}
use Rattle.rules.specs.declared.Refusal.{Refusal}
use Rattle.rules.specs.declared.Refusal.TheVariants.{NoWord, NotFours, TooManyWords, OutOfRange}
use Rattle.rules.proofs.Booleans.{true_is_not_false}
use Rattle.std.proofs.lemmas.Bool.{and_parts, and_from}

range_true : (i x : ℕ) → in_range i x ≡ true → Ranged i x
unfolding in_range word_least
range_true i x e =
    let b = and_parts (leb (word_least i) x) (leb x word_most) e in
    record { low = λ h. leb-true 1 x (rw (ne_eqb (i % 4) 3 (omega arith)) at b.0); high = leb-true _ _ b.1 }

true_range : (i x : ℕ) → Ranged i x → in_range i x ≡ true
unfolding in_range word_least
true_range i x r = and_from (leb (word_least i) x) (leb x word_most) (go (eqb (i % 4) 3) refl) (le-leb _ _ r.high)
  where
    go : (b : Bool) → eqb (i % 4) 3 ≡ b → leb (if b then 0 else 1) x ≡ true
    go true e = le-leb 0 x (omega arith)
    go false e = let n = eqb-false (i % 4) 3 e in le-leb 1 x (r.low (omega arith))

-- of the words from index k on, that at place i is the first out of its range
record Out (k : ℕ) (w : List ℕ) (i : ℕ) : Type 0 where
  known : i < length w
  out : Ranged (k + i) (get_or w i 0) → ⊥
  before : (l : ℕ) → l < i → Ranged (k + l) (get_or w l 0)

data Found (k : ℕ) (w : List ℕ) : Option Refusal → Type 0 where
  all : ((i : ℕ) → i < length w → Ranged (k + i) (get_or w i 0)) → Found k w None
  at : (i : ℕ) → Out k w i → Found k w (Some (OutOfRange (k + i)))

-- one word more
module _ (k x : ℕ) (w : List ℕ) where
  all_cons : (n : ℕ) → Ranged k x → ((i : ℕ) → i < n → Ranged (suc k + i) (get_or w i 0)) → (i : ℕ) → i < suc n → Ranged (k + i) (get_or (x ∷ w) i 0)
  all_cons n r f zero h = rw add-zero r
  all_cons n r f (suc i) h = let e : suc k + i ≡ k + suc i = omega arith in subst (λ (j : ℕ). Ranged j (get_or w i 0)) e (f i (omega arith))

  found_cons : (b : Bool) → in_range k x ≡ b → (o : Option Refusal) → Found (suc k) w o → Found k (x ∷ w) (if b then o else Some (OutOfRange k))
  found_cons true e None (all f) = all (all_cons (length w) (range_true k x e) f)
  found_cons true e (Some r) (at i y) =
      let s : k + suc i ≡ suc k + i = omega arith in
      subst (λ (j : ℕ). Found k (x ∷ w) (Some (OutOfRange j))) s
      (at (suc i) (record {
        known = omega arith;
        out = subst (λ (j : ℕ). Ranged j (get_or w i 0) → ⊥) (sym s) y.out;
        before = all_cons i (range_true k x e) y.before;
      }))
  found_cons false e o y =
      subst (λ (j : ℕ). Found k (x ∷ w) (Some (OutOfRange j))) (add-zero k)
      (at 0 (record {
        known = omega arith;
        out = λ r. true_is_not_false (sym (true_range k x (rw add-zero at r)) ∙ e);
        before = λ l h. absurd (omega arith);
      }))

found : (k : ℕ) (w : List ℕ) → Found k w (out_of_range k w)
unfolding out_of_range
found k [] = all (λ i h. absurd (omega arith))
found k (x ∷ w) = found_cons k x w (in_range k x) refl (out_of_range (suc k) w) (found (suc k) w)

-- which refusal of 1 to 4 a table is given, or none, exactly when
pub data TableSays (w : List ℕ) : Option Refusal → Type 0 where
  no_word : length w ≡ 0 → TableSays w (Some NoWord)
  not_fours : (length w ≡ 0 → ⊥) → (length w % 4 ≡ 0 → ⊥) → TableSays w (Some NotFours)
  too_many : (length w ≡ 0 → ⊥) → length w % 4 ≡ 0 → 256 < length w → TableSays w (Some TooManyWords)
  out_of_range_law : {i : ℕ} → (length w ≡ 0 → ⊥) → length w % 4 ≡ 0 → length w ≤ 256 → FirstOut w i → TableSays w (Some (OutOfRange i))
  fine : Fine w → TableSays w None

-- the search from index 0 on, by the index
module _ (w : List ℕ) where
  out_of : (i : ℕ) → Out 0 w i → FirstOut w (0 + i)
  out_of i y = record {
    known = omega arith;
    out = rw zero-add (rw zero-add at y.out);
    before = λ k h. rw zero-add at (y.before k (omega arith));
  }

  is_out : (i : ℕ) → FirstOut w i → out_of_range 0 w ≡ Some (OutOfRange i)
  is_out i y = go (out_of_range 0 w) (found 0 w)
    where
      only : (j : ℕ) → Out 0 w j → Dec (j < i) → Dec (i < j) → 0 + j ≡ i
      only j z (yes l) q = absurd (z.out (rw zero-add (y.before j l)))
      only j z (no l) (yes m) = absurd (y.out (rw zero-add at (z.before i m)))
      only j z (no l) (no m) = omega arith

      go : (o : Option Refusal) → Found 0 w o → o ≡ Some (OutOfRange i)
      go None (all f) = absurd (y.out (rw zero-add at (f i y.known)))
      go (Some r) (at j z) = ap (λ (n : ℕ). Some (OutOfRange n)) (only j z (dec_lt j i) (dec_lt i j))

  all_in : ((i : ℕ) → i < length w → Ranged i (get_or w i 0)) → out_of_range 0 w ≡ None
  all_in f = go (out_of_range 0 w) (found 0 w)
    where
      go : (o : Option Refusal) → Found 0 w o → o ≡ None
      go None (all g) = refl
      go (Some r) (at j z) = absurd (z.out (rw zero-add (f j z.known)))

-- refusals 1 to 4 are given exactly when document 01 says, with the index of the first word out of its range
pub table_says : (w : List ℕ) (o : Option Refusal) → (table_refusal w ≡ o) ↔ TableSays w o
unfolding table_refusal
table_says w o = (λ e. subst (TableSays w) e (says (eqb (length w) 0) refl (eqb (length w % 4) 0) refl (ltb table_most (length w)) refl (out_of_range 0 w) (found 0 w)), is o)
  where
    says : (a : Bool) → eqb (length w) 0 ≡ a → (b : Bool) → eqb (length w % 4) 0 ≡ b → (c : Bool) → ltb table_most (length w) ≡ c
        → (r : Option Refusal) → Found 0 w r → TableSays w (first_of ((NoWord when a) ∷ (NotFours when not b) ∷ (TooManyWords when c) ∷ r ∷ []))
    says true e b f c g r x = no_word (eqb-true _ _ e)
    says false e false f c g r x = not_fours (eqb-false _ _ e) (eqb-false _ _ f)
    says false e true f true g r x = too_many (eqb-false _ _ e) (eqb-true _ _ f) (ltb-true _ _ g)
    says false e true f false g None (all x) =
        fine (record { some_word = eqb-false _ _ e; fours = eqb-true _ _ f; few = ltb-false _ _ g; ranged = λ i h. rw zero-add at (x i h) })
    says false e true f false g (Some r) (at i x) = out_of_range_law (eqb-false _ _ e) (eqb-true _ _ f) (ltb-false _ _ g) (out_of w i x)

    is : (o : Option Refusal) → TableSays w o → table_refusal w ≡ o
    is None (fine x) = rw (ne_eqb _ _ x.some_word, eq-eqb _ _ x.fours, le-ltb table_most _ x.few, all_in w x.ranged)
    is (Some r) (no_word a) = rw (eq-eqb _ _ a)
    is (Some r) (not_fours a b) = rw (ne_eqb _ _ a, ne_eqb _ _ b)
    is (Some r) (too_many a b c) = rw (ne_eqb _ _ a, eq-eqb _ _ b, lt-ltb table_most _ c)
    is (Some r) (out_of_range_law {i = i} a b c x) = rw (ne_eqb _ _ a, eq-eqb _ _ b, le-ltb table_most _ c, is_out w i x)

-- so a table that is not refused is fine, and one that is fine is not refused
pub refused_not : (w : List ℕ) → (table_refusal w ≡ None) ↔ Fine w
refused_not w = (λ e. go ((table_says w None).0 e), λ x. (table_says w None).1 (fine x))
  where
    go : TableSays w None → Fine w
    go (fine x) = x
