-- A record by its next field, whatever number of fields is allowed: each field that a comma follows leaves fewer bytes, so that one field more than
-- there are bytes is never reached. And what is asked of a content, a name or a number, can be asked of it with its quotes doubled: neither has a quote.
use Rattle.std.specs.Prelude.{if◌then◌else◌, Option, Some, None}
use mathlib.Core.Path.{◌≡◌, refl, sym, ap, ◌∙◌}
use Prim.Native.Nat.{ℕ, zero, suc, ◌+◌, ◌-◌, ◌*◌, ◌≤◌, ◌<◌}
use native.Mathlib.Omega.{arith}
use mathlib.Core.List.{List, [], ◌∷◌, ◌++◌, append-nil}
use mathlib.Core.Bool.{Bool, true, false, not, ◌&&◌}
use lib.Dec.{eqb}
use lib.ListN.{length}
use borrow.Author.Tests.{eq-eqb, ne_eqb, eqb-true}
use Rattle.rules.specs.Text.{got, bad, after_key, digit, more_digits, read_number}
use Rattle.rules.specs.Sheet.{mark, Field, content, no_field, byte, read_plain, read_quoted, after_quote, read_field, after_end, Step, more, last, no_step, last_of, followed, next_field, Record, fields, no_record, before, onward, record_within, read_record, name_of, none_left, is_name, whole, field_number}
use Rattle.rules.specs.Sheets.{doubled}
use Rattle.rules.proofs.Booleans.{impossible, true_is_not_false, chosen}
use Rattle.rules.proofs.ReadSteps.{digit_range}
use Rattle.std.proofs.lemmas.Bool.{and_parts}

-- how many bytes a field leaves
left : Field → ℕ
left (content c s) = length s
left no_field = 0

left_byte : (b : ℕ) (f : Field) → left (byte b f) ≡ left f
unfolding left byte
left_byte b (content c s) = refl
left_byte b no_field = refl

-- one of two fields leaves no more than a list has
either : (t : Bool) (f g : Field) {n : ℕ} → left f ≤ n → left g ≤ n → left (if t then f else g) ≤ n
either t f g {n} h k = chosen (λ (x : Field). left x ≤ n) t h k

plain_left : (s : List ℕ) → left (read_plain s) ≤ length s
unfolding left read_plain
plain_left [] = omega arith
plain_left (b ∷ s) = either (mark b) _ _ (omega arith) (omega (arith, left_byte b (read_plain s), plain_left s))

mutual
  unfolding left read_quoted

  quoted_left : (s : List ℕ) → left (read_quoted s) ≤ length s
  quoted_left [] = omega arith
  quoted_left (b ∷ s) =
      either (eqb b 34) _ _ (omega (arith, quote_left s)) (omega (arith, left_byte b (read_quoted s), quoted_left s))

  quote_left : (s : List ℕ) → left (after_quote s) ≤ length s
  quote_left [] = omega arith
  quote_left (b ∷ s) =
      either (eqb b 34) _ _ (omega (arith, left_byte b (read_quoted s), quoted_left s)) (omega arith)

field_left : (s : List ℕ) → left (read_field s) ≤ length s
unfolding left read_field
field_left [] = omega arith
field_left (b ∷ s) = either (eqb b 34) _ _ (omega (arith, quoted_left s)) (plain_left (b ∷ s))

-- the bytes after a comma are fewer than those before the field
pub more_shorter : (s c t : List ℕ) → next_field s ≡ more c t → length t < length s
unfolding left last_of followed
more_shorter s c t e = by_field (read_field s) (field_left s) e
  where
    last_not_more : (d : List ℕ) (o : Option (List ℕ)) → last_of d o ≡ more c t → ⊥
    last_not_more d None e = impossible cc
    last_not_more d (Some r) e = impossible cc

    by_comma : (d : List ℕ) (b : ℕ) (r : List ℕ) (t' : Bool) → length r < length s
        → (if t' then more d r else last_of d (after_end (b ∷ r))) ≡ more c t → length t < length s
    by_comma d b r true h e = let f : r ≡ t = cc in omega (arith, ap length f)
    by_comma d b r false h e = absurd (last_not_more d (after_end (b ∷ r)) e)

    by_field : (f : Field) → left f ≤ length s → followed f ≡ more c t → length t < length s
    by_field no_field h e = impossible cc
    by_field (content d []) h e = absurd (last_not_more d (after_end []) e)
    by_field (content d (b ∷ r)) h e = by_comma d b r (eqb b 44) (omega arith) e

-- a number of fields that is enough gives the record
enough : (n m : ℕ) (s : List ℕ) → length s < n → length s < m → record_within n s ≡ record_within m s
unfolding record_within onward
enough zero m s h k = absurd (omega arith)
enough (suc n) zero s h k = absurd (omega arith)
enough (suc n) (suc m) s h k = by_step (next_field s) refl (enough n m)
  where
    by_step : (x : Step) → next_field s ≡ x → ((t : List ℕ) → length t < n → length t < m → record_within n t ≡ record_within m t)
        → onward x (record_within n) ≡ onward x (record_within m)
    by_step (more c t) e ih = let l = more_shorter s c t e in ap (before c) (ih t (omega arith) (omega arith))
    by_step (last c t) e ih = refl
    by_step no_step e ih = refl

-- a record by its next field
module _ (s : List ℕ) where
  pub record_more : (c t : List ℕ) → next_field s ≡ more c t → read_record s ≡ before c (read_record t)
  unfolding read_record record_within onward
  record_more c t e =
      let l = more_shorter s c t e in
      ap (λ (x : Step). onward x (record_within (length s))) e ∙ ap (before c) (enough (length s) (suc (length t)) t l (omega arith))

  pub record_last : (c t : List ℕ) → next_field s ≡ last c t → read_record s ≡ fields (c ∷ []) t
  unfolding read_record record_within onward
  record_last c t e = ap (λ (x : Step). onward x (record_within (length s))) e

  pub record_none : next_field s ≡ no_step → read_record s ≡ no_record
  unfolding read_record record_within onward
  record_none e = ap (λ (x : Step). onward x (record_within (length s))) e

-- fields before those still to read
pub befores : List (List ℕ) → Record → Record
befores [] r = r
befores (c ∷ cs) r = before c (befores cs r)

pub befores_none : (r : Record) → befores [] r ≡ r
unfolding befores
befores_none r = refl

pub befores_more : (cs : List (List ℕ)) (c : List ℕ) (r : Record) → befores cs (before c r) ≡ befores (cs ++ (c ∷ [])) r
unfolding befores
befores_more [] c r = refl
befores_more (d ∷ cs) c r = ap (before d) (befores_more cs c r)

pub befores_fields : (cs ds : List (List ℕ)) (s : List ℕ) → befores cs (fields ds s) ≡ fields (cs ++ ds) s
unfolding befores before
befores_fields [] ds s = refl
befores_fields (c ∷ cs) ds s = ap (before c) (befores_fields cs ds s)

-- where no field is left
pub befores_all : (cs : List (List ℕ)) (s : List ℕ) → befores cs (fields [] s) ≡ fields cs s
befores_all cs s = befores_fields cs [] s ∙ ap (λ (ds : List (List ℕ)). fields ds s) (append-nil cs)

pub befores_nothing : (cs : List (List ℕ)) → befores cs no_record ≡ no_record
unfolding befores before
befores_nothing [] = refl
befores_nothing (c ∷ cs) = ap (before c) (befores_nothing cs)

-- bytes with no quote among them
unfoldable quoteless : List ℕ → Bool
quoteless [] = true
quoteless (k ∷ ks) = not (eqb k 34) && quoteless ks

-- a byte that is no quote stays one byte
pub double_other : (b : ℕ) (c : List ℕ) → (b ≡ 34 → ⊥) → doubled (b ∷ c) ≡ b ∷ doubled c
unfolding doubled
double_other b c n = rw (ne_eqb b 34 n)

-- and any first byte stays the first
double_first : (b : ℕ) (c : List ℕ) → (r : List ℕ) × (doubled (b ∷ c) ≡ b ∷ r)
unfolding doubled
double_first b c = go (eqb b 34) refl
  where
    go : (t : Bool) → eqb b 34 ≡ t → (r : List ℕ) × ((if t then 34 ∷ 34 ∷ doubled c else b ∷ doubled c) ≡ b ∷ r)
    go true e = (34 ∷ doubled c, ap (λ (x : ℕ). x ∷ 34 ∷ doubled c) (sym (eqb-true b 34 e)))
    go false e = (doubled c, refl)

name_doubled : (name c : List ℕ) → quoteless name ≡ true → none_left (after_key name (doubled c)) ≡ none_left (after_key name c)
unfolding after_key quoteless doubled
name_doubled [] [] q = refl
name_doubled [] (b ∷ c) q = let f = double_first b c in ap (λ (x : List ℕ). none_left (Some x)) f.1
name_doubled (k ∷ ks) [] q = refl
name_doubled (k ∷ ks) (b ∷ c) q = by_byte (eqb b k) refl (name_doubled ks c (and_parts (not (eqb k 34)) (quoteless ks) q).1)
  where
    other : b ≡ k → b ≡ 34 → ⊥
    other same f = true_is_not_false (sym (and_parts (not (eqb k 34)) (quoteless ks) q).0 ∙ ap not (eq-eqb k 34 (sym same ∙ f)))

    by_byte : (t : Bool) → eqb b k ≡ t → none_left (after_key ks (doubled c)) ≡ none_left (after_key ks c)
        → none_left (after_key (k ∷ ks) (doubled (b ∷ c))) ≡ none_left (if t then after_key ks c else None)
    by_byte true e ih = rw (double_other b c (other (eqb-true b k e)), e) ih
    by_byte false e ih = let f = double_first b c in rw (f.1, e)

-- one of the four names, in a content with its quotes doubled
pub name_standing : (k : ℕ) (c : List ℕ) → is_name (name_of k) (doubled c) ≡ is_name (name_of k) c
unfolding is_name quoteless
name_standing zero c = name_doubled (name_of 0) c refl
name_standing (suc zero) c = name_doubled (name_of 1) c refl
name_standing (suc (suc zero)) c = name_doubled (name_of 2) c refl
name_standing (suc (suc (suc k))) c = name_doubled (name_of 3) c refl

digit_other : (b : ℕ) → digit b ≡ true → b ≡ 34 → ⊥
digit_other b e f = omega (arith, (digit_range b e).0)

more_doubled : (n v : ℕ) (c : List ℕ) → whole (more_digits n v (doubled c)) ≡ whole (more_digits n v c)
unfolding whole more_digits doubled
more_doubled zero v [] = refl
more_doubled zero v (b ∷ c) = let f = double_first b c in rw f.1
more_doubled (suc n) v [] = refl
more_doubled (suc n) v (b ∷ c) = by_digit (digit b) refl (more_doubled n (v * 10 + (b - 48)) c)
  where
    by_digit : (t : Bool) → digit b ≡ t → whole (more_digits n (v * 10 + (b - 48)) (doubled c)) ≡ whole (more_digits n (v * 10 + (b - 48)) c)
        → whole (more_digits (suc n) v (doubled (b ∷ c))) ≡ whole (if t then more_digits n (v * 10 + (b - 48)) c else got v (b ∷ c))
    by_digit true e ih = rw (double_other b c (digit_other b e), e) ih
    by_digit false e ih = let f = double_first b c in rw (f.1, e)

-- a number, in a content with its quotes doubled
pub number_standing : (c : List ℕ) → field_number (doubled c) ≡ field_number c
unfolding field_number whole read_number more_digits doubled
number_standing [] = refl
number_standing (b ∷ c) = by_digit (digit b) refl
  where
    by_nought : (t : Bool) → whole (if t then got 0 (doubled c) else more_digits 4 (b - 48) (doubled c)) ≡ whole (if t then got 0 c else more_digits 4 (b - 48) c)
    by_nought true = more_doubled 0 0 c
    by_nought false = more_doubled 4 (b - 48) c

    by_digit : (t : Bool) → digit b ≡ t
        → whole (read_number (doubled (b ∷ c))) ≡ whole (if t then (if eqb b 48 then got 0 c else more_digits 4 (b - 48) c) else bad)
    by_digit true e = rw (double_other b c (digit_other b e), e) (by_nought (eqb b 48))
    by_digit false e = let f = double_first b c in rw (f.1, e)
