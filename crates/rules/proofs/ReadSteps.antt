-- One step of each definition that reads, at bytes known by their first one.
use mathlib.Core.Path.{◌≡◌, refl}
use Prim.Native.Nat.{ℕ, zero, suc, ◌+◌, ◌-◌, ◌*◌, ◌≤◌, ◌<◌}
use native.Mathlib.Nat.{not-suc-le-zero}
use native.Mathlib.Numerals.{add-one}
use native.Mathlib.Omega.{arith}
use mathlib.Core.List.{List, [], ◌∷◌}
use mathlib.Core.Bool.{true, false}
use lib.Dec.{leb}
use lib.ListN.{length, drop, get_or, drop_of_length-le}
use lib.Seq.{drop-cons}
use borrow.Author.Tests.{eq-eqb, ne_eqb, le-leb, lt-leb, leb-true}
use Rattle.rules.specs.Text.{got, bad, after_key, digit, more_digits, read_number, line_end, number_line, read_line}
use Rattle.std.specs.Prelude.{Some, None}
use Rattle.std.proofs.lemmas.Bool.{and_parts}
use Rattle.std.proofs.lemmas.List.{nil_from_length}

-- the first byte, and the others
pub first_of : (s : List ℕ) → 0 < length s → s ≡ get_or s 0 0 ∷ drop 1 s
first_of [] p = absurd (not-suc-le-zero p)
first_of (b ∷ s) p = refl

-- a key, of which i bytes are passed
module _ (key t : List ℕ) (i : ℕ) where
  pub key_end : length key ≤ i → after_key (drop i key) t ≡ Some t
  unfolding after_key
  key_end h = rw (drop_of_length-le key h)

  module _ (h : i < length key) where
    open_key : drop i key ≡ get_or key i 0 ∷ drop (i + 1) key
    open_key = rw (add-one, drop-cons key i 0)

    pub key_step : 0 < length t → get_or t 0 0 ≡ get_or key i 0 → after_key (drop i key) t ≡ after_key (drop (i + 1) key) (drop 1 t)
    unfolding after_key
    key_step p e = rw (open_key, first_of t p, eq-eqb (get_or t 0 0) (get_or key i 0) e)

-- a digit
module _ (b : ℕ) where
  pub below_digits : b < 48 → digit b ≡ false
  unfolding digit
  below_digits h = rw (lt-leb 48 b h)

  pub above_digits : 57 < b → digit b ≡ false
  unfolding digit
  above_digits h = rw (le-leb 48 b (omega arith), lt-leb b 57 h)

  pub a_digit : 48 ≤ b → b ≤ 57 → digit b ≡ true
  unfolding digit
  a_digit l h = rw (le-leb 48 b l, le-leb b 57 h)

  pub digit_range : digit b ≡ true → (48 ≤ b) × (b ≤ 57)
  unfolding digit
  digit_range e =
      let f = and_parts (leb 48 b) (leb b 57) e in
      (leb-true 48 b f.0, leb-true b 57 f.1)

-- digits after those that make v, of which n may still come
module _ (v : ℕ) (t : List ℕ) where
  pub more_end : (n : ℕ) → n ≡ 0 → more_digits n v t ≡ got v t
  unfolding more_digits
  more_end n e = rw e

  pub more_none : (n : ℕ) → length t ≡ 0 → more_digits n v t ≡ got v t
  unfolding more_digits
  more_none zero e = refl
  more_none (suc n) e = rw (nil_from_length t e)

  module _ (p : 0 < length t) where
    pub more_other : (n : ℕ) → digit (get_or t 0 0) ≡ false → more_digits n v t ≡ got v t
    unfolding more_digits
    more_other zero e = refl
    more_other (suc n) e = rw (first_of t p, e)

    pub more_step : (n : ℕ) → 0 < n → digit (get_or t 0 0) ≡ true → more_digits n v t ≡ more_digits (n - 1) (v * 10 + (get_or t 0 0 - 48)) (drop 1 t)
    unfolding more_digits
    more_step zero h e = absurd (not-suc-le-zero h)
    more_step (suc n) h e = let k : suc n - 1 ≡ n = omega arith in rw (first_of t p, e, k)

-- a number
module _ (t : List ℕ) where
  pub number_none : length t ≡ 0 → read_number t ≡ bad
  unfolding read_number
  number_none e = rw (nil_from_length t e)

  module _ (p : 0 < length t) where
    pub number_wrong : digit (get_or t 0 0) ≡ false → read_number t ≡ bad
    unfolding read_number
    number_wrong e = rw (first_of t p, e)

    pub number_zero : get_or t 0 0 ≡ 48 → read_number t ≡ got 0 (drop 1 t)
    unfolding read_number
    number_zero e = rw (first_of t p, a_digit (get_or t 0 0) (omega arith) (omega arith), eq-eqb (get_or t 0 0) 48 e)

    pub number_more : digit (get_or t 0 0) ≡ true → (get_or t 0 0 ≡ 48 → ⊥) → read_number t ≡ more_digits 4 (get_or t 0 0 - 48) (drop 1 t)
    unfolding read_number
    number_more e n = rw (first_of t p, e, ne_eqb (get_or t 0 0) 48 n)

-- the end of a line
pub end_bad : line_end bad ≡ bad
unfolding line_end
end_bad = refl

module _ (v : ℕ) (t : List ℕ) where
  pub end_none : length t ≡ 0 → line_end (got v t) ≡ bad
  unfolding line_end
  end_none e = rw (nil_from_length t e)

  pub end_wrong : 0 < length t → (get_or t 0 0 ≡ 10 → ⊥) → line_end (got v t) ≡ bad
  unfolding line_end
  end_wrong p n = rw (first_of t p, ne_eqb (get_or t 0 0) 10 n)

  pub end_right : 0 < length t → get_or t 0 0 ≡ 10 → line_end (got v t) ≡ got v (drop 1 t)
  unfolding line_end
  end_right p e = rw (first_of t p, eq-eqb (get_or t 0 0) 10 e)

-- a line, by what stands after its key
module _ (key s : List ℕ) where
  pub line_no_key : after_key key s ≡ None → read_line key s ≡ bad
  unfolding read_line number_line
  line_no_key e = rw e

  pub line_after_key : (a : List ℕ) → after_key key s ≡ Some a → read_line key s ≡ line_end (read_number a)
  unfolding read_line number_line
  line_after_key a e = rw e
