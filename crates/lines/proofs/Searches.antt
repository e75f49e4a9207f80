-- What the calls on one line lean on, beside the laws of the definitions that read; and that each promise leaves one outcome.
use Rattle.std.proofs.Common.{◌≡◌, ℕ, ◌+◌, ◌-◌, ◌*◌, ◌^◌, ◌<◌, List, [], ◌∷◌, length, drop, get_or, Some, None, add-one, refl, arith}
use Rattle.std.proofs.lemmas.List.{drop_more, nil_from_length}
use borrow.Author.Tests.{eq-eqb, ne_eqb}
use Rattle.rules.specs.Text.{got, bad, after_key, more_digits, line_end}
use Rattle.rules.proofs.Booleans.{impossible}
use Rattle.rules.proofs.LineTrips.{key_there, key_back}
use Rattle.rules.proofs.ReadSteps.{more_other, more_step, end_none, end_wrong, end_right}
use Rattle.lines.specs.Line.{NoDigit, IsValueOf, SkipsOne, FindsOne}

-- a key of which i bytes are passed, by the next byte
module _ (key : List ℕ) (i : ℕ) (h : i < length key) where
  key_left : drop i key ≡ get_or key i 0 ∷ drop (i + 1) key
  key_left = drop_more key i 0 h

  pub key_none : (s : List ℕ) → length s ≡ 0 → after_key (drop i key) s ≡ None
  unfolding after_key
  key_none s e = rw (key_left, nil_from_length s e)

  module _ {s : List ℕ} {b : ℕ} {rest : List ℕ} (e : s ≡ b ∷ rest) where
    pub key_other : (b ≡ get_or key i 0 → ⊥) → after_key (drop i key) s ≡ None
    unfolding after_key
    key_other n = rw (key_left, e, ne_eqb b (get_or key i 0) n)

    pub key_next : b ≡ get_or key i 0 → after_key (drop i key) s ≡ after_key (drop (i + 1) key) rest
    unfolding after_key
    key_next same = rw (key_left, e, eq-eqb b (get_or key i 0) same)

-- byte 10 after a number, as a key
pub no_end : (v : ℕ) (t : List ℕ) → after_key (10 ∷ []) t ≡ None → line_end (got v t) ≡ bad
no_end v [] e = end_none v [] refl
no_end v (b ∷ u) e =
    end_wrong v (b ∷ u) (omega arith) (λ (ten : b ≡ 10). let there : after_key (10 ∷ []) (b ∷ u) ≡ Some u = rw ten (key_there (10 ∷ []) u) in impossible cc)

pub line_ends : (v : ℕ) (t rest : List ℕ) → after_key (10 ∷ []) t ≡ Some rest → line_end (got v t) ≡ got v rest
line_ends v t rest e = rw (key_back (10 ∷ []) t rest e) (end_right v (10 ∷ rest) (omega arith) refl)

-- the digits after those that make v, by the next byte
module _ (n v : ℕ) {s : List ℕ} {b : ℕ} {rest : List ℕ} (e : s ≡ b ∷ rest) where
  pub no_digit_next : NoDigit b → more_digits n v s ≡ got v s
  no_digit_next h = rw e (more_other v (b ∷ rest) (omega arith) n h)

  pub digit_next : {d : ℕ} (m : ℕ) → IsValueOf b d → n ≡ m + 1 → more_digits n v s ≡ more_digits m (v * 10 + d) rest
  digit_next m h p = let one_less : n - 1 ≡ m = omega arith in rw (e, h.1, ← one_less) (more_step v (b ∷ rest) (omega arith) n (omega arith) h.0)

-- what is read is below 10 to the number of digits
pub room_step : (n v d : ℕ) → v < 10 ^ (n + 1) → d < 10 → v * 10 + d < 10 ^ (n + 1 + 1)
room_step n v d l m = rw (add-one (n + 1)) (omega arith)

-- one outcome each
pub skips_one : SkipsOne
skips_one key s None None x y = refl
skips_one key s None (Some q) x y = impossible cc
skips_one key s (Some r) None x y = impossible cc
skips_one key s (Some r) (Some q) x y = cc

pub finds_one : FindsOne
finds_one due None None x y = refl
finds_one due None (Some q) x y = impossible cc
finds_one due (Some r) None x y = impossible cc
finds_one due (Some r) (Some q) x y = cc
