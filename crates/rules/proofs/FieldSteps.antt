-- One step of each definition that reads a field, or what follows one, at bytes known by their place. The content is told as it stands between
-- quotes. A walk over the bytes of a field has passed some of them where the field is they, before what is read of the others.
use Rattle.std.specs.Prelude.{if◌then◌else◌, Option, Some, None}
use mathlib.Core.Path.{◌≡◌, refl, sym, ap, ap₂, ◌∙◌}
use Prim.Native.Nat.{ℕ, ◌+◌, ◌≤◌, ◌<◌}
use native.Mathlib.Omega.{arith}
use mathlib.Core.List.{List, [], ◌∷◌, ◌++◌, append-nil, append_assoc}
use mathlib.Core.Bool.{Bool, true, false}
use lib.Dec.{eqb}
use lib.ListN.{length, take, drop, get_or, drop_of_length-le}
use lib.Seq.{drop-drop, take-add}
use borrow.Author.Tests.{eq-eqb, ne_eqb}
use Rattle.rules.specs.Text.{after_key}
use Rattle.rules.specs.Sheet.{crlf, mark, Field, content, no_field, byte, read_plain, read_quoted, read_field, after_end, more, last, no_step, last_of, followed, Step, next_field}
use Rattle.rules.specs.Sheets.{doubled}
use Rattle.rules.specs.Standing.{standing, standing_step}
use Rattle.rules.proofs.Booleans.{impossible, true_is_not_false}
use Rattle.rules.proofs.ReadSteps.{first_of}
use Rattle.rules.proofs.Records.{double_other}
use Rattle.std.proofs.lemmas.List.{nil_from_length, drop_more}

-- a mark
module _ (b : ℕ) where
  pub is_quote : b ≡ 34 → mark b ≡ true
  unfolding mark
  is_quote e = rw (eq-eqb b 34 e)

  module _ (no_quote : b ≡ 34 → ⊥) where
    pub is_comma : b ≡ 44 → mark b ≡ true
    unfolding mark
    is_comma e = rw (ne_eqb b 34 no_quote, eq-eqb b 44 e)

    module _ (no_comma : b ≡ 44 → ⊥) where
      pub is_cr : b ≡ 13 → mark b ≡ true
      unfolding mark
      is_cr e = rw (ne_eqb b 34 no_quote, ne_eqb b 44 no_comma, eq-eqb b 13 e)

      pub is_lf_or_none : (b ≡ 13 → ⊥) → mark b ≡ eqb b 10
      unfolding mark
      is_lf_or_none no_cr = rw (ne_eqb b 34 no_quote, ne_eqb b 44 no_comma, ne_eqb b 13 no_cr)

  other_than_quote : mark b ≡ false → b ≡ 34 → ⊥
  other_than_quote n e = true_is_not_false (sym (is_quote e) ∙ n)

-- bytes before a content
unfoldable prefixed : List ℕ → Field → Field
prefixed xs (content c s) = content (xs ++ c) s
prefixed xs no_field = no_field

prefixed_none : (f : Field) → prefixed [] f ≡ f
unfolding prefixed
prefixed_none (content c s) = refl
prefixed_none no_field = refl

prefixed_twice : (xs ys : List ℕ) (f : Field) → prefixed xs (prefixed ys f) ≡ prefixed (xs ++ ys) f
unfolding prefixed
prefixed_twice xs ys (content c s) = ap (λ (x : List ℕ). content x s) (sym (append_assoc xs ys c))
prefixed_twice xs ys no_field = refl

-- a byte of the content, as it stands: a quote stands twice
standing_byte : (b : ℕ) (f : Field) → (b ≡ 34 → ⊥) → standing (byte b f) ≡ prefixed (b ∷ []) (standing f)
unfolding standing byte prefixed
standing_byte b (content c s) n = ap (λ (x : List ℕ). content x s) (double_other b c n)
standing_byte b no_field n = refl

standing_quote : (f : Field) → standing (byte 34 f) ≡ prefixed (34 ∷ 34 ∷ []) (standing f)
unfolding standing byte prefixed doubled
standing_quote (content c s) = refl
standing_quote no_field = refl

-- i bytes are passed
pub Passed : (List ℕ → Field) → List ℕ → ℕ → Type 0
Passed read s i = standing (read s) ≡ prefixed (take i s) (standing (read (drop i s)))

module _ (read : List ℕ → Field) (s : List ℕ) where
  pub passed_none : Passed read s 0
  unfolding Passed
  passed_none = sym (prefixed_none (standing (read s)))

  passed_more : (i k : ℕ) → Passed read s i → Passed read (drop i s) k → Passed read s (i + k)
  unfolding Passed
  passed_more i k p q =
      p
      ∙ ap (prefixed (take i s)) q
      ∙ prefixed_twice (take i s) (take k (drop i s)) (standing (read (drop k (drop i s))))
      ∙ ap₂ (λ (x y : List ℕ). prefixed x (standing (read y))) (sym (take-add i k s)) (drop-drop k i s)

  -- what stands at the bytes that are left
  passed_all : (i : ℕ) (t : List ℕ) → Passed read s i → standing (read (drop i s)) ≡ content [] t → standing (read s) ≡ content (take i s) t
  unfolding Passed prefixed
  passed_all i t p e = p ∙ ap (prefixed (take i s)) e ∙ ap (λ (x : List ℕ). content x t) (append-nil (take i s))

  passed_nothing : (i : ℕ) → Passed read s i → standing (read (drop i s)) ≡ no_field → standing (read s) ≡ no_field
  unfolding Passed prefixed
  passed_nothing i p e = p ∙ ap (prefixed (take i s)) e

-- a plain field, of which i bytes are passed
module _ (s : List ℕ) (i : ℕ) (p : Passed read_plain s i) where
  pub plain_end : length s ≤ i → standing (read_plain s) ≡ content (take i s) (drop i s)
  unfolding read_plain standing doubled
  plain_end h = passed_all read_plain s i (drop i s) p (rw (drop_of_length-le s h))

  module _ (h : i < length s) where
    pub plain_mark : mark (get_or s i 0) ≡ true → standing (read_plain s) ≡ content (take i s) (drop i s)
    unfolding read_plain standing doubled
    plain_mark m = passed_all read_plain s i (drop i s) p (rw (drop_more s i 0 h, m))

    pub plain_step : mark (get_or s i 0) ≡ false → Passed read_plain s (i + 1)
    unfolding Passed read_plain
    plain_step n =
        passed_more read_plain s i 1 p
        (rw (drop_more s i 0 h, n) (standing_byte (get_or s i 0) (read_plain (drop (i + 1) s)) (other_than_quote (get_or s i 0) n)))

-- a quoted field after its first quote, of which i bytes are passed
module _ (s : List ℕ) (i : ℕ) (p : Passed read_quoted s i) where
  pub quoted_open : length s ≤ i → standing (read_quoted s) ≡ no_field
  unfolding read_quoted standing
  quoted_open h = passed_nothing read_quoted s i p (rw (drop_of_length-le s h))

  module _ (h : i < length s) where
    pub quoted_step : (get_or s i 0 ≡ 34 → ⊥) → Passed read_quoted s (i + 1)
    unfolding Passed read_quoted
    quoted_step n =
        passed_more read_quoted s i 1 p
        (rw (drop_more s i 0 h, ne_eqb (get_or s i 0) 34 n) (standing_byte (get_or s i 0) (read_quoted (drop (i + 1) s)) n))

    module _ (q : get_or s i 0 ≡ 34) where
      pub quoted_last : i + 1 ≡ length s → standing (read_quoted s) ≡ content (take i s) (drop (i + 1) s)
      unfolding read_quoted standing doubled
      quoted_last e =
          let end : length s ≤ i + 1 = omega arith in
          passed_all read_quoted s i (drop (i + 1) s) p (rw (drop_more s i 0 h, q, drop_of_length-le s end))

      module _ (k : i + 1 < length s) where
        pub quoted_closed : (get_or s (i + 1) 0 ≡ 34 → ⊥) → standing (read_quoted s) ≡ content (take i s) (drop (i + 1) s)
        unfolding read_quoted standing doubled
        quoted_closed n =
            passed_all read_quoted s i (drop (i + 1) s) p (rw (drop_more s i 0 h, q, drop_more s (i + 1) 0 k, ne_eqb (get_or s (i + 1) 0) 34 n))

        pub quoted_twice : get_or s (i + 1) 0 ≡ 34 → Passed read_quoted s (i + 1 + 1)
        unfolding Passed read_quoted
        quoted_twice e =
            let two : i + 2 ≡ i + 1 + 1 = omega arith in
            rw (← two)
            (passed_more read_quoted s i 2 p
            (rw (drop_more s i 0 h, q, drop_more s (i + 1) 0 k, e) (standing_quote (read_quoted (drop (i + 1 + 1) s)))))

-- a field by its first byte
module _ (s : List ℕ) where
  pub field_none : length s ≡ 0 → read_field s ≡ read_plain s
  unfolding read_field read_plain
  field_none e = rw (nil_from_length s e)

  module _ (p : 0 < length s) where
    pub field_plain : (get_or s 0 0 ≡ 34 → ⊥) → read_field s ≡ read_plain s
    unfolding read_field
    field_plain n = rw (first_of s p, ne_eqb (get_or s 0 0) 34 n)

    pub field_quoted : get_or s 0 0 ≡ 34 → read_field s ≡ read_quoted (drop 1 s)
    unfolding read_field
    field_quoted e = rw (first_of s p, eq-eqb (get_or s 0 0) 34 e)

-- the end of a record
module _ (s : List ℕ) where
  pub ends_sheet : length s ≡ 0 → after_end s ≡ Some s
  unfolding after_end
  ends_sheet e = rw (nil_from_length s e)

  module _ (p : 0 < length s) where
    pub ends_lf : get_or s 0 0 ≡ 10 → after_end s ≡ Some (drop 1 s)
    unfolding after_end
    ends_lf e = rw (first_of s p, eq-eqb (get_or s 0 0) 10 e)

    pub ends_crlf : (get_or s 0 0 ≡ 10 → ⊥) → after_end s ≡ after_key crlf s
    unfolding after_end
    ends_crlf n = rw (first_of s p, ne_eqb (get_or s 0 0) 10 n)

-- the last field of a record
module _ (c : List ℕ) where
  pub last_none : last_of c None ≡ no_step
  unfolding last_of
  last_none = refl

  pub last_some : (s : List ℕ) → last_of c (Some s) ≡ last c s
  unfolding last_of
  last_some s = refl

-- the next field, as it stands, by the field as it stands
last_standing : (c : List ℕ) (o : Option (List ℕ)) → standing_step (last_of c o) ≡ last_of (doubled c) o
unfolding standing_step last_of
last_standing c (Some s) = refl
last_standing c None = refl

followed_standing : (f : Field) → standing_step (followed f) ≡ followed (standing f)
unfolding standing_step standing followed
followed_standing no_field = refl
followed_standing (content c []) = last_standing c (after_end [])
followed_standing (content c (b ∷ s)) = by_comma (eqb b 44)
  where
    by_comma : (t : Bool) → standing_step (if t then more c s else last_of c (after_end (b ∷ s))) ≡ (if t then more (doubled c) s else last_of (doubled c) (after_end (b ∷ s)))
    by_comma true = refl
    by_comma false = last_standing c (after_end (b ∷ s))

-- and by what follows it
module _ (s : List ℕ) where
  pub next_none : no_field ≡ standing (read_field s) → standing_step (next_field s) ≡ no_step
  unfolding followed
  next_none e = followed_standing (read_field s) ∙ ap followed (sym e)

  module _ (c r : List ℕ) (e : content c r ≡ standing (read_field s)) where
    pub next_comma : 0 < length r → get_or r 0 0 ≡ 44 → standing_step (next_field s) ≡ more c (drop 1 r)
    unfolding followed
    next_comma p is = followed_standing (read_field s) ∙ ap followed (sym e) ∙ rw (first_of r p, eq-eqb (get_or r 0 0) 44 is)

    pub next_end : length r ≡ 0 → standing_step (next_field s) ≡ last_of c (after_end r)
    unfolding followed
    next_end n = followed_standing (read_field s) ∙ ap followed (sym e) ∙ rw (nil_from_length r n)

    pub next_other : 0 < length r → (get_or r 0 0 ≡ 44 → ⊥) → standing_step (next_field s) ≡ last_of c (after_end r)
    unfolding followed
    next_other p n = followed_standing (read_field s) ∙ ap followed (sym e) ∙ rw (first_of r p, ne_eqb (get_or r 0 0) 44 n)

-- what was read, by how it stands
module _ (b r : List ℕ) where
  pub stands_more : (x : Step) → more b r ≡ standing_step x → (c : List ℕ) × (x ≡ more c r) × (b ≡ doubled c)
  unfolding standing_step
  stands_more (more c s) e = (c, (cc), (cc))
  stands_more (last c s) e = impossible cc
  stands_more no_step e = impossible cc

  pub stands_last : (x : Step) → last b r ≡ standing_step x → (c : List ℕ) × (x ≡ last c r) × (b ≡ doubled c)
  unfolding standing_step
  stands_last (more c s) e = impossible cc
  stands_last (last c s) e = (c, (cc), (cc))
  stands_last no_step e = impossible cc

pub stands_none : (x : Step) → no_step ≡ standing_step x → x ≡ no_step
unfolding standing_step
stands_none (more c s) e = impossible cc
stands_none (last c s) e = impossible cc
stands_none no_step e = refl
