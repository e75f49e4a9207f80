-- What the calls on one field lean on, beside the laws of the definitions that read; and that the promise for other crates leaves one outcome.
use mathlib.Core.Path.{◌≡◌, refl, sym, ap, ◌∙◌}
use Prim.Native.Nat.{ℕ, zero, suc, ◌+◌, ◌-◌, ◌≤◌, ◌<◌}
use native.Mathlib.Numerals.{add-one}
use native.Mathlib.Omega.{arith}
use mathlib.Core.List.{List, [], ◌∷◌}
use mathlib.Core.Bool.{Bool, true, false}
use lib.ListN.{length, take, drop, get_or}
use Rattle.std.specs.Prelude.{Option, Some, None, MatchOption, cond}
use Rattle.std.specs.Borrow.{Bor}
use Rattle.std.specs.List.{position, position_or_len}
use Rattle.std.specs.Option.{unwrap_or, option_or}
use borrow.Author.Tests.{ltb-true, ltb-false}
use lib.Dec.{ltb}
use Rattle.std.proofs.lemmas.List.{drop_more}
use Rattle.std.proofs.lemmas.List.Sums.{fails_before_first, passes_at_first}
use Rattle.rules.specs.Text.{after_key}
use Rattle.rules.specs.Sheet.{crlf, mark, content, read_plain, read_quoted, read_field, after_end, more, last, no_step, last_of, next_field}
use Rattle.rules.specs.Standing.{standing, standing_step}
use Rattle.rules.proofs.Booleans.{impossible, split}
use Rattle.rules.proofs.FieldSteps.{Passed, passed_none, plain_end, plain_mark, plain_step, quoted_open, quoted_step, quoted_last, quoted_closed, quoted_twice, field_none, field_plain, field_quoted, ends_lf, ends_crlf, next_comma, next_end, next_other, last_none, last_some}
use Rattle.rules.proofs.LineTrips.{key_back}
use Rattle.rules.proofs.ReadSteps.{key_end, key_step}
use Rattle.lines.specs.Line.{Skips}
use Rattle.field.specs.Fields.{Quoted, step_of, stepped, held, StepsOne}
use Rattle.field.specs.declared.Field.{Field}

-- a plain field ends at its first mark, or where no byte is left
module _ (s : List ℕ) where
  no_mark_before : (i : ℕ) → i ≤ length s → ((k : ℕ) → k < i → mark (get_or s k 0) ≡ false) → Passed read_plain s i
  no_mark_before zero h none = passed_none read_plain s
  no_mark_before (suc i) h none = rw (← add-one i) (plain_step s i (no_mark_before i (omega arith) (λ k l. none k (omega arith))) (omega arith) (none i (omega arith)))

  plain_length : standing (read_plain s) ≡ content (take (unwrap_or (position mark s) (length s)) s) (drop (unwrap_or (position mark s) (length s)) s)
  plain_length = by_test (ltb (position_or_len mark s) (length s)) refl
    where
      none : (k : ℕ) → k < position_or_len mark s → mark (get_or s k 0) ≡ false
      none k h = fails_before_first mark s k 0 h

      by_test : (t : Bool) → ltb (position_or_len mark s) (length s) ≡ t
          → standing (read_plain s) ≡ content (take (unwrap_or (cond t (Some (position_or_len mark s)) None) (length s)) s) (drop (unwrap_or (cond t (Some (position_or_len mark s)) None) (length s)) s)
      by_test true e =
          let h : position_or_len mark s < length s = ltb-true (position_or_len mark s) (length s) e in
          plain_mark s (position_or_len mark s) (no_mark_before (position_or_len mark s) (omega arith) none) h (passes_at_first mark s 0 h)
      by_test false e =
          let h : length s ≤ position_or_len mark s = ltb-false (position_or_len mark s) (length s) e in
          plain_end s (length s) (no_mark_before (length s) (omega arith) (λ k l. none k (omega arith))) (omega arith)

  pub plain_within : unwrap_or (position mark s) (length s) ≤ length s
  plain_within = by_test (ltb (position_or_len mark s) (length s)) refl
    where
      by_test : (t : Bool) → ltb (position_or_len mark s) (length s) ≡ t → unwrap_or (cond t (Some (position_or_len mark s)) None) (length s) ≤ length s
      by_test true e = let h : position_or_len mark s < length s = ltb-true (position_or_len mark s) (length s) e in omega arith
      by_test false e = omega arith

-- bytes that begin with one byte, or do not
module _ (b : ℕ) (s : List ℕ) where
  begins : (rest : List ℕ) → after_key (b ∷ []) s ≡ Some rest → (0 < length s) × (get_or s 0 0 ≡ b) × (drop 1 s ≡ rest)
  begins rest e = let f : s ≡ b ∷ rest = key_back (b ∷ []) s rest e in (omega (arith, ap length f), ap (λ (x : List ℕ). get_or x 0 0) f, ap (drop 1) f)

  other : after_key (b ∷ []) s ≡ None → 0 < length s → get_or s 0 0 ≡ b → ⊥
  other e p f = let k : after_key (b ∷ []) s ≡ Some (drop 1 s) = key_step (b ∷ []) s 0 (omega arith) p f ∙ key_end (b ∷ []) (drop 1 s) 1 (omega arith) in impossible cc

-- a field by its first byte
module _ (s : List ℕ) where
  pub quoted_is : (t : List ℕ) → after_key (34 ∷ []) s ≡ Some t → read_field s ≡ read_quoted t
  quoted_is t e = let f = begins 34 s t e in field_quoted s f.0 f.1 ∙ ap read_quoted f.2

  pub plain_is : after_key (34 ∷ []) s ≡ None → standing (read_field s) ≡ content (take (unwrap_or (position mark s) (length s)) s) (drop (unwrap_or (position mark s) (length s)) s)
  plain_is e = ap standing plain ∙ plain_length s
    where
      plain : read_field s ≡ read_plain s
      plain = split (length s) 0 (λ h. field_none s (omega arith)) (λ h. field_plain s h (other 34 s e h))

-- a quoted field of which some bytes are passed, and the others left
pub record Left (s rest : List ℕ) : Type 0 where
  pub passed : ℕ
  pub counts : passed + length rest ≡ length s
  pub stands : drop passed s ≡ rest
  pub reads : Passed read_quoted s passed

module _ (s : List ℕ) where
  pub all_left : Left s s
  all_left = record { passed = 0; counts = omega arith; stands = refl; reads = passed_none read_quoted s }

  pub left_open : {rest : List ℕ} → Left s rest → length rest ≡ 0 → Quoted s None
  left_open l e = quoted_open s l.passed l.reads (omega (arith, l.counts))

  length_passed : {rest : List ℕ} (l : Left s rest) → length s - length rest ≡ l.passed
  length_passed l = omega (arith, l.counts)

  -- by its next byte
  module _ {rest : List ℕ} (l : Left s rest) {b : ℕ} {after : List ℕ} (e : rest ≡ b ∷ after) where
    within : l.passed < length s
    within = omega (arith, l.counts, ap length e)

    opened : get_or s l.passed 0 ∷ drop (l.passed + 1) s ≡ b ∷ after
    opened = sym (drop_more s l.passed 0 within) ∙ l.stands ∙ e

    next_is : get_or s l.passed 0 ≡ b
    next_is = let f = opened in cc

    after_is : drop (l.passed + 1) s ≡ after
    after_is = let f = opened in cc

    pub left_other : (b ≡ 34 → ⊥) → Left s after
    left_other n = record {
      passed = l.passed + 1;
      counts = omega (arith, l.counts, ap length e);
      stands = after_is;
      reads = quoted_step s l.passed l.reads within (λ q. n (sym next_is ∙ q));
    }

    -- a quote
    module _ (q : b ≡ 34) where
      quote : get_or s l.passed 0 ≡ 34
      quote = next_is ∙ q

      pub left_last : length after ≡ 0 → Quoted s (Some (length s - length rest))
      left_last none = rw (length_passed l) (within, quoted_last s l.passed l.reads within quote (omega (arith, l.counts, ap length e)))

      -- and the byte after it
      module _ {c : ℕ} {further : List ℕ} (f : after ≡ c ∷ further) where
        second : l.passed + 1 < length s
        second = omega (arith, l.counts, ap length e, ap length f)

        opened_on : get_or s (l.passed + 1) 0 ∷ drop (l.passed + 1 + 1) s ≡ c ∷ further
        opened_on = sym (drop_more s (l.passed + 1) 0 second) ∙ after_is ∙ f

        second_is : get_or s (l.passed + 1) 0 ≡ c
        second_is = let g = opened_on in cc

        pub left_closed : (c ≡ 34 → ⊥) → Quoted s (Some (length s - length rest))
        left_closed n = rw (length_passed l) (within, quoted_closed s l.passed l.reads within quote second (λ x. n (sym second_is ∙ x)))

        pub left_twice : c ≡ 34 → Left s further
        left_twice x =
            record {
              passed = l.passed + 1 + 1;
              counts = omega (arith, l.counts, ap length e, ap length f);
              stands = let g = opened_on in cc;
              reads = quoted_twice s l.passed l.reads within quote second (second_is ∙ x);
            }

-- the end of a record by its first bytes
module _ (s : List ℕ) (some : length s ≡ 0 → ⊥) where
  after_lf : (rest : List ℕ) → after_key (10 ∷ []) s ≡ Some rest → after_end s ≡ Some rest
  after_lf rest e = let f = begins 10 s rest e in ends_lf s f.0 f.1 ∙ ap Some f.2

  after_other : after_key (10 ∷ []) s ≡ None → after_end s ≡ after_key crlf s
  after_other e = ends_crlf s (omega arith) (other 10 s e (omega arith))

  pub ends_in : (a b : Option (Bor (List ℕ))) → Skips (10 ∷ []) s a → Skips crlf s b
      → MatchOption (option_or a b) (after_end s ≡ None) (λ rest. after_end s ≡ Some rest.now)
  ends_in (Some rest) b e f = after_lf rest.now e
  ends_in None (Some rest) e f = after_other e ∙ f
  ends_in None None e f = after_other e ∙ f

-- the next field by what follows it
module _ (s c r : List ℕ) (e : standing (read_field s) ≡ content c r) where
  pub comma_is : (rest : List ℕ) → after_key (44 ∷ []) r ≡ Some rest → more c rest ≡ standing_step (next_field s)
  comma_is rest k = let f = begins 44 r rest k in ap (more c) (sym f.2) ∙ sym (next_comma s c r (sym e) f.0 f.1)

  no_comma : after_key (44 ∷ []) r ≡ None → standing_step (next_field s) ≡ last_of c (after_end r)
  no_comma k = split (length r) 0 (λ h. next_end s c r (sym e) (omega arith)) (λ h. next_other s c r (sym e) h (other 44 r k h))

  pub end_is : after_key (44 ∷ []) r ≡ None → (rest : List ℕ) → after_end r ≡ Some rest → last c rest ≡ standing_step (next_field s)
  end_is k rest f = sym (no_comma k ∙ ap (last_of c) f ∙ last_some c rest)

  pub no_end_is : after_key (44 ∷ []) r ≡ None → after_end r ≡ None → no_step ≡ standing_step (next_field s)
  no_end_is k f = sym (no_comma k ∙ ap (last_of c) f ∙ last_none c)

-- one outcome
pub steps_one : StepsOne
steps_one s a b f g = by_answers a b (f ∙ sym g)
  where
    by_last : (k l : Bool) (x y r q : List ℕ) → step_of k x r ≡ step_of l y q → ◌≡◌ {A = Option (Bool × List ℕ × List ℕ)} (Some (k, x, r)) (Some (l, y, q))
    by_last true true x y r q e = cc
    by_last false false x y r q e = cc
    by_last true false x y r q e = impossible cc
    by_last false true x y r q e = impossible cc

    one : (k : Bool) (x r : List ℕ) → (step_of k x r ≡ stepped None) → ⊥
    one true x r e = impossible cc
    one false x r e = impossible cc

    by_answers : (a b : Option Field) → stepped a ≡ stepped b → held a ≡ held b
    by_answers (Some f) (Some g) e = by_last f.last g.last f.body.now g.body.now f.rest.now g.rest.now e
    by_answers (Some f) None e = absurd (one f.last f.body.now f.rest.now e)
    by_answers None (Some g) e = absurd (one g.last g.body.now g.rest.now (sym e))
    by_answers None None e = refl
