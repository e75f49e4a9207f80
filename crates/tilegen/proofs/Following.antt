-- A piece that follows the sets printed before it.
use Rattle.std.proofs.Common.{◌≡◌, ℕ, ◌+◌, ◌-◌, ◌≤◌, List, ◌++◌, Option, arith, sym, ap, subst, ◌∙◌}
use Rattle.std.specs.Io.KnownBytes.{Appends}
use Rattle.rules.specs.Generator.{state_after_sets, generated}
use Rattle.rules.proofs.DrawnTexts.{sets_none, sets_after, texts_none, in_pieces}
use Rattle.stdio.specs.Input.{TookBeginning}
use Rattle.std.proofs.KnownBytes.{Appends-nil, Appends-trans}
use Rattle.stdio.proofs.Known.{beginning_after, beginning_all}

-- the texts of m sets, and of n more from the state that they left
texts_after : (m n seed : ℕ) → generated (m + n) 0 seed ≡ generated m 0 seed ++ generated n m (state_after_sets m seed)
texts_after m n seed =
    let from : 0 + m ≡ m = omega arith in
    in_pieces m n 0 seed ∙ ap (λ (k : ℕ). generated m 0 seed ++ generated n k (state_after_sets m seed)) from

-- the sets below this number are printed, of so many, and the state is the one after them
pub record Printed (seed count : ℕ) (a b : Option (List ℕ)) (number state : ℕ) : Type 0 where
  pub within : number ≤ count
  pub left : state ≡ state_after_sets number seed
  pub bytes : Appends a b (generated number 0 seed)

module _ (seed count : ℕ) (a : Option (List ℕ)) where
  -- none is printed
  pub printed_none : Printed seed count a a 0 seed
  printed_none = record { within = omega arith; left = sym (sets_none seed); bytes = subst (Appends a a) (sym (texts_none 0 seed)) (Appends-nil a) }

  module _ {b : Option (List ℕ)} {number state : ℕ} (P : Printed seed count a b number state) where
    -- all of them are printed
    pub printed_all : count ≤ number → TookBeginning a b (generated count 0 seed)
    printed_all h =
        let all : number ≡ count = omega (arith, P.within) in
        beginning_all a b _ (subst (λ (k : ℕ). Appends a b (generated k 0 seed)) all P.bytes)

    module _ (c : Option (List ℕ)) (many : ℕ) where
      -- a piece more is printed
      pub printed_more : {next after : ℕ} → next ≡ number + many → next ≤ count → after ≡ state_after_sets many state → Appends b c (generated many number state)
          → Printed seed count a c next after
      printed_more e within moved more =
          let piece : Appends b c (generated many number (state_after_sets number seed)) = subst (λ (s : ℕ). Appends b c (generated many number s)) P.left more in
          record {
            within = within;
            left = moved ∙ ap (state_after_sets many) P.left ∙ sets_after number many seed ∙ ap (λ (k : ℕ). state_after_sets k seed) (sym e);
            bytes = rw (e, texts_after number many seed) (Appends-trans a b c _ _ P.bytes piece);
          }

      -- a beginning of it is printed
      pub printed_begun : number + many ≤ count → TookBeginning b c (generated many number state) → TookBeginning a c (generated count 0 seed)
      printed_begun within begun =
          let k = count - (number + many) in
          let whole : count ≡ number + (many + k) = omega arith in
          let after = state_after_sets number seed in
          let parts : generated count 0 seed ≡ generated number 0 seed ++ (generated many number after ++ generated k (number + many) (state_after_sets many after)) =
          ap (λ (i : ℕ). generated i 0 seed) whole
          ∙ texts_after number (many + k) seed
          ∙ ap (λ (l : List ℕ). generated number 0 seed ++ l) (in_pieces many k number after)
          in
          beginning_after a b c _ _ _ _ P.bytes (subst (λ (s : ℕ). TookBeginning b c (generated many number s)) P.left begun) parts
