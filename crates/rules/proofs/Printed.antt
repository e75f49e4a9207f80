-- What the program prints: the lines for a set, what is left after it, and the sets one after the other.
use mathlib.Core.Path.{◌≡◌, refl, ap, ◌∙◌}
use Prim.Native.Nat.{ℕ, suc, ◌-◌, ◌≤◌, ◌<◌}
use native.Mathlib.Omega.{arith}
use mathlib.Core.List.{List, [], ◌∷◌, ◌++◌, append-nil}
use lib.ListN.{length, drop, length-append, drop_of_length-le}
use lib.Seq.{drop_at}
use borrow.Author.Tests.{eq-eqb, ne_eqb, lt-ltb, le-ltb}
use Rattle.rules.specs.Numbers.{input_most}
use Rattle.rules.specs.Text.{Lines, took, stop, bytes, digits, line, read_set, write_set}
use Rattle.rules.specs.Answers.{first_answer}
use Rattle.rules.specs.Report.{answer_lines, set_lines, set_rest, sets_lines, output}
use Rattle.rules.proofs.SetTrips.{set_back}

-- the lines for a set
pub lines_are : (n : ℕ) (text : List ℕ) → set_lines n text ≡ line (bytes "set=") (digits n) ++ answer_lines (first_answer text)
unfolding set_lines
lines_are n text = refl

module _ (text : List ℕ) where
  -- what is left after a set that was read
  pub rest_read : (ws rest : List ℕ) → read_set text ≡ took ws rest → set_rest text ≡ rest
  unfolding set_rest
  rest_read ws rest e = rw e

  -- and after a 7
  pub rest_stops : (l : ℕ) → read_set text ≡ stop l → set_rest text ≡ []
  unfolding set_rest
  rest_stops l e = rw e

  -- it is the end of the text
  pub rest_end : drop (length text - length (set_rest text)) text ≡ set_rest text
  rest_end = by_set (read_set text) refl
    where
      by_set : (k : Lines) → read_set text ≡ k → drop (length text - length (set_rest text)) text ≡ set_rest text
      by_set (took ws rest) e =
          let s = (set_back text ws rest e).text in
          let n : length (write_set ws) ≡ length text - length rest = omega (arith, ap length s, length-append (write_set ws) rest) in
          rw (rest_read ws rest e) (ap (drop (length text - length rest)) s ∙ drop_at (write_set ws) rest (length text - length rest) n)
      by_set (stop l) e = rw (rest_stops l e) (drop_of_length-le text {i = length text - 0} (omega arith))

-- the sets from number n on, with one more to come at most k + 1 times
module _ (k n : ℕ) (text : List ℕ) where
  -- the last
  pub sets_last : length (set_rest text) ≡ 0 → sets_lines (suc k) n text ≡ set_lines n text
  unfolding sets_lines
  sets_last e = rw (eq-eqb _ 0 e) (append-nil (set_lines n text))

  -- one, and those after it
  pub sets_more : 0 < length (set_rest text) → sets_lines (suc k) n text ≡ set_lines n text ++ sets_lines k (suc n) (set_rest text)
  unfolding sets_lines
  sets_more h = rw (ne_eqb (length (set_rest text)) 0 (λ e. omega arith))

-- THE PROGRAM
module _ (input : List ℕ) where
  -- an input that is too long
  pub output_long : input_most < length input → output input ≡ bytes "toolong" ++ (10 ∷ [])
  unfolding output
  output_long h = rw (lt-ltb _ _ h)

  -- else its sets
  pub output_sets : length input ≤ input_most → output input ≡ sets_lines (suc (length input)) 1 input
  unfolding output
  output_sets h = rw (le-ltb _ _ h)
