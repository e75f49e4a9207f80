-- One turn of the run over the sets: what stands at the start of the lent bytes, with the lines of the sets still to read, is the program's output.
use mathlib.Core.Path.{◌≡◌, refl, sym, ap, ap₂, ◌∙◌}
use Prim.Native.Nat.{ℕ, suc, ◌+◌, ◌-◌, ◌*◌, ◌≤◌, ◌<◌}
use native.Mathlib.Numerals.{add-one}
use native.Mathlib.Omega.{arith}
use mathlib.Core.List.{List, [], ◌∷◌, ◌++◌, append_assoc}
use lib.ListN.{length, take, drop, length-append, length-drop}
use lib.Seq.{drop-drop}
use Rattle.rules.specs.Numbers.{input_most}
use Rattle.rules.specs.Text.{bytes}
use Rattle.rules.specs.Report.{set_lines, set_rest, sets_lines, output}
use Rattle.rules.specs.Calls.{Reports}
use Rattle.rules.proofs.Slices.{part, lent_end, end_back}
use Rattle.rules.proofs.Calls.{report_lines}
use Rattle.rules.proofs.Printed.{rest_end, sets_last, sets_more, output_long, output_sets}
use Rattle.rules.proofs.Lengths.{rest_fewer, lines_most}
use Rattle.print.specs.Place.{Puts}
use Rattle.output.specs.Output.{output_most, Outputs}
use Rattle.std.specs.Prelude.{Result, Ok}
use Rattle.rules.specs.declared.Refusal.{Refusal}
use Rattle.rules.specs.declared.Reported.{Reported}

-- an input that is too long: its one line stands at the start
pub too_long : (input old : List ℕ) {size : ℕ} {exit : List ℕ} → input_most < length input → Puts old 0 (bytes "toolong" ++ (10 ∷ [])) size exit → Outputs input old size exit
too_long input old h p =
    let e = output_long input h in
    record { says = p.says ∙ ap length (sym e); leaves = p.leaves ∙ ap (λ (l : List ℕ). l ++ drop (length l) old) (sym e) }

-- the lines of the sets before number stand at the start of out, and text is left to read
pub record SoFar (input old out : List ℕ) (number : ℕ) (text : List ℕ) (at : ℕ) : Type 0 where
  pub lines : List ℕ
  pub many : length lines ≡ at
  pub stands : out ≡ lines ++ drop at old
  pub same : length out ≡ length old
  -- with those of the sets that are left they make up the output
  pub due : lines ++ sets_lines (length input + 2 - number) number text ≡ output input
  -- and each set took 24 bytes at least, and got 83 at most
  pub first : 1 ≤ number
  pub taken : 24 * number + length text ≤ length input + 24
  pub printed : at + 83 ≤ 83 * number

pub at_first : (input old : List ℕ) → length input ≤ input_most → SoFar input old old 1 input 0
at_first input old h =
    let k : length input + 2 - 1 ≡ suc (length input) = omega arith in
    record {
      lines = [];
      many = refl;
      stands = refl;
      same = refl;
      due = rw k (sym (output_sets input h));
      first = omega arith;
      taken = omega arith;
      printed = omega arith;
    }

module _ (input old out : List ℕ) (number : ℕ) (text : List ℕ) (at : ℕ) (so_far : SoFar input old out number text at) (whole : length input ≤ input_most) (room : output_most ≤ length old) where
  -- there is room for one set's lines more
  pub fits : at + 83 ≤ length old
  fits = omega (arith, so_far.first, so_far.taken, so_far.printed)

  -- so the report is not refused
  module _ (answer : Result Reported Refusal) (exit : List ℕ) (reports : Reports number text (take (length out - at) (drop at out)) answer exit) where
    reported : Reports number text (drop at old) answer exit
    reported = rw (lent_end so_far.lines (drop at old) out at so_far.many so_far.stands) at reports

    due_report : Reports number text (drop at old) (Ok (record { length = length (set_lines number text); left = length (set_rest text) })) (set_lines number text ++ drop (length (set_lines number text)) (drop at old))
    due_report = report_lines number text (drop at old) (omega (arith, lines_most number text, length-drop at old, fits))

    pub answers : answer ≡ Ok (record { length = length (set_lines number text); left = length (set_rest text) })
    answers = reported.says ∙ sym due_report.says

    -- its lines stand after the others
    module _ (told : Reported) (e : answer ≡ Ok told) where
      told_is : told ≡ record { length = length (set_lines number text); left = length (set_rest text) }
      told_is = let f = sym e ∙ answers in cc

      size_is : told.length ≡ length (set_lines number text)
      size_is = ap (λ (t : Reported). t.length) told_is

      rest_is : told.left ≡ length (set_rest text)
      rest_is = ap (λ (t : Reported). t.left) told_is

      pub size_most : told.length ≤ 83
      size_most = omega (arith, size_is, lines_most number text)

      pub rest_less : 0 < told.left → told.left < length text
      rest_less h = omega (arith, rest_is, rest_fewer text (omega (arith, rest_is)))

      -- and so the next text is shorter
      pub next_shorter : 0 < told.left → length (take (length text - (length text - told.left)) (drop (length text - told.left) text)) < length text
      next_shorter h = rw (part (length text - told.left) text) (omega (arith, length-drop (length text - told.left) text, rest_less h))

      abbrev pub lines : List ℕ
      lines = so_far.lines ++ set_lines number text

      many : length lines ≡ at + told.length
      many = omega (arith, length-append so_far.lines (set_lines number text), so_far.many, size_is)

      stands : take at out ++ (exit ++ drop (length out - at) (drop at out)) ≡ lines ++ drop (at + told.length) old
      stands =
          end_back so_far.lines (drop at old) out at so_far.many so_far.stands exit
          ∙ ap (λ (l : List ℕ). so_far.lines ++ l) (reported.leaves ∙ sym due_report.leaves)
          ∙ ap (λ (k : ℕ). so_far.lines ++ (set_lines number text ++ drop k (drop at old))) (sym size_is)
          ∙ ap (λ (l : List ℕ). so_far.lines ++ (set_lines number text ++ l)) (drop-drop told.length at old)
          ∙ sym (append_assoc so_far.lines (set_lines number text) (drop (at + told.length) old))

      fuel : length input + 2 - number ≡ suc (length input + 2 - (number + 1))
      fuel = omega (arith, so_far.first, so_far.taken)

      -- nothing is left: that is the output
      pub at_last : told.left ≡ 0 → Outputs input old (at + told.length) (take at out ++ (exit ++ drop (length out - at) (drop at out)))
      at_last z =
          let one = sets_last (length input + 2 - (number + 1)) number text (sym rest_is ∙ z) in
          let all : lines ≡ output input =
          ap (λ (l : List ℕ). so_far.lines ++ l) (sym one ∙ ap (λ (k : ℕ). sets_lines k number text) (sym fuel)) ∙ so_far.due
          in
          let n : at + told.length ≡ length (output input) = sym many ∙ ap length all in
          record { says = n; leaves = stands ∙ ap₂ (λ (l : List ℕ) (k : ℕ). l ++ drop k old) all n }

      -- something is left: the next turn
      pub at_next : 0 < told.left
          → SoFar input old (take at out ++ (exit ++ drop (length out - at) (drop at out))) (number + 1)
          (take (length text - (length text - told.left)) (drop (length text - told.left) text)) (at + told.length)
      at_next h =
          rw (part (length text - told.left) text)
          (let fewer = rest_fewer text (omega (arith, rest_is)) in
          let next : drop (length text - told.left) text ≡ set_rest text = ap (λ (k : ℕ). drop (length text - k) text) rest_is ∙ rest_end text in
          let more = sets_more (length input + 2 - (number + 1)) number text (omega (arith, rest_is)) in
          record {
            lines = lines;
            many = many;
            stands = stands;
            same = omega (arith, ap length stands, length-append lines (drop (at + told.length) old), length-drop (at + told.length) old, many, size_most, fits);
            due =
                append_assoc so_far.lines (set_lines number text) (sets_lines (length input + 2 - (number + 1)) (number + 1) (drop (length text - told.left) text))
                ∙ ap (λ (l : List ℕ). so_far.lines ++ l)
                (ap₂ (λ (n : ℕ) (t : List ℕ). set_lines number text ++ sets_lines (length input + 2 - (number + 1)) n t) (add-one number) next
                ∙ sym more
                ∙ ap (λ (j : ℕ). sets_lines j number text) (sym fuel))
                ∙ so_far.due;
            first = omega (arith, so_far.first);
            taken = omega (arith, so_far.taken, rest_is, fewer, ap length next);
            printed = omega (arith, so_far.printed, size_most);
          })
