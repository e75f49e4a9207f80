-- The program prints, set after set, the lines that the paper has for what is told of each.
use mathlib.Core.Path.{◌≡◌, refl, sym, ap, subst, ◌∙◌}
use mathlib.Core.Logic.{◌↔◌}
use Prim.Native.Nat.{ℕ, zero, suc, ◌≤◌, ◌<◌}
use native.Mathlib.Omega.{arith}
use native.Mathlib.Decide.{dec_lt}
use mathlib.Core.List.{List, [], ◌∷◌, ◌++◌}
use lib.ListN.{length}
use Rattle.rules.specs.Task.{tasks_of}
use Rattle.rules.specs.Table.{table_refusal}
use Rattle.rules.specs.Told.{Told, verdict_told, judged_told}
use Rattle.rules.specs.Demand.{verdict}
use Rattle.rules.specs.Text.{Lines, took, stop, bytes, digits, line, read_set}
use Rattle.rules.specs.Answers.{verdict_answer, first_answer}
use Rattle.rules.specs.Report.{verdict_lines, answer_lines, set_lines, set_rest, sets_lines, output}
use Rattle.rules.specs.declared.Refusal.{Refusal}
use Rattle.rules.specs.declared.Verdict.{Verdict}
use Rattle.rules.proofs.Refused.{TableSays, no_word, not_fours, too_many, out_of_range_law, table_says}
use Rattle.rules.proofs.Calls.{verdict_refused, verdict_judged, first_stops, first_read}
use Rattle.rules.proofs.SetTrips.{set_back}
use Rattle.rules.proofs.Printed.{lines_are, sets_last, sets_more, output_sets}
use Rattle.rules.proofs.Lengths.{rest_fewer}
use Rattle.promises.specs.Tables.{FirstTells, Prints, Run}
use Rattle.promises.proofs.Judged.{first_tells}
use Rattle.std.specs.Prelude.{Option, Some, None}
use Rattle.std.proofs.lemmas.List.{nil_from_length}

-- the lines of a verdict
judged_prints : (v : Verdict) → Prints (judged_told v) (verdict_lines v)
judged_prints (Verdict.Meets σ) = Prints.meets
judged_prints (Verdict.Misses L (Some b) over) = Prints.misses
judged_prints (Verdict.Misses L None over) = Prints.misses_alone
judged_prints Verdict.TooFar = Prints.too_far

-- the lines of the first set
first_prints : (text : List ℕ) → Prints (verdict_told (first_answer text)) (answer_lines (first_answer text))
first_prints text = go (read_set text) refl
  where
    by_table : (ws after : List ℕ) → read_set text ≡ took ws after → (o : Option Refusal) → table_refusal ws ≡ o → TableSays ws o
        → Prints (verdict_told (verdict_answer ws)) (answer_lines (verdict_answer ws))
    by_table ws after e None f x = rw (verdict_judged ws f) (judged_prints (verdict (tasks_of ws)))
    by_table ws after e (Some r) f (no_word a) = let s = set_back text ws after e in absurd (omega arith)
    by_table ws after e (Some r) f (not_fours a b) = let s = set_back text ws after e in absurd (b (omega arith))
    by_table ws after e (Some r) f (too_many a b c) = let s = set_back text ws after e in absurd (omega arith)
    by_table ws after e (Some r) f (out_of_range_law a b c y) = rw (verdict_refused ws r f) Prints.four

    go : (x : Lines) → read_set text ≡ x → Prints (verdict_told (first_answer text)) (answer_lines (first_answer text))
    go (stop l) e = rw (first_stops text l e) Prints.seven
    go (took ws after) e = rw (first_read text ws after e) (by_table ws after e (table_refusal ws) refl ((table_says ws (table_refusal ws)).0 refl))

-- what is told has one kind of lines
prints_once : (t : Told) (ls ms : List ℕ) → Prints t ls → Prints t ms → ls ≡ ms
prints_once t ls ms Prints.meets Prints.meets = refl
prints_once t ls ms Prints.misses Prints.misses = refl
prints_once t ls ms Prints.misses_alone Prints.misses_alone = refl
prints_once t ls ms Prints.too_far Prints.too_far = refl
prints_once t ls ms Prints.four Prints.four = refl
prints_once t ls ms Prints.seven Prints.seven = refl

-- a set's lines are those of what is told of it
set_lines_law : (n : ℕ) (text : List ℕ) (t : Told) (ls : List ℕ) → FirstTells text t → Prints t ls → line (bytes "set=") (digits n) ++ ls ≡ set_lines n text
set_lines_law n text t ls x p =
    let told : verdict_told (first_answer text) ≡ t = (first_tells text t).1 x in
    let same = prints_once t ls (answer_lines (first_answer text)) p (rw told at (first_prints text)) in
    rw same (sym (lines_are n text))

some_left : (l : List ℕ) → (l ≡ [] → ⊥) → 0 < length l
some_left [] n = absurd (n refl)
some_left (b ∷ l) n = omega arith

-- the sets of a text, with one more to come than it has bytes, are a run: each set that leaves something takes some of them
module _ (n : ℕ) (text : List ℕ) where
  abbrev said : FirstTells text (verdict_told (first_answer text))
  said = (first_tells text (verdict_told (first_answer text))).0 refl

  last_run : length (set_rest text) ≡ 0 → Run n text (set_lines n text)
  last_run e = rw (lines_are n text) (Run.last said (first_prints text) (nil_from_length (set_rest text) e))

  more_run : 0 < length (set_rest text) → (printed : List ℕ) → Run (suc n) (set_rest text) printed → Run n text (set_lines n text ++ printed)
  more_run h printed r = rw (lines_are n text) (Run.more said (first_prints text) (λ e. let z = ap length e in omega arith) r)

runs : (k n : ℕ) (text : List ℕ) → length text ≤ k → Run n text (sets_lines (suc k) n text)
runs zero n text h = go (dec_lt 0 (length (set_rest text)))
  where
    go : Dec (0 < length (set_rest text)) → Run n text (sets_lines 1 n text)
    go (no x) = let e : length (set_rest text) ≡ 0 = omega arith in rw (sets_last 0 n text e) (last_run n text e)
    go (yes x) = let f = rest_fewer text x in absurd (omega arith)
runs (suc k) n text h = go (dec_lt 0 (length (set_rest text))) (runs k (suc n) (set_rest text))
  where
    go : Dec (0 < length (set_rest text)) → (length (set_rest text) ≤ k → Run (suc n) (set_rest text) (sets_lines (suc k) (suc n) (set_rest text)))
        → Run n text (sets_lines (suc (suc k)) n text)
    go (no x) later = let e : length (set_rest text) ≡ 0 = omega arith in rw (sets_last (suc k) n text e) (last_run n text e)
    go (yes x) later =
        let f = rest_fewer text x in
        rw (sets_more (suc k) n text x) (more_run n text x (sets_lines (suc k) (suc n) (set_rest text)) (later (omega arith)))

-- and a run prints nothing else
run_once : {n : ℕ} {text printed : List ℕ} → Run n text printed → (k : ℕ) → length text ≤ k → sets_lines (suc k) n text ≡ printed
run_once (Run.last {n = n} {text = text} {ls = ls} {t = t} x p e) k h =
    sets_last k n text (ap length e) ∙ sym (set_lines_law n text t ls x p)
run_once (Run.more {n = n} {text = text} {ls = ls} {printed = printed} {t = t} x p e r) zero h =
    let l = some_left (set_rest text) e in let f = rest_fewer text l in absurd (omega arith)
run_once (Run.more {n = n} {text = text} {ls = ls} {printed = printed} {t = t} x p e r) (suc k) h =
    let l = some_left (set_rest text) e in
    let f = rest_fewer text l in
    let rest = run_once r k (omega arith) in
    sets_more (suc k) n text l ∙ rw (rest, set_lines_law n text t ls x p)

pub prints : (input printed : List ℕ) → length input ≤ 32768 → (output input ≡ printed) ↔ Run 1 input printed
prints input printed h =
    let all = output_sets input h in (
      λ e. subst (Run 1 input) (sym all ∙ e) (runs (length input) 1 input (omega arith)),
      λ r. all ∙ run_once r (length input) (omega arith),
    )
