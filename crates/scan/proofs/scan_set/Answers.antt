-- `scan::scan_set` meets its contract: the first line is not as due, and the scan stops at line 1; or the set is what the lines of so many tasks are.
use Rattle.std.proofs.Common.{◌≡◌, ℕ, ◌*◌, ◌∙◌, ◌≤◌, ◌<◌, ◌⊎◌, List, length, take, drop, inl, inr, true, false, refl, sym, ap, arith, Some}
use Rattle.std.specs.declared.ops.RangeInclusive.{RangeInclusive}
use Rattle.std.specs.Range.{range_inclusive_contains, range_inclusive_start, range_inclusive_end, range_inclusive_exhausted}
use Rattle.std.specs.Ordering.{nat_cmp}
use Rattle.std.proofs.Math.Seq.{length-take-le, take_at}
use Rattle.std.proofs.lemmas.Bool.Decides.{nat_tests}
use Rattle.std.proofs.lemmas.Result.{err_from_is_err_and}
use Rattle.rules.specs.Numbers.{task_most, table_most}
use Rattle.rules.specs.Text.{got, tasks_key, read_line, read_lines, read_set, took}
use Rattle.rules.proofs.ReadSets.{no_first, no_task, too_many, some_tasks}
use Rattle.scan.proofs.scan_set.Goals as goal

-- what a test of a range tells
module _ (r : RangeInclusive ℕ) (n a b : ℕ) (s : range_inclusive_start r ≡ a) (e : range_inclusive_end r ≡ b) (x : range_inclusive_exhausted r ≡ false) where
  within : true ≡ range_inclusive_contains (λ (x y : ℕ). Some (nat_cmp x y)) r n → (a ≤ n) × (n ≤ b)
  within t = grind (arith, nat_tests)

  outside : false ≡ range_inclusive_contains (λ (x y : ℕ). Some (nat_cmp x y)) r n → (n < a) ⊎ (b < n)
  outside t = grind (arith, nat_tests)

-- the first line is not as due
pub returns-in_default : goal.returns-in_default
returns-in_default c = record { line = 1; says = no_first _ c.in_default.ensures; refuses = refl }

-- a set of n tasks is what its lines are, one for each of the words that are lent for them
lines_due : (text words after : List ℕ) (n : ℕ) → read_line tasks_key text ≡ got n after → (1 ≤ n) × (n ≤ task_most) → table_most ≤ length words
    → read_set text ≡ read_lines (length (take (4 * n) words)) 0 after
lines_due text words after n e some room =
    let long : length (take (4 * n) words) ≡ 4 * n = length-take-le (4 * n) words (omega arith) in
    some_tasks text n after e some.0 some.1 ∙ ap (λ (m : ℕ). read_lines m 0 after) (sym long)

-- no task, or too many
pub returns-then-not-contains : goal.returns-then-not-contains
returns-then-not-contains c =
    let new = c.new.ensures in
    let n = c.in-Some.n in
    let other : (n < 1) ⊎ (task_most < n) = outside c.new.result n _ _ new.start new.end new.exhausted c.if-not-contains.ensures.value in
    record {
      line = 1;
      says =
          elim other [
            | inl few ↦ no_task _ n _ c.in-Some.ensures few
            | inr many ↦ too_many _ n _ c.in-Some.ensures (omega arith) many
          ];
      refuses = refl;
    }

-- a line of the tasks is not as due
pub returns-in_err-rest : goal.returns-in_err-rest
returns-in_err-rest c =
    let new = c.new.ensures in
    let n = c.in-Some.n in
    let some : (1 ≤ n) × (n ≤ task_most) = within c.new.result n _ _ new.start new.end new.exhausted c.if-not-contains.ensures.value in
    let refused = err_from_is_err_and c.from_residual.result c.from_residual.ensures.1 in
    let stops = c.in_err-rest.ensures in
    rw (refused.1, refused.2) (record {
      line = stops.line;
      says = lines_due _ _ _ n c.in-Some.ensures some c.requires ∙ stops.says;
      refuses = stops.refuses;
    })

-- the lines of the tasks
pub returns : goal.returns
returns c =
    let new = c.new.ensures in
    let n = c.in-Some.n in
    let some : (1 ≤ n) × (n ≤ task_most) = within c.new.result n _ _ new.start new.end new.exhausted c.if-not-contains.ensures.value in
    let words = c.task_lines.new.words in
    let as_long : length words ≡ 4 * n = c.task_lines.auto.words ∙ length-take-le (4 * n) c.args.words.now (omega arith) in
    record {
      says =
          lines_due _ _ _ n c.in-Some.ensures some c.requires
          ∙ c.in_ok-rest.ensures
          ∙ ap (λ (l : List ℕ). took l c.in_ok-rest.rest.now) (sym (take_at words (drop (4 * n) c.args.words.now) (4 * n) as_long));
      few = some.1;
    }
