-- How the promise on all records is met, by what reading them gives; and that the promises on records leave one outcome each.
use mathlib.Core.Path.{◌≡◌, refl, sym, ap, ◌∙◌}
use Prim.Native.Nat.{ℕ, ◌*◌, ◌≤◌}
use native.Mathlib.Omega.{arith}
use mathlib.Core.List.{List}
use lib.ListN.{length, take}
use lib.Seq.{length-take-le}
use Rattle.std.specs.Prelude.{Option, Some, None, Result, Ok, Err}
use Rattle.rules.specs.Numbers.{task_most}
use Rattle.rules.specs.Sheet.{Sheet, row, no_row, tasks, wrong, read_tasks}
use Rattle.rules.specs.declared.Refusal.{Refusal}
use Rattle.rules.specs.declared.Refusal.TheVariants.{BadRecord}
use Rattle.rules.proofs.Booleans.{impossible}
use Rattle.kernel.specs.Kernels.{Said, whole, stopped, Reads, TakesOne, answered, ReadsOne}

module _ {s columns words : List ℕ} {count : ℕ} (long : length words ≡ 4 * task_most) where
  -- a record is not as due
  pub stops : {l : ℕ} → read_tasks count columns task_most 2 s ≡ wrong l → Reads s columns count (Err (BadRecord l)) words
  stops e = record { long = long; said = rw e stopped }

module _ {s columns words : List ℕ} {count n : ℕ} (within : n ≤ task_most) (long : length words ≡ 4 * task_most) where
  -- all are read
  pub all_read : read_tasks count columns task_most 2 s ≡ tasks (take (4 * n) words) → Reads s columns count (Ok n) words
  all_read e = record { long = long; said = rw e (whole within) }

-- one outcome
one_row : (ws vs r q : List ℕ) → row ws r ≡ row vs q → ◌≡◌ {A = Option (List ℕ × List ℕ)} (Some (ws, r)) (Some (vs, q))
one_row ws vs r q e = cc

never : (ws r : List ℕ) → row ws r ≡ no_row → ⊥
never ws r e = impossible cc

pub takes_one : TakesOne
takes_one s columns count (Some k) (Some i) x y = one_row k.words i.words k.rest.now i.rest.now (sym x ∙ y)
takes_one s columns count (Some k) None x y = absurd (never k.words k.rest.now (sym x ∙ y))
takes_one s columns count None (Some i) x y = absurd (never i.words i.rest.now (sym y ∙ x))
takes_one s columns count None None x y = refl

one_said : (a b : Result ℕ Refusal) (ws vs : List ℕ) (r q : Sheet) → length ws ≡ 4 * task_most → length vs ≡ 4 * task_most
    → Said ws a r → Said vs b q → r ≡ q → (a ≡ b) × (answered a ws ≡ answered b vs)
one_said a b ws vs r q l m (whole {n} h) (whole {n = k} i) e =
    let same : take (4 * n) ws ≡ take (4 * k) vs = cc in
    let counts : n ≡ k = omega (arith, length-take-le (4 * n) ws (omega arith), length-take-le (4 * k) vs (omega arith), ap length same) in
    (ap Ok counts, same)
one_said a b ws vs r q l m (whole h) stopped e = impossible cc
one_said a b ws vs r q l m stopped (whole i) e = impossible cc
one_said a b ws vs r q l m (stopped {l = x}) (stopped {l = y}) e = let same : x ≡ y = cc in (ap (λ (i : ℕ). Err (BadRecord i)) same, refl)

pub reads_one : ReadsOne
reads_one s columns count a b ws vs x y = one_said a b ws vs _ _ x.long y.long x.said y.said refl
