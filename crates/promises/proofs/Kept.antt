-- Demand 3: each verdict is given exactly on its condition, and it is kept.
use mathlib.Core.Path.{◌≡◌, refl, sym, ◌∙◌}
use mathlib.Core.Logic.{◌↔◌}
use Prim.Native.Nat.{ℕ, ◌≤◌, ◌<◌}
use native.Mathlib.Omega.{arith}
use mathlib.Core.List.{List}
use mathlib.Core.Bool.{Bool, true, false}
use Rattle.rules.specs.Task.{tasks_of, AllSound}
use Rattle.rules.specs.declared.Task.{Task}
use Rattle.rules.specs.Table.{table_refusal}
use Rattle.rules.specs.Dispatch.{Job}
use Rattle.rules.specs.Jobs.{named}
use Rattle.rules.specs.Legal.{Legal}
use Rattle.rules.specs.Demand.{fails, closes, verdict}
use Rattle.rules.specs.Answers.{verdict_answer}
use Rattle.rules.specs.declared.Refusal.{Refusal}
use Rattle.rules.specs.declared.Verdict.{Verdict}
use Rattle.rules.proofs.Tables.{table_sound}
use Rattle.rules.proofs.Calls.{verdict_refused, verdict_judged}
use Rattle.rules.proofs.Verdicts.{First, misses_when, meets_when, too_far_when, steady_not_first}
use Rattle.rules.proofs.Meets.{meets}
use Rattle.rules.proofs.Misses.{misses}
use Rattle.rules.proofs.BelowTheSpan.{least_below}
use Rattle.rules.proofs.Excess.{excess_is}
use Rattle.promises.specs.Tables.{Least}
use Rattle.promises.specs.Demands.{InTime, MakesLate, Condition, Kept, KeptBy, TrueOfEveryPattern}
use Rattle.promises.specs.Sharper.{Sharper}
use Rattle.promises.proofs.Whole.{legal_whole}
use Rattle.std.specs.Prelude.{Option, Some, None}

-- the least number that passes, as the laws of the search have it
least_of : (p : ℕ → Bool) (x : ℕ) → First p x → Least p x
least_of p x f = (f.low, f.high, f.passes, f.none_before)

first_of : (p : ℕ → Bool) (x : ℕ) → Least p x → First p x
first_of p x l = record { low = l.0; high = l.1; passes = l.2; none_before = l.3 }

pub exactly : (ts : List Task) (v : Verdict) → (verdict ts ≡ v) ↔ Condition ts v
exactly ts (Verdict.Misses L b over) = (
  λ e. let h = (misses_when ts L b over).0 e in (least_of _ L h.0, h.1, h.2 ∙ excess_is ts L),
  λ h. (misses_when ts L b over).1 (first_of _ L h.0, h.1, h.2 ∙ sym (excess_is ts L)),
)
exactly ts (Verdict.Meets σ) = (
  λ e. let h = (meets_when ts σ).0 e in (h.0, least_of _ σ h.1),
  λ h. (meets_when ts σ).1 (h.0, first_of _ σ h.1),
)
exactly ts Verdict.TooFar = too_far_when ts

module _ (ts : List Task) (sound : AllSound ts) where
  pub in_time : (σ : ℕ) → 1 ≤ σ → closes σ ts ≡ true → ((L : ℕ) → 1 ≤ L → L < σ → fails L ts ≡ false) → (js : List Job) → Legal ts js → InTime js
  in_time σ pos e ok js l = record { whole = legal_whole ts sound js l; on_time = meets ts sound σ pos e ok js l }

  pub makes_late : (L : ℕ) → fails L ts ≡ true → MakesLate ts (named L ts)
  makes_late L e =
      let x = misses ts sound L e in
      record { legal = x.0; for_c = x.1; whole = legal_whole ts sound (named L ts) x.0; late_row = x.2 }

  -- a verdict that is due is kept
  kept_if : (v : Verdict) → Condition ts v → Kept ts v
  kept_if (Verdict.Meets σ) h =
      (h.1, in_time σ h.1.0 h.1.2 (λ L low below. let s = h.1.1 in h.0 L low (omega arith)))
  kept_if (Verdict.Misses L b over) h = makes_late L h.0.2
  kept_if Verdict.TooFar h = h

  pub kept : Kept ts (verdict ts)
  kept = kept_if (verdict ts) ((exactly ts (verdict ts)).0 refl)

  pub sharper : Sharper ts
  sharper = record {
    below_the_span = in_time;
    any_length = makes_late;
    least_below = least_below ts sound;
    no_growth = λ L e l. steady_not_first ts sound L e (first_of _ L l);
  }

-- so for every table
pub kept_table : (table : List ℕ) → table_refusal table ≡ None → Kept (tasks_of table) (verdict (tasks_of table))
kept_table table e = kept (tasks_of table) (table_sound table e)

-- and the verdict call's answer
pub kept_by : (table : List ℕ) → KeptBy table (verdict_answer table)
kept_by table = go (table_refusal table) refl
  where
    go : (o : Option Refusal) → table_refusal table ≡ o → KeptBy table (verdict_answer table)
    go None e = rw (verdict_judged table e) (kept_table table e)
    go (Some r) e = rw (verdict_refused table r e) tt

pub true_of_every_pattern : TrueOfEveryPattern
true_of_every_pattern = record {
  exactly = exactly;
  one_due = λ ts. record { outcome = verdict ts; as_due = (exactly ts (verdict ts)).0 refl; no_other = λ v c. sym ((exactly ts v).1 c) };
  kept = kept;
  kept_table = kept_table;
  kept_by = kept_by;
}
