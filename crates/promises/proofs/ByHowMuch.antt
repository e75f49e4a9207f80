-- What the excess says: each line of the page is a law of the excess, at the length of a "misses".
use mathlib.Core.Path.{◌≡◌, refl}
use Prim.Native.Nat.{ℕ, ◌≤◌}
use mathlib.Core.List.{List}
use Rattle.rules.specs.Task.{tasks_of}
use Rattle.rules.specs.declared.Task.{Task}
use Rattle.rules.specs.Table.{table_refusal}
use Rattle.rules.specs.Demand.{fails, excess, verdict}
use Rattle.rules.specs.Answers.{verdict_answer}
use Rattle.rules.specs.declared.Refusal.{Refusal}
use Rattle.rules.specs.declared.Verdict.{Verdict}
use Rattle.rules.proofs.Booleans.{impossible}
use Rattle.rules.proofs.Tables.{valid_of}
use Rattle.rules.proofs.Calls.{verdict_refused, verdict_judged}
use Rattle.rules.proofs.Verdicts.{First, misses_when}
use Rattle.rules.proofs.Excess.{excess_some, passes_changed, excess_most, excess_reached, excess_of_table}
use Rattle.rules.proofs.Stars.{greatest_excess}
use Rattle.promises.specs.Demands.{ByHowMuch}
use Rattle.std.specs.Prelude.{Option, Some, None, Ok}

-- a "misses": its length is the least that fails, its excess that length's
module _ (ts : List Task) (L : ℕ) (b : Option ℕ) (over : ℕ) (e : verdict ts ≡ Verdict.Misses L b over) where
  first : First (λ K. fails K ts) L
  first = ((misses_when ts L b over).0 e).0

  over_is : over ≡ excess L ts
  over_is = ((misses_when ts L b over).0 e).2

-- a call that judges a table gives the verdict on its tasks
of_a_call : (table : List ℕ) (v : Verdict) → verdict_answer table ≡ Ok v → (table_refusal table ≡ None) × (verdict (tasks_of table) ≡ v)
of_a_call table v e = go (table_refusal table) refl
  where
    go : (o : Option Refusal) → table_refusal table ≡ o → (o ≡ None) × (verdict (tasks_of table) ≡ v)
    go None f = let j = verdict_judged table f in (refl, cc)
    go (Some r) f = let j = verdict_refused table r f in impossible cc

-- and so the excess is below 64 executions of 65,535
at_most : (table : List ℕ) (L : ℕ) (b : Option ℕ) (over : ℕ) → verdict_answer table ≡ Ok (Verdict.Misses L b over) → over ≤ 4194239
at_most table L b over e =
    let (fine, misses) = of_a_call table _ e in
    rw (over_is _ L b over misses) (excess_of_table table _ (valid_of table fine) L (first _ L b over misses))

pub by_how_much : ByHowMuch
by_how_much = record {
  one_or_more = λ ts L b over e. rw (over_is ts L b over e) (excess_some ts L (first ts L b over e).passes);
  passes_if = λ ts L b over e changed. rw (over_is ts L b over e) (passes_changed ts changed L (first ts L b over e).passes);
  below = λ ts sound L b over e. rw (over_is ts L b over e) (excess_most ts sound L (first ts L b over e));
  just_below = excess_reached;
  of_a_call = λ table v e. (of_a_call table v e).1;
  at_most = at_most;
  reached = greatest_excess;
  same_number = λ L b over. refl;
}
