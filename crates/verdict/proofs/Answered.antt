-- What the call answers is kept, and its contract leaves one answer.
use mathlib.Core.Path.{◌≡◌, refl, sym, subst}
use Prim.Native.Nat.{ℕ}
use mathlib.Core.List.{List}
use Rattle.rules.specs.Answers.{verdict_answer}
use Rattle.promises.specs.Demands.{One, KeptBy}
use Rattle.promises.proofs.Kept.{kept_by}
use Rattle.std.specs.Prelude.{Result}
use Rattle.rules.specs.declared.Refusal.{Refusal}
use Rattle.rules.specs.declared.Verdict.{Verdict}

module _ (w : List ℕ) where
  pub keeps : (a : Result Verdict Refusal) → a ≡ verdict_answer w → KeptBy w a
  keeps a e = subst (KeptBy w) (sym e) (kept_by w)

  pub one_answer : One (Result Verdict Refusal) (λ a. (a ≡ verdict_answer w) × KeptBy w a)
  one_answer = record { outcome = verdict_answer w; as_due = (refl, kept_by w); no_other = λ a c. c.0 }
