-- The late job that is held, row by row.
use Rattle.std.specs.Prelude.{if◌then◌else◌, Option, Some, None}
use mathlib.Core.Path.{◌≡◌, refl, sym, ap, ◌∙◌}
use Prim.Native.Nat.{ℕ, ◌≤◌, ◌<◌}
use mathlib.Core.Bool.{Bool, true, false}
use mathlib.Core.List.{List, [], ◌∷◌, ◌++◌}
use borrow.Author.Tests.{lt-ltb, le-ltb}
use Rattle.rules.specs.Dispatch.{Job, Row, finish, before, late_job}
use Rattle.rules.specs.Answers.{timing}
use Rattle.rules.specs.declared.Late.{Late}
use Rattle.rules.proofs.Booleans.{split}
use Rattle.rules.proofs.Order.{sooner_yes, sooner_no, earlier, earlier_none}
use Rattle.rules.proofs.LateJob.{late_one, late_not, late_append}
use Rattle.row.specs.Lateness.{late_of, lateness, noting}

-- a row that is on time
pub on_time : (l : Option Late) (j : Late) (f : ℕ) → f ≤ j.deadline → l ≡ noting l j f
on_time None j f h = rw (le-ltb j.deadline f h)
on_time (Some i) j f h = rw (le-ltb j.deadline f h)

-- a late one, where one is held: the job that goes before is held (the one place that opens the order of the rules: the code makes that test)
of_two : (i j : Job) (f : ℕ) → j.deadline < f → noting (lateness (Some i)) (late_of j) f ≡ (if before j i then lateness (Some j) else lateness (Some i))
unfolding before
of_two i j f h = rw (lt-ltb j.deadline f h)

-- one row more is one row more of the rules' late job
module _ (w : Row) where
  more_late : w.job.deadline < finish w → (o : Option Job) → noting (lateness o) (late_of w.job) (finish w) ≡ lateness (earlier o (Some w.job))
  more_late h None = rw (lt-ltb w.job.deadline (finish w) h)
  more_late h (Some i) = of_two i w.job (finish w) h ∙ go (before w.job i) refl
    where
      go : (x : Bool) → before w.job i ≡ x → (if x then lateness (Some w.job) else lateness (Some i)) ≡ lateness (earlier (Some i) (Some w.job))
      go true e = ap lateness (sym (sooner_yes w.job i e))
      go false e = ap lateness (sym (sooner_no w.job i e))

  held_one : (o : Option Job) → noting (lateness o) (late_of w.job) (finish w) ≡ lateness (earlier o (late_job (w ∷ [])))
  held_one o =
      split (finish w) w.job.deadline
      (λ h. sym (on_time (lateness o) _ _ h) ∙ ap lateness (sym (earlier_none o) ∙ ap (earlier o) (sym (late_not w h))))
      (λ h. more_late h o ∙ ap (λ (x : Option Job). lateness (earlier o x)) (sym (late_one w h)))

  pub held_more : (ws : List Row) → noting (lateness (late_job ws)) (late_of w.job) (finish w) ≡ lateness (late_job (ws ++ (w ∷ [])))
  held_more ws = held_one (late_job ws) ∙ ap lateness (sym (late_append ws (w ∷ [])))

-- the rows' count and what is held are the rules' timing
pub timing_is : (n : ℕ) (o : Option Job) → record { rows = n; late = lateness o } ≡ timing n o
timing_is n None = refl
timing_is n (Some j) = refl
