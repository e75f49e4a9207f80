-- What the long kernel does to the others of its set: at the length of its C a job is due, and that job may have to wait for all but one tick of it.
use mathlib.Core.Path.{◌≡◌, refl, sym, ap, subst, ◌∙◌}
use mathlib.Core.Logic.{◌↔◌}
use Prim.Native.Nat.{ℕ, zero, suc, ◌+◌, ◌-◌, ◌*◌, ◌/◌, ◌%◌, ◌≤◌, ◌<◌}
use native.Mathlib.Nat.{mul-le-mul}
use native.Mathlib.Omega.{arith}
use mathlib.Core.List.{List, [], ◌∷◌}
use mathlib.Core.Bool.{Bool, true, false}
use lib.ListN.{length}
use Rattle.rules.specs.Task.{task_at}
use Rattle.rules.specs.Demand.{due, total_due, longest_wait, fails}
use Rattle.rules.specs.Generator.{state_after, count_drawn, set_drawn}
use Rattle.rules.specs.DrawnSets.{LongAt}
use Rattle.rules.specs.declared.Task.{Task}
use Rattle.rules.proofs.Booleans.{split, true_is_not_false}
use Rattle.rules.proofs.Blockers.{wait_most}
use Rattle.rules.proofs.Verdicts.{due_in, fails_when}
use Rattle.rules.proofs.Drawn.{length_tasks_drawn, length_set_drawn}
use Rattle.rules.proofs.DrawnFine.{Short, task_short}
use Rattle.rules.proofs.DrawnSets.{task_of, tasks_of_set, long_put, one_stays, plain_is, long_is}

-- each task has its part in Due
due_part : (L : ℕ) (ts : List Task) (i : ℕ) → i < length ts → due L (task_at ts i) ≤ total_due L ts
unfolding total_due task_at
due_part L [] i h = absurd (omega arith)
due_part L (τ ∷ ts) zero h = omega arith
due_part L (τ ∷ ts) (suc i) h = let ih = due_part L ts i (omega arith) in omega arith

-- a task with D at most L has a tick due
due_some : (L : ℕ) (τ : Task) → 1 ≤ τ.C → τ.D ≤ L → 1 ≤ due L τ
due_some L τ low h =
    let n = 1 + (L - τ.D) / τ.T in
    let m = mul-le-mul {n₁ = 1} {m₁ = 1} {n₂ = τ.C} {m₂ = n} low (omega arith) in
    omega (arith, due_in L τ h)

-- a length at which a tick is due and all but one may be waited for passes exactly where no more is due, and nothing waits longer
passes_when : (L : ℕ) (ts : List Task) → 1 ≤ total_due L ts → L - 1 ≤ longest_wait L ts → 1 ≤ L → (fails L ts ≡ false) ↔ ((total_due L ts ≡ 1) × (longest_wait L ts ≡ L - 1))
passes_when L ts d w l = (forth, λ e. go (fails L ts) refl e)
  where
    forth : fails L ts ≡ false → (total_due L ts ≡ 1) × (longest_wait L ts ≡ L - 1)
    forth e =
        let n : total_due L ts + longest_wait L ts ≤ L = not_above e in
        (omega arith, omega arith)
      where
        not_above : fails L ts ≡ false → total_due L ts + longest_wait L ts ≤ L
        not_above f = split (total_due L ts + longest_wait L ts) L (λ h. h) (λ h. absurd (true_is_not_false (sym ((fails_when ts L).1 (d, h)) ∙ f)))

    go : (b : Bool) → fails L ts ≡ b → (total_due L ts ≡ 1) × (longest_wait L ts ≡ L - 1) → fails L ts ≡ false
    go false f e = f
    go true f e = let h = (fails_when ts L).0 f in absurd (omega (arith, h.1, e.0, e.1))

-- the tasks of a set are short as they are drawn
drawn_short : (s i : ℕ) → i < count_drawn s → Short (task_at (tasks_of_set s) i)
drawn_short s i h = subst Short (sym (task_of (count_drawn s) i (state_after 1 s) h)) (task_short (state_after (4 * i) (state_after 1 s)))

-- THE SET WITH THE LONG KERNEL
module _ (s number : ℕ) (multiple : number % 4 ≡ 0) (several : 2 ≤ count_drawn s) where
  abbrev k : ℕ
  k = count_drawn s - 1

  abbrev set : List Task
  set = set_drawn number s

  pub set_length : length set ≡ suc k
  set_length = omega (arith, length_set_drawn number s)

  pub long_there : LongAt k (tasks_of_set s) set
  long_there =
      subst (LongAt k (tasks_of_set s)) (sym (long_is s number multiple))
      (long_put (tasks_of_set s) k (omega (arith, length_tasks_drawn (count_drawn s) (state_after 1 s))) (omega arith))

  pub others_short : (i : ℕ) → i < k → Short (task_at set i)
  others_short i h = subst Short (sym (long_there.others i h)) (drawn_short s i (omega arith))

  -- its D is above all of theirs
  pub d_above : (i : ℕ) → i < k → (task_at set i).D < (task_at set k).D
  d_above i h = omega (arith, (others_short i h).d_high, long_there.d_is)

  -- at the length of its C
  abbrev L : ℕ
  L = (task_at set k).C

  l_low : 1 ≤ L
  l_low = let x = long_there.c_one in omega (arith, x.2, (others_short x.0 x.1).d_low)

  l_high : L ≤ 2000
  l_high = let x = long_there.c_one in omega (arith, x.2, (others_short x.0 x.1).d_high)

  -- a tick is due
  pub long_due : 1 ≤ total_due L set
  long_due =
      let x = long_there.c_one in
      let i = x.0 in
      omega (arith, due_part L set i (omega (arith, set_length, x.1)), due_some L (task_at set i) (others_short i x.1).c_low (omega (arith, x.2)))

  -- and all but one may be waited for
  pub long_waits : L - 1 ≤ longest_wait L set
  long_waits = wait_most L set k (omega (arith, set_length)) (omega (arith, long_there.d_is, l_high))

  pub long_passes : (fails L set ≡ false) ↔ ((total_due L set ≡ 1) × (longest_wait L set ≡ L - 1))
  long_passes = passes_when L set long_due long_waits l_low

-- WHERE IT IS. A set that is as it was drawn has short tasks only
all_short : (s number : ℕ) → set_drawn number s ≡ tasks_of_set s → (i : ℕ) → i < count_drawn s → Short (task_at (set_drawn number s) i)
all_short s number e i h = subst Short (sym (ap (λ (ts : List Task). task_at ts i) e)) (drawn_short s i h)

-- the last task is the long one exactly where the number is a multiple of 4 and the set has two tasks or more
pub long_where : (s number k : ℕ) → count_drawn s ≡ suc k → ((task_at (set_drawn number s) k).D ≡ 65535) ↔ ((number % 4 ≡ 0) × (2 ≤ count_drawn s))
long_where s number k n = (λ d. split (number % 4) 0 (λ m. (omega arith, several d (omega arith))) (λ m. absurd (short d (plain_is s number (λ e. omega arith)))), back)
  where
    short : (task_at (set_drawn number s) k).D ≡ 65535 → set_drawn number s ≡ tasks_of_set s → ⊥
    short d e = omega (arith, d, (all_short s number e k (omega arith)).d_high)

    several : (task_at (set_drawn number s) k).D ≡ 65535 → number % 4 ≡ 0 → 2 ≤ count_drawn s
    several d m =
        split 2 (count_drawn s) (λ h. h)
        (λ h. absurd (short d (long_is s number m ∙ one_stays (tasks_of_set s) (omega (arith, length_tasks_drawn (count_drawn s) (state_after 1 s))))))

    back : (number % 4 ≡ 0) × (2 ≤ count_drawn s) → (task_at (set_drawn number s) k).D ≡ 65535
    back p =
        let e : count_drawn s - 1 ≡ k = omega arith in
        subst (λ (i : ℕ). (task_at (set_drawn number s) i).D ≡ 65535) e (long_there s number p.0 p.1).d_is
