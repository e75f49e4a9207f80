-- The excess: 1 or more where a length fails; what it says of a set that was changed; and how great it can be at the least length that fails, since
-- from one length to the next each task has at most one more job due, or waits with less than its C.
use mathlib.Core.Path.{◌≡◌, refl, sym, ◌∙◌}
use mathlib.Core.Logic.{◌↔◌, ◌⊎◌, inl, inr, ⊎_elim}
use Prim.Native.Nat.{ℕ, zero, suc, ◌+◌, ◌-◌, ◌*◌, ◌/◌, ◌≤◌, ◌<◌}
use native.Mathlib.Nat.{mul-le-mul_left, zero-div, add-div_right}
use native.Mathlib.Omega.{arith}
use mathlib.Core.List.{List, [], ◌∷◌, Memᴰ}
use mathlib.Core.Bool.{true, false}
use lib.Dec.{leb, ltb}
use borrow.Author.Tests.{leb-true, ltb-true, le-ltb}
use Rattle.rules.specs.Numbers.{word_most}
use Rattle.rules.specs.Task.{tasks_of, executions, Sound, AllSound}
use Rattle.rules.specs.Table.{tasks_from, Valid}
use Rattle.rules.specs.declared.Task.{Task}
use Rattle.rules.specs.declared.Verdict.{Verdict}
use Rattle.rules.specs.Demand.{due, total_due, longest_wait, fails, excess, verdict}
use Rattle.rules.proofs.Booleans.{true_is_not_false, lt_or_ge}
use Rattle.rules.proofs.Tables.{tasks_are, sound_tasks, task_c_most}
use Rattle.rules.proofs.Blockers.{blocker_nobody}
use Rattle.rules.proofs.Verdicts.{First, fails_when, fails_not, fails_by, misses_when, div_grows, due_in, due_out, wait_in, wait_out, total_due_nought}
use Rattle.std.specs.Prelude.{None}

module _ (ts : List Task) (L : ℕ) where
  pub excess_is : excess L ts ≡ total_due L ts + longest_wait L ts - L
  unfolding excess
  excess_is = refl

  -- where a length fails, it is 1 or more
  pub excess_some : fails L ts ≡ true → 1 ≤ excess L ts
  excess_some f = omega (arith, excess_is, (fails_when ts L).0 f)

  -- a length passes exactly where nothing is due, or Due(L) + Wait(L) is at most L
  pub passes_when : (fails L ts ≡ false) ↔ ((total_due L ts ≡ 0) ⊎ (total_due L ts + longest_wait L ts ≤ L))
  passes_when = (there, back)
    where
      by_sum : fails L ts ≡ false → (ltb L (total_due L ts + longest_wait L ts) ≡ true) ⊎ (leb (total_due L ts + longest_wait L ts) L ≡ true)
          → 1 ≤ total_due L ts → total_due L ts + longest_wait L ts ≤ L
      by_sum e (inl a) h = true_is_not_false (sym ((fails_when ts L).1 (h, ltb-true _ _ a)) ∙ e)
      by_sum e (inr a) h = leb-true _ _ a

      there : fails L ts ≡ false → (total_due L ts ≡ 0) ⊎ (total_due L ts + longest_wait L ts ≤ L)
      there e =
          ⊎_elim (λ a. let h : total_due L ts < 1 = ltb-true _ _ a in inl (omega arith)) (λ a. inr (by_sum e (lt_or_ge L (total_due L ts + longest_wait L ts)) (leb-true _ _ a)))
          (lt_or_ge (total_due L ts) 1)

      back : (total_due L ts ≡ 0) ⊎ (total_due L ts + longest_wait L ts ≤ L) → fails L ts ≡ false
      back (inl a) = fails_not ts L (omega arith)
      back (inr a) =
          ⊎_elim (λ b. fails_not ts L (ltb-true _ _ b)) (λ b. fails_by ts L (leb-true _ _ b) ∙ le-ltb L (total_due L ts + longest_wait L ts) a)
          (lt_or_ge (total_due L ts) 1)

-- a length that fails passes in a changed set exactly where nothing is due any more, or Due(L) + Wait(L) fell by the excess or more
pub passes_changed : (ts changed : List Task) (L : ℕ) → fails L ts ≡ true
    → (fails L changed ≡ false) ↔ ((total_due L changed ≡ 0) ⊎ (total_due L changed + longest_wait L changed + excess L ts ≤ total_due L ts + longest_wait L ts))
passes_changed ts changed L f = (
  λ e. ⊎_elim inl (λ h. inr (omega (arith, excess_is ts L, (fails_when ts L).0 f))) ((passes_when changed L).0 e),
  λ h. (passes_when changed L).1 (⊎_elim inl (λ a. inr (omega (arith, excess_is ts L, (fails_when ts L).0 f))) h),
)

-- a quotient grows by at most 1 where the number grows by 1
div_step : (a k : ℕ) → 1 ≤ k → suc a / k ≤ a / k + 1
div_step a k h = omega (arith, div_grows (suc a) (a + k) k (omega arith), add-div_right a {k = k} (omega arith))

-- from one length to the next a task has at most one more job due
due_step : (K : ℕ) (τ : Task) → Sound τ → due (suc K) τ ≤ due K τ + τ.C
due_step K τ s =
    ⊎_elim
    (λ a.
    let h : K < τ.D = ltb-true _ _ a in
    ⊎_elim (λ b. omega (arith, due_out (suc K) τ (ltb-true _ _ b)))
    (λ b.
    let i : suc K - τ.D ≡ 0 = omega arith in
    let one_job : τ.C * (1 + (suc K - τ.D) / τ.T) ≡ τ.C * 1 = rw (i, zero-div τ.T) in
    omega (arith, due_in (suc K) τ (leb-true _ _ b)))
    (lt_or_ge (suc K) τ.D))
    (λ a.
    let h : τ.D ≤ K = leb-true _ _ a in
    let i : suc K - τ.D ≡ suc (K - τ.D) = omega arith in
    let q = div_step (K - τ.D) τ.T s.t_pos in
    let g : τ.C * (1 + (suc K - τ.D) / τ.T) ≤ τ.C * (1 + ((K - τ.D) / τ.T + 1)) = mul-le-mul_left τ.C (rw i (omega arith)) in
    omega (arith, due_in K τ h, due_in (suc K) τ (omega arith)))
    (lt_or_ge K τ.D)

-- so Due(L) and Wait(L) are at most Due of the length before and the sum of the executions: a task that makes others wait has nothing due
grown : (K : ℕ) (ts : List Task) → AllSound ts → total_due (suc K) ts + longest_wait (suc K) ts ≤ total_due K ts + executions ts
unfolding total_due longest_wait executions
grown K [] sound = omega arith
grown K (τ ∷ ts) sound =
    let rest = grown K ts (λ σ m. sound σ (Memᴰ.tail m)) in
    let s = sound τ (Memᴰ.head refl) in
    ⊎_elim (λ a. let h : suc K < τ.D = ltb-true _ _ a in omega (arith, due_out (suc K) τ h, wait_in (suc K) τ h))
    (λ a. omega (arith, due_step K τ s, wait_out (suc K) τ (leb-true _ _ a)))
    (lt_or_ge (suc K) τ.D)

-- at the least length that fails the excess is below the sum of the executions
module _ (ts : List Task) (sound : AllSound ts) where
  -- what passes, and the length 0, has at most as much due as it is long
  due_most : (K : ℕ) → (1 ≤ K → fails K ts ≡ false) → total_due K ts ≤ K
  due_most zero h = omega (arith, total_due_nought ts sound)
  due_most (suc K) h = ⊎_elim (λ e. omega arith) (λ e. omega arith) ((passes_when ts (suc K)).0 (h (omega arith)))

  pub excess_most : (L : ℕ) → First (λ K. fails K ts) L → excess L ts < executions ts
  excess_most zero f = absurd (omega (arith, f.low))
  excess_most (suc K) f =
      omega (arith, excess_is ts (suc K), (fails_when ts (suc K)).0 f.passes, grown K ts sound, due_most K (λ a. f.none_before K a (omega arith)))

-- and that great it is where every deadline is 1
module _ (ts : List Task) (at_one : (τ : Task) → Memᴰ τ ts → τ.D ≡ 1) where
  at_one_due : (us : List Task) → ((τ : Task) → Memᴰ τ us → τ.D ≡ 1) → (total_due 1 us ≡ executions us) × (longest_wait 1 us ≡ 0)
  unfolding total_due longest_wait executions
  at_one_due [] h = (refl, refl)
  at_one_due (τ ∷ us) h =
      let d_one = h τ (Memᴰ.head refl) in
      let rest = at_one_due us (λ σ m. h σ (Memᴰ.tail m)) in
      let nought : 1 - τ.D ≡ 0 = omega arith in
      let one_job : τ.C * (1 + (1 - τ.D) / τ.T) ≡ τ.C * 1 = rw (nought, zero-div τ.T) in
      (omega (arith, due_in 1 τ (omega arith)), omega (arith, wait_out 1 τ (omega arith)))

  pub excess_reached : 2 ≤ executions ts → verdict ts ≡ Verdict.Misses 1 None (executions ts - 1)
  excess_reached h =
      let e = at_one_due ts at_one in
      (misses_when ts 1 None (executions ts - 1)).1 (
        record { low = omega arith; high = omega arith; passes = (fails_when ts 1).1 (omega arith, omega arith); none_before = λ y a b. absurd (omega arith) },
        sym ((blocker_nobody 1 ts).1 e.1),
        omega (arith, excess_is ts 1),
      )

-- the executions of a table, 64 tasks of 65,535 at most
executions_from : (w : List ℕ) (m n k : ℕ) → Valid w m → k + n ≤ m → executions (tasks_from w n k) ≤ word_most * n
unfolding executions tasks_from
executions_from w m zero k v h = omega arith
executions_from w m (suc n) k v h = omega (arith, task_c_most w m k v (omega arith), executions_from w m n (suc k) v (omega arith))

executions_most : (w : List ℕ) (m : ℕ) → Valid w m → executions (tasks_of w) ≤ 4194240
executions_most w m v = rw (tasks_are w m v.words) (omega (arith, executions_from w m m 0 v (omega arith), v.most_tasks))

-- so the excess of a table that is not refused is at most 4,194,239
pub excess_of_table : (w : List ℕ) (m : ℕ) → Valid w m → (L : ℕ) → First (λ K. fails K (tasks_of w)) L → excess L (tasks_of w) ≤ 4194239
excess_of_table w m v L f = omega (arith, excess_most (tasks_of w) (sound_tasks w m v) L f, executions_most w m v)
