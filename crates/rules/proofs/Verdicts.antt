-- The paper's verdict table, each line an "exactly when"; how Due, Wait and the work go with the length.
use mathlib.Core.Path.{◌≡◌, refl, sym, ap, ◌∙◌}
use mathlib.Core.Logic.{◌↔◌, ⊎_elim}
use Prim.Native.Nat.{ℕ, zero, suc, ◌+◌, ◌-◌, ◌*◌, ◌/◌, ◌≤◌, ◌<◌}
use native.Mathlib.Nat.{le_trans, mul-zero, mul-le-mul_left, div-zero, le-div_iff_mul-le, div-mul-le_self}
use native.Mathlib.Omega.{arith}
use mathlib.Core.List.Memᴰ
use mathlib.Core.List.{List, [], ◌∷◌}
use mathlib.Core.Bool.{Bool, true, false}
use lib.Dec.{ltb}
use borrow.Author.Tests.{leb-true, ltb-true, le-leb, lt-ltb, le-ltb, lt-leb}
use Rattle.rules.specs.Choice.{least}
use Rattle.rules.specs.Task.{AllSound}
use Rattle.rules.specs.declared.Task.{Task}
use Rattle.rules.specs.Numbers.{horizon}
use Rattle.rules.specs.Demand.{count_within, due, total_due, wait, longest_wait, fails, excess, ceiling, work, closes, first_fail, span, blocker, judge, verdict}
use Rattle.rules.specs.declared.Verdict.{Verdict}
use Rattle.rules.proofs.Booleans.{true_is_not_false, lt_or_ge}
use Rattle.rules.proofs.Search.{found, finds, none_found, finds_none}
use Rattle.std.specs.Prelude.{Option, Some, None}
use Rattle.std.proofs.lemmas.Bool.{and_parts, and_from}

-- x is the least number from 1 to H that passes
pub record First (p : ℕ → Bool) (x : ℕ) : Type 0 where
  pub low : 1 ≤ x
  pub high : x ≤ horizon
  pub passes : p x ≡ true
  pub none_before : (y : ℕ) → 1 ≤ y → y < x → p y ≡ false

-- no number from 1 to H passes
abbrev pub NoneIn : (ℕ → Bool) → Type 0
NoneIn p = (y : ℕ) → 1 ≤ y → y ≤ horizon → p y ≡ false

-- the search from 1 to H, in these words
pub first_when : (p : ℕ → Bool) (x : ℕ) → (least p horizon 1 ≡ Some x) ↔ First p x
first_when p x = (
  λ e.
      let f = found p horizon 1 x e in
      record { low = f.low; high = omega arith; passes = f.passes; none_before = f.none_before },
  λ f. finds p horizon 1 x (record { passes = f.passes; low = f.low; high = omega arith; none_before = f.none_before }),
)

pub none_when : (p : ℕ → Bool) → (least p horizon 1 ≡ None) ↔ NoneIn p
none_when p =
    (λ e y a b. none_found p horizon 1 e y a (omega arith), λ h. finds_none p horizon 1 (λ y a b. h y a (omega arith)))

module _ (ts : List Task) where
  -- a length that fails, and a t that closes, by their numbers
  pub fails_when : (L : ℕ) → (fails L ts ≡ true) ↔ ((1 ≤ total_due L ts) × (L < total_due L ts + longest_wait L ts))
  unfolding fails
  fails_when L =
      (λ e. let h = and_parts _ _ e in (leb-true _ _ h.0, ltb-true _ _ h.1), λ h. and_from _ _ (le-leb _ _ h.0) (lt-ltb _ _ h.1))

  -- the test on a length, by what is due
  pub fails_not : (L : ℕ) → total_due L ts < 1 → fails L ts ≡ false
  unfolding fails
  fails_not L h = rw (lt-leb 1 (total_due L ts) h)

  pub fails_by : (L : ℕ) → 1 ≤ total_due L ts → fails L ts ≡ ltb L (total_due L ts + longest_wait L ts)
  unfolding fails
  fails_by L h = rw (le-leb 1 (total_due L ts) h)

  pub closes_when : (t : ℕ) → (closes t ts ≡ true) ↔ (work t ts ≤ t)
  unfolding closes
  closes_when t = (leb-true _ _, le-leb _ _)

  -- which searches give which verdict
  misses_of : (o s : Option ℕ) (L : ℕ) (b : Option ℕ) (over : ℕ) → judge o s ts ≡ Verdict.Misses L b over
      → (o ≡ Some L) × (b ≡ blocker L ts) × (over ≡ excess L ts)
  misses_of (Some K) s L b over e =
      let i : K ≡ L = cc in
      let j : b ≡ blocker K ts = cc in
      let k : over ≡ excess K ts = cc in
      (ap Some i, j ∙ ap (λ (x : ℕ). blocker x ts) i, k ∙ ap (λ (x : ℕ). excess x ts) i)
  misses_of None (Some σ) L b over e = let z : ◌≡◌ {A = ℕ} 0 1 = cc in absurd (omega arith)
  misses_of None None L b over e = let z : ◌≡◌ {A = ℕ} 0 1 = cc in absurd (omega arith)

  meets_of : (o s : Option ℕ) (σ : ℕ) → judge o s ts ≡ Verdict.Meets σ → (o ≡ None) × (s ≡ Some σ)
  meets_of (Some K) s σ e = let z : ◌≡◌ {A = ℕ} 0 1 = cc in absurd (omega arith)
  meets_of None (Some t) σ e = let i : t ≡ σ = cc in (refl, ap Some i)
  meets_of None None σ e = let z : ◌≡◌ {A = ℕ} 0 1 = cc in absurd (omega arith)

  too_far_of : (o s : Option ℕ) → judge o s ts ≡ Verdict.TooFar → (o ≡ None) × (s ≡ None)
  too_far_of (Some K) s e = let z : ◌≡◌ {A = ℕ} 0 1 = cc in absurd (omega arith)
  too_far_of None (Some t) e = let z : ◌≡◌ {A = ℕ} 0 1 = cc in absurd (omega arith)
  too_far_of None None e = (refl, refl)

  -- MISSES exactly when some L from 1 to H fails; it carries the least such L, its blocker and its excess
  pub misses_when : (L : ℕ) (b : Option ℕ) (over : ℕ)
      → (verdict ts ≡ Verdict.Misses L b over) ↔ (First (λ K. fails K ts) L × (b ≡ blocker L ts) × (over ≡ excess L ts))
  unfolding verdict first_fail
  misses_when L b over = (
    λ e. let h = misses_of (first_fail ts) (span ts) L b over e in ((first_when (λ K. fails K ts) L).0 h.0, h.1, h.2),
    λ h.
        ap (λ (o : Option ℕ). judge o (span ts) ts) ((first_when (λ K. fails K ts) L).1 h.0)
        ∙ rw (h.1, h.2),
  )

  -- MEETS exactly when no such L fails and the span exists and is at most H; it carries the span
  pub meets_when : (σ : ℕ) → (verdict ts ≡ Verdict.Meets σ) ↔ (NoneIn (λ K. fails K ts) × First (λ t. closes t ts) σ)
  unfolding verdict first_fail span
  meets_when σ = (
    λ e.
        let h = meets_of (first_fail ts) (span ts) σ e in
        ((none_when (λ K. fails K ts)).0 h.0, (first_when (λ t. closes t ts) σ).0 h.1),
    λ h.
        ap (λ (o : Option ℕ). judge o (span ts) ts) ((none_when (λ K. fails K ts)).1 h.0)
        ∙ ap (λ (s : Option ℕ). judge None s ts) ((first_when (λ t. closes t ts) σ).1 h.1),
  )

  -- TOO FAR exactly when no such L fails and there is no span of at most H
  pub too_far_when : (verdict ts ≡ Verdict.TooFar) ↔ (NoneIn (λ K. fails K ts) × NoneIn (λ t. closes t ts))
  unfolding verdict first_fail span
  too_far_when = (
    λ e.
        let h = too_far_of (first_fail ts) (span ts) e in
        ((none_when (λ K. fails K ts)).0 h.0, (none_when (λ t. closes t ts)).0 h.1),
    λ h.
        ap (λ (o : Option ℕ). judge o (span ts) ts) ((none_when (λ K. fails K ts)).1 h.0)
        ∙ ap (λ (s : Option ℕ). judge None s ts) ((none_when (λ t. closes t ts)).1 h.1),
  )

-- a quotient, and a quotient rounded up, grow with the number
pub div_grows : (a b k : ℕ) → a ≤ b → a / k ≤ b / k
div_grows a b zero h = rw (div-zero a, div-zero b) (omega arith)
div_grows a b (suc k) h = (le-div_iff_mul-le {k = suc k} (omega arith)).1 (le_trans (div-mul-le_self a (suc k)) h)

pub ceiling_is : (t T : ℕ) → ceiling t T ≡ (t + T - 1) / T
unfolding ceiling
ceiling_is t T = refl

pub ceiling_grows : (s t T : ℕ) → s ≤ t → ceiling s T ≤ ceiling t T
unfolding ceiling
ceiling_grows s t T h = div_grows (s + T - 1) (t + T - 1) T (omega arith)

-- the work grows with t
pub work_grows : (ts : List Task) (s t : ℕ) → s ≤ t → work s ts ≤ work t ts
unfolding work
work_grows [] s t h = omega arith
work_grows (τ ∷ ts) s t h = omega (arith, mul-le-mul_left τ.C (ceiling_grows s t τ.T h), work_grows ts s t h)

-- one task's due and wait, by cases on its D
pub due_in : (L : ℕ) (τ : Task) → τ.D ≤ L → due L τ ≡ τ.C * (1 + (L - τ.D) / τ.T)
unfolding due count_within
due_in L τ h = rw (le-leb τ.D L h)

pub due_out : (L : ℕ) (τ : Task) → L < τ.D → due L τ ≡ 0
unfolding due count_within
due_out L τ h = rw (lt-leb τ.D L h) (mul-zero τ.C)

pub wait_out : (L : ℕ) (τ : Task) → τ.D ≤ L → wait L τ ≡ 0
unfolding wait
wait_out L τ h = rw (le-ltb L τ.D h)

pub wait_in : (L : ℕ) (τ : Task) → L < τ.D → wait L τ ≡ τ.C - 1
unfolding wait
wait_in L τ h = rw (lt-ltb L τ.D h)

-- Due grows with the length, Wait falls
due_grows : (K L : ℕ) (τ : Task) → K ≤ L → due K τ ≤ due L τ
due_grows K L τ h =
    ⊎_elim (λ a. omega (arith, due_out K τ (ltb-true _ _ a)))
    (λ a.
    let b : τ.D ≤ K = leb-true _ _ a in
    let q = div_grows (K - τ.D) (L - τ.D) τ.T (omega arith) in
    let g : τ.C * (1 + (K - τ.D) / τ.T) ≤ τ.C * (1 + (L - τ.D) / τ.T) = mul-le-mul_left τ.C (omega arith) in
    omega (arith, due_in K τ b, due_in L τ (omega arith)))
    (lt_or_ge K τ.D)

wait_falls : (K L : ℕ) (τ : Task) → K ≤ L → wait L τ ≤ wait K τ
wait_falls K L τ h =
    ⊎_elim (λ a. let b : L < τ.D = ltb-true _ _ a in omega (arith, wait_in L τ b, wait_in K τ (omega arith)))
    (λ a. omega (arith, wait_out L τ (leb-true _ _ a)))
    (lt_or_ge L τ.D)

pub total_due_grows : (ts : List Task) (K L : ℕ) → K ≤ L → total_due K ts ≤ total_due L ts
unfolding total_due
total_due_grows [] K L h = omega arith
total_due_grows (τ ∷ ts) K L h = omega (arith, due_grows K L τ h, total_due_grows ts K L h)

pub longest_wait_falls : (ts : List Task) (K L : ℕ) → K ≤ L → longest_wait L ts ≤ longest_wait K ts
unfolding longest_wait
longest_wait_falls [] K L h = omega arith
longest_wait_falls (τ ∷ ts) K L h = omega (arith, wait_falls K L τ h, longest_wait_falls ts K L h)

-- nothing is due within no time, of tasks with D of 1 or more
pub total_due_nought : (ts : List Task) → AllSound ts → total_due 0 ts ≡ 0
unfolding total_due
total_due_nought [] sound = refl
total_due_nought (τ ∷ ts) sound =
    omega (arith, due_out 0 τ (sound τ (Memᴰ.head refl)).d_pos, total_due_nought ts (λ σ m. sound σ (Memᴰ.tail m)))

-- where Due is the same, what fails at the greater length fails at the lesser
pub fails_before : (ts : List Task) (K L : ℕ) → K ≤ L → total_due L ts ≡ total_due K ts → fails L ts ≡ true → fails K ts ≡ true
fails_before ts K L h e f =
    let a = (fails_when ts L).0 f in
    let b = longest_wait_falls ts K L h in
    (fails_when ts K).1 (omega arith, omega arith)

-- where Due does not grow from L − 1 to L, L is not the least that fails
pub steady_not_first : (ts : List Task) → AllSound ts → (L : ℕ) → total_due L ts ≡ total_due (L - 1) ts → First (λ K. fails K ts) L → ⊥
steady_not_first ts sound L e m =
    ⊎_elim
    (λ a.
    let h = ltb-true 1 L a in
    true_is_not_false (sym (fails_before ts (L - 1) L (omega arith) e m.passes) ∙ m.none_before (L - 1) (omega arith) (omega arith)))
    (λ a.
    let i : L - 1 ≡ 0 = omega (arith, leb-true L 1 a) in
    omega (arith, (fails_when ts L).0 m.passes, ap (λ (K : ℕ). total_due K ts) i, total_due_nought ts sound))
    (lt_or_ge 1 L)
