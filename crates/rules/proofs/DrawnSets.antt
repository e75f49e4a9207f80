-- The definitions draw what the paper's words say, and nothing else has those words: the states, the tasks by their draws, the long kernel.
use mathlib.Core.Path.{◌≡◌, refl, sym, ap, ap₂, subst, ◌∙◌}
use Prim.Native.Nat.{ℕ, zero, suc, ◌+◌, ◌-◌, ◌*◌, ◌/◌, ◌%◌, ◌≤◌, ◌<◌, min}
use native.Mathlib.Omega.{arith}
use mathlib.Core.Logic.{◌⊎◌, inl, inr, ◌↔◌}
use mathlib.Core.List.{List, [], ◌∷◌}
use lib.ListN.{length}
use borrow.Author.Tests.{eq-eqb, ne_eqb}
use Rattle.rules.specs.Task.{tasks_of, task_at}
use Rattle.rules.specs.Generator.{next_state, drawn, state_after, count_drawn, task_drawn, tasks_drawn, long_kernel, last_long, with_long, set_drawn, state_after_set, words_of, Draws}
use Rattle.rules.specs.DrawnSets.{States, SetOf, LongAt, FromSeed}
use Rattle.rules.specs.declared.Task.{Task}
use Rattle.rules.proofs.Booleans.{split}
use Rattle.rules.proofs.Drawn.{first_state, state_none, state_more, count_low, length_tasks_drawn}

-- equal words are equal tasks
task_equal : {τ υ : Task} → τ.C ≡ υ.C → τ.D ≡ υ.D → τ.T ≡ υ.T → τ.R ≡ υ.R → τ ≡ υ
task_equal c d t r = λ i. record { C = c i; D = d i; T = t i; R = r i }

-- lists of equal tasks, one by one, are equal
tasks_equal : (ts us : List Task) → length ts ≡ length us → ((i : ℕ) → i < length ts → task_at ts i ≡ task_at us i) → ts ≡ us
unfolding task_at
tasks_equal [] [] n e = refl
tasks_equal [] (υ ∷ us) n e = absurd (omega arith)
tasks_equal (τ ∷ ts) [] n e = absurd (omega arith)
tasks_equal (τ ∷ ts) (υ ∷ us) n e = ap₂ (λ (ρ : Task) (rs : List Task). ρ ∷ rs) (e 0 (omega arith)) (tasks_equal ts us (omega arith) (λ i h. e (suc i) (omega arith)))

-- THE STATES
-- each is the next one of that before
pub states_next : (k s : ℕ) → state_after (suc k) s ≡ next_state (state_after k s)
states_next k s =
    let e : suc k ≡ k + 1 = omega arith in
    ap (λ (n : ℕ). state_after n s) e ∙ sym (state_more k 1 s) ∙ first_state (state_after k s)

-- the product may be taken modulo 4,294,967,296 before the sum
next_once : (s : ℕ) → next_state s ≡ (1664525 * s + 1013904223) % 4294967296
unfolding next_state
next_once s = omega arith

-- a draw, in the paper's figures
pub draw_when : (s n after : ℕ) → Draws s n after ↔ ((after ≡ (1664525 * s + 1013904223) % 4294967296) × (n ≡ after / 65536))
unfolding drawn
draw_when s n after = (
  λ d. (d.moves ∙ next_once s, d.says ∙ ap (λ (x : ℕ). x / 65536) (sym d.moves)),
  λ p. let e : after ≡ next_state s = p.0 ∙ sym (next_once s) in record { says = p.1 ∙ ap (λ (x : ℕ). x / 65536) e; moves = e },
)

pub states_drawn : (s : ℕ) → States s (λ k. state_after k s)
states_drawn s = record { first = state_none s; next = λ k. states_next k s ∙ next_once (state_after k s) }

pub states_only : {s : ℕ} {σ : ℕ → ℕ} → States s σ → (k : ℕ) → σ k ≡ state_after k s
states_only {s} {σ} S zero = S.first ∙ sym (state_none s)
states_only {s} {σ} S (suc k) =
    S.next k
    ∙ ap (λ (x : ℕ). (1664525 * x + 1013904223) % 4294967296) (states_only S k)
    ∙ sym (next_once (state_after k s))
    ∙ sym (states_next k s)

-- what is drawn, by the state after it
drawn_by : (k s : ℕ) → drawn (state_after k s) ≡ state_after (suc k) s / 65536
unfolding drawn
drawn_by k s = ap (λ (x : ℕ). x / 65536) (sym (states_next k s))

-- THE TASKS
-- task i is drawn from the state after four draws a task before it
pub task_of : (n i s : ℕ) → i < n → task_at (tasks_drawn n s) i ≡ task_drawn (state_after (4 * i) s)
unfolding task_at tasks_drawn
task_of zero i s h = absurd (omega arith)
task_of (suc n) zero s h = ap task_drawn (sym (state_none s))
task_of (suc n) (suc i) s h =
    let e : 4 + 4 * i ≡ 4 * suc i = omega arith in
    task_of n i (state_after 4 s) (omega arith) ∙ ap task_drawn (state_more 4 (4 * i) s ∙ ap (λ (k : ℕ). state_after k s) e)

-- what is drawn after j draws more from the state after k
drawn_at : (j k m s : ℕ) → suc (k + j) ≡ m → drawn (state_after j (state_after k s)) ≡ state_after m s / 65536
drawn_at j k m s e = ap drawn (state_more k j s) ∙ drawn_by (k + j) s ∙ ap (λ (n : ℕ). state_after n s / 65536) e

-- the words of a task, by the states after its draws
module _ (k s : ℕ) where
  abbrev here : Task
  here = task_drawn (state_after k s)

  word_t : (m : ℕ) → suc k ≡ m → here.T ≡ 1 + state_after m s / 65536 % 1000
  unfolding task_drawn
  word_t m e = ap (λ (x : ℕ). 1 + x % 1000) (drawn_by k s ∙ ap (λ (n : ℕ). state_after n s / 65536) e)

  word_c : (m : ℕ) → suc (k + 1) ≡ m → here.C ≡ 1 + state_after m s / 65536 % here.T
  unfolding task_drawn
  word_c m e = ap (λ (x : ℕ). 1 + x % here.T) (drawn_at 1 k m s e)

  word_d : (m : ℕ) → suc (k + 2) ≡ m → here.D ≡ 1 + state_after m s / 65536 % 2000
  unfolding task_drawn
  word_d m e = ap (λ (x : ℕ). 1 + x % 2000) (drawn_at 2 k m s e)

  word_r : (m : ℕ) → suc (k + 3) ≡ m → here.R ≡ state_after m s / 65536 % 1000
  unfolding task_drawn
  word_r m e = ap (λ (x : ℕ). x % 1000) (drawn_at 3 k m s e)

-- the tasks of a set, before the long kernel is put
abbrev pub tasks_of_set : ℕ → List Task
tasks_of_set s = tasks_drawn (count_drawn s) (state_after 1 s)

pub set_drawn_law : (s : ℕ) → SetOf (λ k. state_after k s) (tasks_of_set s)
unfolding count_drawn
set_drawn_law s =
    record {
      count = length_tasks_drawn (count_drawn s) (state_after 1 s) ∙ ap (λ (x : ℕ). 1 + x % 8) (ap drawn (sym (state_none s)) ∙ drawn_by 0 s);
      t_drawn = λ i h. let e = at i h in ap (λ (υ : Task). υ.T) e ∙ word_t (1 + 4 * i) s (4 * i + 2) (omega arith);
      c_drawn = λ i h.
          let e = at i h in
          ap (λ (υ : Task). υ.C) e
          ∙ word_c (1 + 4 * i) s (4 * i + 3) (omega arith)
          ∙ ap (λ (υ : Task). 1 + state_after (4 * i + 3) s / 65536 % υ.T) (sym e);
      d_drawn = λ i h. let e = at i h in ap (λ (υ : Task). υ.D) e ∙ word_d (1 + 4 * i) s (4 * i + 4) (omega arith);
      r_drawn = λ i h. let e = at i h in ap (λ (υ : Task). υ.R) e ∙ word_r (1 + 4 * i) s (4 * i + 5) (omega arith);
    }
  where
    at : (i : ℕ) → i < length (tasks_of_set s) → task_at (tasks_of_set s) i ≡ task_drawn (state_after (1 + 4 * i) s)
    at i h =
        task_of (count_drawn s) i (state_after 1 s) (omega (arith, length_tasks_drawn (count_drawn s) (state_after 1 s))) ∙ ap task_drawn (state_more 1 (4 * i) s)

-- by equal states, equal tasks
pub set_only : {σ ρ : ℕ → ℕ} → ((k : ℕ) → σ k ≡ ρ k) → (ts us : List Task) → SetOf σ ts → SetOf ρ us → ts ≡ us
set_only {σ} {ρ} same ts us A B =
    let n : length ts ≡ length us = A.count ∙ ap (λ (x : ℕ). 1 + x / 65536 % 8) (same 1) ∙ sym B.count in
    tasks_equal ts us n (λ i h.
    let g : i < length us = omega arith in
    let t : (task_at ts i).T ≡ (task_at us i).T = A.t_drawn i h ∙ ap (λ (x : ℕ). 1 + x / 65536 % 1000) (same (4 * i + 2)) ∙ sym (B.t_drawn i g) in
    task_equal
    (A.c_drawn i h ∙ ap₂ (λ (x y : ℕ). 1 + x / 65536 % y) (same (4 * i + 3)) t ∙ sym (B.c_drawn i g))
    (A.d_drawn i h ∙ ap (λ (x : ℕ). 1 + x / 65536 % 2000) (same (4 * i + 4)) ∙ sym (B.d_drawn i g))
    t
    (A.r_drawn i h ∙ ap (λ (x : ℕ). x / 65536 % 1000) (same (4 * i + 5)) ∙ sym (B.r_drawn i g)))

-- THE LONG KERNEL
-- the last of some tasks, number k, is the long kernel; d is the least D of those before them
record Last (d k : ℕ) (ts us : List Task) : Type 0 where
  as_many : length us ≡ length ts
  others : (i : ℕ) → i < k → task_at us i ≡ task_at ts i
  is_long : task_at us k ≡ long_kernel (task_at us k).C (task_at ts k)
  below : (task_at us k).C ≤ d
  c_most : (i : ℕ) → i < k → (task_at us k).C ≤ (task_at us i).D
  c_one : ((task_at us k).C ≡ d) ⊎ ((i : ℕ) × (i < k) × ((task_at us k).C ≡ (task_at us i).D))

-- the lesser of two is one of them
min_one : (a b : ℕ) → (min a b ≡ a) ⊎ (min a b ≡ b)
min_one a b = split a b (λ h. inl (omega arith)) (λ h. inr (omega arith))

-- a task before the others
module _ (τ : Task) (k : ℕ) (ts us : List Task) where
  before_others : ((i : ℕ) → i < k → task_at us i ≡ task_at ts i) → (i : ℕ) → i < suc k → task_at (τ ∷ us) i ≡ task_at (τ ∷ ts) i
  unfolding task_at
  before_others f zero h = refl
  before_others f (suc i) h = f i (omega arith)

  before_most : (c : ℕ) → c ≤ τ.D → ((i : ℕ) → i < k → c ≤ (task_at us i).D) → (i : ℕ) → i < suc k → c ≤ (task_at (τ ∷ us) i).D
  unfolding task_at
  before_most c b f zero h = b
  before_most c b f (suc i) h = f i (omega arith)

  -- one of the tasks has c as its D
  abbrev One : ℕ → Type 0
  One c = (i : ℕ) × (i < suc k) × (c ≡ (task_at (τ ∷ us) i).D)

  before_one : (c : ℕ) → (c ≡ τ.D) ⊎ ((i : ℕ) × (i < k) × (c ≡ (task_at us i).D)) → One c
  unfolding task_at
  before_one c (inl e) = (0, omega arith, e)
  before_one c (inr x) = (suc x.0, omega (arith, x.1), x.2)

  -- or the least before them
  before_least : (c d : ℕ) → (c ≡ min d τ.D) ⊎ ((i : ℕ) × (i < k) × (c ≡ (task_at us i).D)) → (c ≡ d) ⊎ One c
  before_least c d (inr x) = inr (before_one c (inr x))
  before_least c d (inl e) = go (min_one d τ.D)
    where
      go : (min d τ.D ≡ d) ⊎ (min d τ.D ≡ τ.D) → (c ≡ d) ⊎ One c
      go (inl a) = inl (e ∙ a)
      go (inr b) = inr (before_one c (inl (e ∙ b)))

last_is : (d : ℕ) (τ : Task) (ts : List Task) → Last d (length ts) (τ ∷ ts) (last_long d τ ts)
unfolding last_long task_at
last_is d τ [] =
    record {
      as_many = refl;
      others = λ i h. absurd (omega arith);
      is_long = refl;
      below = omega arith;
      c_most = λ i h. absurd (omega arith);
      c_one = inl refl;
    }
last_is d τ (υ ∷ ts) =
    let us = last_long (min d τ.D) υ ts in
    let L = last_is (min d τ.D) υ ts in
    record {
      as_many = ap suc L.as_many;
      others = before_others τ (length ts) (υ ∷ ts) us L.others;
      is_long = L.is_long;
      below = omega (arith, L.below);
      c_most = before_most τ (length ts) (υ ∷ ts) us (task_at us (length ts)).C (omega (arith, L.below)) L.c_most;
      c_one = before_least τ (length ts) (υ ∷ ts) us (task_at us (length ts)).C d L.c_one;
    }

-- in a set of two tasks or more
pub long_put : (ts : List Task) (k : ℕ) → length ts ≡ suc k → 1 ≤ k → LongAt k ts (with_long ts)
unfolding with_long task_at
long_put [] k n h = absurd (omega arith)
long_put (τ ∷ []) k n h = absurd (omega arith)
long_put (τ ∷ υ ∷ ts) zero n h = absurd (omega arith)
long_put (τ ∷ υ ∷ ts) (suc k) n h =
    let e : length ts ≡ k = omega arith in
    let us = last_long τ.D υ ts in
    let L : Last τ.D k (υ ∷ ts) us = subst (λ (j : ℕ). Last τ.D j (υ ∷ ts) us) e (last_is τ.D υ ts) in
    record {
      as_many = ap suc L.as_many;
      others = before_others τ k (υ ∷ ts) us L.others;
      d_is = ap (λ (ρ : Task). ρ.D) L.is_long;
      t_is = ap (λ (ρ : Task). ρ.T) L.is_long;
      r_kept = ap (λ (ρ : Task). ρ.R) L.is_long;
      c_most = before_most τ k (υ ∷ ts) us (task_at us k).C L.below L.c_most;
      c_one = before_one τ k (υ ∷ ts) us (task_at us k).C L.c_one;
    }

-- and nothing else has those words
pub long_only : (ts us vs : List Task) (k : ℕ) → length ts ≡ suc k → LongAt k ts us → LongAt k ts vs → us ≡ vs
long_only ts us vs k n A B =
    tasks_equal us vs (A.as_many ∙ sym B.as_many) (λ i h. split (suc i) k (λ l. A.others i l ∙ sym (B.others i l)) (λ l.
    let e : k ≡ i = omega (arith, A.as_many) in
    subst (λ (j : ℕ). task_at us j ≡ task_at vs j) e same))
  where
    other : (i : ℕ) → i < k → (task_at us i).D ≡ (task_at vs i).D
    other i l = ap (λ (τ : Task). τ.D) (A.others i l ∙ sym (B.others i l))

    same_c : (task_at us k).C ≡ (task_at vs k).C
    same_c =
        let a = A.c_one in
        let b = B.c_one in
        omega (arith, a.2, b.2, other a.0 a.1, other b.0 b.1, A.c_most b.0 b.1, B.c_most a.0 a.1)

    same : task_at us k ≡ task_at vs k
    same = task_equal same_c (A.d_is ∙ sym B.d_is) (A.t_is ∙ sym B.t_is) (A.r_kept ∙ sym B.r_kept)

-- THE SET, and the state after it
-- one task is left as it is
pub one_stays : (ts : List Task) → length ts ≡ 1 → with_long ts ≡ ts
unfolding with_long
one_stays [] n = absurd (omega arith)
one_stays (τ ∷ []) n = refl
one_stays (τ ∷ υ ∷ ts) n = absurd (omega arith)

module _ (s number : ℕ) where
  count_is : length (tasks_of_set s) ≡ count_drawn s
  count_is = length_tasks_drawn (count_drawn s) (state_after 1 s)

  after_is : state_after (1 + 4 * length (tasks_of_set s)) s ≡ state_after_set s
  unfolding state_after_set
  after_is = ap (λ (n : ℕ). state_after (1 + 4 * n) s) count_is

  -- where the number is no multiple of 4, and where it is one
  pub plain_is : (number % 4 ≡ 0 → ⊥) → set_drawn number s ≡ tasks_of_set s
  unfolding set_drawn
  plain_is h = rw (ne_eqb (number % 4) 0 h)

  pub long_is : number % 4 ≡ 0 → set_drawn number s ≡ with_long (tasks_of_set s)
  unfolding set_drawn
  long_is h = rw (eq-eqb (number % 4) 0 h)

  -- the definitions give what the paper has
  pub seed_gives : FromSeed s number (set_drawn number s) (state_after_set s)
  seed_gives = split (number % 4) 0 (λ l. multiple (omega arith)) (λ l. plain (λ e. omega arith))
    where
      there : {us : List Task} → set_drawn number s ≡ us → FromSeed s number us (state_after (1 + 4 * length (tasks_of_set s)) s) → FromSeed s number (set_drawn number s) (state_after_set s)
      there e x = subst (λ (us : List Task). FromSeed s number us (state_after_set s)) (sym e) (subst (FromSeed s number _) after_is x)

      plain : (number % 4 ≡ 0 → ⊥) → FromSeed s number (set_drawn number s) (state_after_set s)
      plain h = there (plain_is h) (FromSeed.as_drawn (states_drawn s) (set_drawn_law s) (inl h))

      multiple : number % 4 ≡ 0 → FromSeed s number (set_drawn number s) (state_after_set s)
      multiple h =
          split (length (tasks_of_set s)) 1
          (λ l.
          let n : length (tasks_of_set s) ≡ 1 = omega (arith, count_is, count_low s) in
          there (long_is h ∙ one_stays (tasks_of_set s) n) (FromSeed.as_drawn (states_drawn s) (set_drawn_law s) (inr n)))
          (λ l.
          let k : ℕ = length (tasks_of_set s) - 1 in
          let n : length (tasks_of_set s) ≡ suc k = omega arith in
          there (long_is h) (FromSeed.with_long_last (states_drawn s) (set_drawn_law s) h (omega arith) n (long_put (tasks_of_set s) k n (omega arith))))

  -- and the paper has nothing else
  pub seed_only : {us : List Task} {after : ℕ} → FromSeed s number us after → (us ≡ set_drawn number s) × (after ≡ state_after_set s)
  seed_only (FromSeed.as_drawn {σ = σ} {ts = ts} S D c) =
      let e : ts ≡ tasks_of_set s = set_only (states_only S) ts (tasks_of_set s) D (set_drawn_law s) in
      (e ∙ sym (kept c e), states_only S (1 + 4 * length ts) ∙ ap (λ (us : List Task). state_after (1 + 4 * length us) s) e ∙ after_is)
    where
      kept : (number % 4 ≡ 0 → ⊥) ⊎ (length ts ≡ 1) → ts ≡ tasks_of_set s → set_drawn number s ≡ tasks_of_set s
      kept (inl h) e = plain_is h
      kept (inr n) e =
          split (number % 4) 0
          (λ l. long_is (omega arith) ∙ one_stays (tasks_of_set s) (sym (ap (λ (us : List Task). length us) e) ∙ n))
          (λ l. plain_is (λ h. omega arith))
  seed_only (FromSeed.with_long_last {σ = σ} {ts = ts} {us = us} {k = k} S D h low n L) =
      let e : ts ≡ tasks_of_set s = set_only (states_only S) ts (tasks_of_set s) D (set_drawn_law s) in (
        long_only ts us (with_long ts) k n L (long_put ts k n low) ∙ ap with_long e ∙ sym (long_is h),
        states_only S (1 + 4 * length ts) ∙ ap (λ (us : List Task). state_after (1 + 4 * length us) s) e ∙ after_is,
      )

-- THE WORDS
-- a table's tasks, back from their words
pub tasks_back : (ts : List Task) → tasks_of (words_of ts) ≡ ts
unfolding tasks_of words_of
tasks_back [] = refl
tasks_back (τ ∷ ts) = ap (λ (us : List Task). τ ∷ us) (tasks_back ts)

-- and nothing else has them
pub words_back : (ws : List ℕ) → length ws ≡ 4 * length (tasks_of ws) → ws ≡ words_of (tasks_of ws)
unfolding tasks_of words_of
words_back [] n = refl
words_back (c ∷ []) n = absurd (omega arith)
words_back (c ∷ d ∷ []) n = absurd (omega arith)
words_back (c ∷ d ∷ t ∷ []) n = absurd (omega arith)
words_back (c ∷ d ∷ t ∷ r ∷ ws) n = ap (λ (l : List ℕ). c ∷ d ∷ t ∷ r ∷ l) (words_back ws (omega arith))
