-- A set drawn is one that the verdict doesn't refuse: its tasks are short, or one of them is the long kernel, and so all its words are in range.
use Rattle.std.specs.Prelude.{if◌then◌else◌, None}
use mathlib.Core.Path.{◌≡◌, refl}
use Prim.Native.Nat.{ℕ, zero, suc, ◌+◌, ◌%◌, ◌≤◌, ◌<◌, min}
use native.Mathlib.Nat.{mod-lt}
use native.Mathlib.Omega.{arith}
use mathlib.Core.List.Memᴰ
use mathlib.Core.List.{List, [], ◌∷◌, Memᴰ}
use mathlib.Core.Bool.{Bool, true, false}
use lib.Dec.{eqb}
use lib.ListN.{length, get_or}
use Rattle.rules.specs.Table.{table_refusal, Ranged, Fine}
use Rattle.rules.specs.Generator.{drawn, state_after, count_drawn, task_drawn, tasks_drawn, long_kernel, last_long, with_long, set_drawn, words_of, words_drawn}
use Rattle.rules.specs.declared.Task.{Task}
use Rattle.rules.proofs.Drawn.{count_low, count_high, length_words_drawn}
use Rattle.rules.proofs.Refused.{refused_not}

-- each task as it is drawn: T 1 to 1,000, C 1 to T, D 1 to 2,000, R 0 to 999
pub record Short (τ : Task) : Type 0 where
  pub t_low : 1 ≤ τ.T
  pub t_high : τ.T ≤ 1000
  pub c_low : 1 ≤ τ.C
  pub c_high : τ.C ≤ τ.T
  pub d_low : 1 ≤ τ.D
  pub d_high : τ.D ≤ 2000
  pub r_high : τ.R ≤ 999

pub task_short : (s : ℕ) → Short (task_drawn s)
unfolding task_drawn
task_short s =
    record {
      t_low = omega arith;
      t_high = omega arith;
      c_low = omega arith;
      c_high = omega (arith, mod-lt (drawn (state_after 1 s)) {m = 1 + drawn s % 1000} (omega arith));
      d_low = omega arith;
      d_high = omega arith;
      r_high = omega arith;
    }

pub tasks_short : (n s : ℕ) (τ : Task) → Memᴰ τ (tasks_drawn n s) → Short τ
unfolding tasks_drawn
tasks_short zero s τ x = absurd (Memᴰ.not-nil x)
tasks_short (suc n) s τ (Memᴰ.head e) = rw e (task_short s)
tasks_short (suc n) s τ (Memᴰ.tail x) = tasks_short n (state_after 4 s) τ x

-- a task whose words are in their ranges
record Bounded (τ : Task) : Type 0 where
  c_low : 1 ≤ τ.C
  c_high : τ.C ≤ 65535
  d_low : 1 ≤ τ.D
  d_high : τ.D ≤ 65535
  t_low : 1 ≤ τ.T
  t_high : τ.T ≤ 65535
  r_high : τ.R ≤ 65535

short_bounded : (τ : Task) → Short τ → Bounded τ
short_bounded τ b =
    record {
      c_low = b.c_low;
      c_high = omega (arith, b.c_high, b.t_high);
      d_low = b.d_low;
      d_high = omega (arith, b.d_high);
      t_low = b.t_low;
      t_high = omega (arith, b.t_high);
      r_high = omega (arith, b.r_high);
    }

long_bounded : (d : ℕ) (τ : Task) → 1 ≤ d → d ≤ 2000 → Short τ → Bounded (long_kernel d τ)
long_bounded d τ low high b =
    record {
      c_low = low;
      c_high = omega arith;
      d_low = omega arith;
      d_high = omega arith;
      t_low = omega arith;
      t_high = omega arith;
      r_high = omega (arith, b.r_high);
    }

-- the tasks with the long kernel among them
last_bounded : (d : ℕ) (τ : Task) (ts : List Task) → 1 ≤ d → d ≤ 2000 → ((υ : Task) → Memᴰ υ (τ ∷ ts) → Short υ)
    → (υ : Task) → Memᴰ υ (last_long d τ ts) → Bounded υ
unfolding last_long
last_bounded d τ [] low high all υ (Memᴰ.head e) = rw e (long_bounded d τ low high (all τ (Memᴰ.head refl)))
last_bounded d τ [] low high all υ (Memᴰ.tail x) = absurd (Memᴰ.not-nil x)
last_bounded d τ (ρ ∷ ts) low high all υ (Memᴰ.head e) = rw e (short_bounded τ (all τ (Memᴰ.head refl)))
last_bounded d τ (ρ ∷ ts) low high all υ (Memᴰ.tail x) =
    let b = all τ (Memᴰ.head refl) in
    last_bounded (min d τ.D) ρ ts (omega (arith, b.d_low)) (omega arith) (λ κ y. all κ (Memᴰ.tail y)) υ x

with_bounded : (ts : List Task) → ((υ : Task) → Memᴰ υ ts → Short υ) → (υ : Task) → Memᴰ υ (with_long ts) → Bounded υ
unfolding with_long
with_bounded [] all υ x = absurd (Memᴰ.not-nil x)
with_bounded (τ ∷ []) all υ x = short_bounded υ (all υ x)
with_bounded (τ ∷ ρ ∷ ts) all υ (Memᴰ.head e) = rw e (short_bounded τ (all τ (Memᴰ.head refl)))
with_bounded (τ ∷ ρ ∷ ts) all υ (Memᴰ.tail x) =
    let b = all τ (Memᴰ.head refl) in
    last_bounded τ.D ρ ts b.d_low b.d_high (λ κ y. all κ (Memᴰ.tail y)) υ x

set_bounded : (number s : ℕ) (υ : Task) → Memᴰ υ (set_drawn number s) → Bounded υ
unfolding set_drawn
set_bounded number s υ = go (eqb (number % 4) 0)
  where
    ts : List Task
    ts = tasks_drawn (count_drawn s) (state_after 1 s)

    go : (b : Bool) → Memᴰ υ (if b then with_long ts else ts) → Bounded υ
    go true x = with_bounded ts (tasks_short (count_drawn s) (state_after 1 s)) υ x
    go false x = short_bounded υ (tasks_short (count_drawn s) (state_after 1 s) υ x)

-- four words on, a word has the same range
four_on : (i x : ℕ) → Ranged i x → Ranged (suc (suc (suc (suc i)))) x
four_on i x r = record { low = λ h. r.low (omega arith); high = r.high }

-- the words of such tasks are in range
words_ranged : (ts : List Task) → ((υ : Task) → Memᴰ υ ts → Bounded υ) → (i : ℕ) → i < length (words_of ts) → Ranged i (get_or (words_of ts) i 0)
unfolding words_of
words_ranged [] all i h = absurd (omega arith)
words_ranged (τ ∷ ts) all zero h = let b = all τ (Memᴰ.head refl) in record { low = λ l. b.c_low; high = b.c_high }
words_ranged (τ ∷ ts) all (suc zero) h = let b = all τ (Memᴰ.head refl) in record { low = λ l. b.d_low; high = b.d_high }
words_ranged (τ ∷ ts) all (suc (suc zero)) h = let b = all τ (Memᴰ.head refl) in record { low = λ l. b.t_low; high = b.t_high }
words_ranged (τ ∷ ts) all (suc (suc (suc zero))) h = let b = all τ (Memᴰ.head refl) in record { low = λ l. absurd (omega arith); high = b.r_high }
words_ranged (τ ∷ ts) all (suc (suc (suc (suc i)))) h =
    four_on i _ (words_ranged ts (λ κ y. all κ (Memᴰ.tail y)) i (omega arith))

-- 1 to 64 tasks of four words, every word in its range
pub set_fine : (number s : ℕ) → Fine (words_drawn number s)
set_fine number s =
    let l = length_words_drawn number s in
    record {
      some_word = λ e. omega (arith, count_low s);
      fours = omega arith;
      few = omega (arith, count_high s);
      ranged = words_ranged (set_drawn number s) (set_bounded number s);
    }

-- so it is not refused
pub drawn_fine : (number s : ℕ) → table_refusal (words_drawn number s) ≡ None
drawn_fine number s = (refused_not (words_drawn number s)).1 (set_fine number s)
