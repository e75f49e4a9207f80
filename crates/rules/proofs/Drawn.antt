-- Draws and the sets drawn, as code makes them: one draw, a task's four, the tasks one after another, the set.
use Rattle.std.specs.Prelude.{if◌then◌else◌, Ok, Err}
use mathlib.Core.Path.{◌≡◌, refl, sym, ap, ap₂, ◌∙◌}
use Prim.Native.Nat.{ℕ, zero, suc, ◌+◌, ◌-◌, ◌*◌, ◌/◌, ◌%◌, ◌≤◌, ◌<◌, min}
use native.Mathlib.Nat.{zero-add}
use native.Mathlib.Omega.{arith}
use mathlib.Core.List.{List, [], ◌∷◌, ◌++◌}
use mathlib.Core.Bool.{Bool, true, false, ◌&&◌}
use lib.Dec.{eqb}
use lib.ListN.{length, drop}
use borrow.Author.Tests.{lt-ltb, le-ltb, ne_eqb}
use Rattle.rules.specs.Generator.{next_state, drawn, state_after, count_drawn, task_drawn, tasks_drawn, long_kernel, last_long, with_long, set_drawn, state_after_set, words_of, words_drawn, Draws, draw_refusal, draw_answer, draw_state, draw_table, DrawsSet}
use Rattle.rules.specs.declared.Task.{Task}
use Rattle.rules.specs.declared.Refusal.TheVariants.{TooShort}

-- the state after a draw, in figures
pub next_is : (s : ℕ) → next_state s ≡ (1664525 * s % 4294967296 + 1013904223) % 4294967296
unfolding next_state
next_is s = refl

-- a draw, by the state after it
pub drew : (s r : ℕ) → r ≡ next_state s → Draws s (r / 65536) r
unfolding drawn
drew s r e = record { says = ap (λ (x : ℕ). x / 65536) e; moves = e }

-- draws one after another
pub first_state : (s : ℕ) → state_after 1 s ≡ next_state s
unfolding state_after
first_state s = refl

pub state_none : (s : ℕ) → state_after 0 s ≡ s
unfolding state_after
state_none s = refl

pub state_more : (m n s : ℕ) → state_after n (state_after m s) ≡ state_after (m + n) s
unfolding state_after
state_more zero n s = ap (λ (k : ℕ). state_after k s) (sym (zero-add n))
state_more (suc m) n s =
    let e : suc (m + n) ≡ suc m + n = omega arith in
    state_more m n (next_state s) ∙ ap (λ (k : ℕ). state_after k s) e

-- a task, by its four draws
pub task_drew : {s t c d r s₁ s₂ s₃ s₄ : ℕ} → Draws s t s₁ → Draws s₁ c s₂ → Draws s₂ d s₃ → Draws s₃ r s₄
    → (◌≡◌ {A = Task} (record { C = 1 + c % (1 + t % 1000); D = 1 + d % 2000; T = 1 + t % 1000; R = r % 1000 }) (task_drawn s)) × (s₄ ≡ state_after 4 s)
unfolding task_drawn state_after
task_drew a b e f = (rw (f.says, e.says, b.says, a.says, e.moves, b.moves, a.moves) refl, rw (f.moves, e.moves, b.moves, a.moves) refl)

-- the count, by its draw
pub count_drew : {s n s₁ : ℕ} → Draws s n s₁ → 1 + n % 8 ≡ count_drawn s
unfolding count_drawn
count_drew a = rw a.says refl

pub count_low : (s : ℕ) → 1 ≤ count_drawn s
unfolding count_drawn
count_low s = omega arith

pub count_high : (s : ℕ) → count_drawn s ≤ 8
unfolding count_drawn
count_high s = omega arith

-- how many tasks there are, and how many words
pub length_tasks_drawn : (n s : ℕ) → length (tasks_drawn n s) ≡ n
unfolding tasks_drawn
length_tasks_drawn zero s = refl
length_tasks_drawn (suc n) s = ap suc (length_tasks_drawn n (state_after 4 s))

length_last_long : (d : ℕ) (τ : Task) (ts : List Task) → length (last_long d τ ts) ≡ suc (length ts)
unfolding last_long
length_last_long d τ [] = refl
length_last_long d τ (υ ∷ ts) = ap suc (length_last_long (min d τ.D) υ ts)

pub length_with_long : (ts : List Task) → length (with_long ts) ≡ length ts
unfolding with_long
length_with_long [] = refl
length_with_long (τ ∷ []) = refl
length_with_long (τ ∷ υ ∷ ts) = ap suc (length_last_long τ.D υ ts)

pub length_set_drawn : (number s : ℕ) → length (set_drawn number s) ≡ count_drawn s
unfolding set_drawn
length_set_drawn number s = go (eqb (number % 4) 0)
  where
    ts : List Task
    ts = tasks_drawn (count_drawn s) (state_after 1 s)

    go : (b : Bool) → length (if b then with_long ts else ts) ≡ count_drawn s
    go true = length_with_long ts ∙ length_tasks_drawn (count_drawn s) (state_after 1 s)
    go false = length_tasks_drawn (count_drawn s) (state_after 1 s)

pub length_words_of : (ts : List Task) → length (words_of ts) ≡ 4 * length ts
unfolding words_of
length_words_of [] = refl
length_words_of (τ ∷ ts) = omega (arith, length_words_of ts)

pub length_words_drawn : (number s : ℕ) → length (words_drawn number s) ≡ 4 * count_drawn s
length_words_drawn number s = omega (arith, length_words_of (set_drawn number s), length_set_drawn number s)

-- THE TASKS ONE AFTER ANOTHER. What becomes of those after the first; d is the least D before them
abbrev pub rest : Bool → ℕ → List Task → List Task
rest false d ts = ts
rest true d [] = []
rest true d (τ ∷ ts) = last_long d τ ts

-- the first task is as it was drawn
pub rest_all : (asked : Bool) (n s : ℕ) → 1 ≤ n
    → (if asked then with_long (tasks_drawn n s) else tasks_drawn n s) ≡ task_drawn s ∷ rest asked (task_drawn s).D (tasks_drawn (n - 1) (state_after 4 s))
unfolding tasks_drawn with_long
rest_all asked zero s h = absurd (omega arith)
rest_all false (suc n) s h = let e : n ≡ suc n - 1 = omega arith in ap (λ (k : ℕ). task_drawn s ∷ tasks_drawn k (state_after 4 s)) e
rest_all true (suc zero) s h = refl
rest_all true (suc (suc n)) s h =
    let e : suc n ≡ suc (suc n) - 1 = omega arith in
    ap (λ (k : ℕ). task_drawn s ∷ rest true (task_drawn s).D (tasks_drawn k (state_after 4 s))) e

-- the next one is too, unless it is the last and the long kernel is asked for
pub rest_more : (asked : Bool) (d k s : ℕ) → 1 ≤ k
    → rest asked d (tasks_drawn k s)
    ≡ (if asked && eqb k 1 then long_kernel d (task_drawn s) else task_drawn s) ∷ rest asked (min d (task_drawn s).D) (tasks_drawn (k - 1) (state_after 4 s))
unfolding tasks_drawn last_long
rest_more asked d zero s h = absurd (omega arith)
rest_more false d (suc n) s h = let e : n ≡ suc n - 1 = omega arith in ap (λ (k : ℕ). task_drawn s ∷ tasks_drawn k (state_after 4 s)) e
rest_more true d (suc zero) s h = refl
rest_more true d (suc (suc n)) s h =
    let e : suc n ≡ suc (suc n) - 1 = omega arith in
    rw (ne_eqb (suc (suc n)) 1 (omega arith)) (ap (λ (k : ℕ). task_drawn s ∷ rest true (min d (task_drawn s).D) (tasks_drawn k (state_after 4 s))) e)

-- none is left
pub rest_none : (asked : Bool) (d k s : ℕ) → k ≡ 0 → rest asked d (tasks_drawn k s) ≡ []
unfolding tasks_drawn
rest_none false d k s e = rw e
rest_none true d k s e = rw e

-- the words of tasks
pub words_of_none : words_of [] ≡ []
unfolding words_of
words_of_none = refl

pub words_of_more : (τ : Task) (ts : List Task) → words_of (τ ∷ ts) ≡ τ.C ∷ τ.D ∷ τ.T ∷ τ.R ∷ words_of ts
unfolding words_of
words_of_more τ ts = refl

pub words_of_append : (ts us : List Task) → words_of (ts ++ us) ≡ words_of ts ++ words_of us
unfolding words_of
words_of_append [] us = refl
words_of_append (τ ∷ ts) us = ap (λ (l : List ℕ). τ.C ∷ τ.D ∷ τ.T ∷ τ.R ∷ l) (words_of_append ts us)

-- THE SET
module _ (s number : ℕ) (table : List ℕ) where
  -- 6: the table is shorter than the set drawn
  pub set_refused : length table < 4 * count_drawn s → DrawsSet s number table (Err TooShort) s table
  unfolding draw_refusal draw_answer draw_state draw_table
  set_refused h =
      let e = lt-ltb (length table) (length (words_drawn number s)) (omega (arith, length_words_drawn number s)) in
      record { says = rw e; moves = rw e; leaves = rw e }

  -- the set's words, and the state after it
  pub set_given : 4 * count_drawn s ≤ length table
      → DrawsSet s number table (Ok (count_drawn s)) (state_after_set s) (words_drawn number s ++ drop (4 * count_drawn s) table)
  unfolding draw_refusal draw_answer draw_state draw_table
  set_given h =
      let n = length_words_drawn number s in
      let e = le-ltb (length table) (length (words_drawn number s)) (omega arith) in
      record {
        says = rw (e, length_set_drawn number s);
        moves = rw e;
        leaves = rw e (ap (λ (k : ℕ). words_drawn number s ++ drop k table) (sym n));
      }

-- the same where n was drawn for the count, and the tasks from the state after that
module _ {s n s₁ : ℕ} (number : ℕ) (table : List ℕ) (a : Draws s n s₁) where
  pub set_short : length table < 4 * (1 + n % 8) → DrawsSet s number table (Err TooShort) s table
  set_short h = set_refused s number table (omega (arith, count_drew a))

  pub set_drew : {exit : List ℕ} {s₂ : ℕ} → 4 * (1 + n % 8) ≤ length table → s₂ ≡ state_after (4 * (1 + n % 8)) s₁
      → exit
      ≡ words_of (if eqb (number % 4) 0 then with_long (tasks_drawn (1 + n % 8) s₁) else tasks_drawn (1 + n % 8) s₁) ++ drop (4 * (1 + n % 8)) table
      → DrawsSet s number table (Ok (1 + n % 8)) s₂ exit
  unfolding set_drawn state_after_set
  set_drew {exit} {s₂} h es ex =
      let k = count_drew a in
      let one : s₁ ≡ state_after 1 s = a.moves ∙ sym (first_state s) in
      let g = set_given s number table (omega (arith, k)) in
      record {
        says = ap Ok k ∙ g.says;
        moves = es ∙ ap₂ (λ (i j : ℕ). state_after (4 * i) j) k one ∙ state_more 1 (4 * count_drawn s) s ∙ g.moves;
        leaves =
            ex
            ∙ ap₂ (λ (i j : ℕ). words_of (if eqb (number % 4) 0 then with_long (tasks_drawn i j) else tasks_drawn i j) ++ drop (4 * i) table) k one
            ∙ g.leaves;
      }
