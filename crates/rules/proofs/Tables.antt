-- Tables that are not refused: what they are in bounds, and their tasks by number.
use Rattle.std.specs.Prelude.{if◌then◌else◌, Option, Some, None}
use mathlib.Core.Path.{◌≡◌, refl, sym, ap, subst, ◌∙◌}
use Prim.Native.Nat.{ℕ, zero, suc, ◌+◌, ◌*◌, ◌/◌, ◌%◌, ◌≤◌, ◌<◌}
use native.Mathlib.Nat.{add-zero, zero-add}
use native.Mathlib.Omega.{arith}
use mathlib.Core.List.Memᴰ
use mathlib.Core.List.{List, [], ◌∷◌}
use mathlib.Core.Bool.{Bool, true, false, not}
use lib.Dec.{leb, ltb, eqb}
use lib.ListN.{length, get_or, drop, drop_of_length-le}
use lib.Seq.{drop-cons}
use borrow.Author.Tests.{leb-true, ltb-false, eqb-true, eqb-false, ne_eqb, not-false}
use Rattle.rules.specs.Task.{tasks_of, task_at, Sound, AllSound}
use Rattle.rules.specs.declared.Task.{Task}
use Rattle.rules.specs.Refusals.{◌when◌, first_of}
use Rattle.rules.specs.Numbers.{word_most}
use Rattle.rules.specs.Table.{word_least, in_range, out_of_range, table_refusal, task_in, tasks_from, Valid}
use Rattle.rules.specs.declared.Refusal.{Refusal}
use Rattle.rules.specs.declared.Refusal.TheVariants.{NoWord, NotFours, TooManyWords, OutOfRange}
use Rattle.std.proofs.lemmas.Bool.{and_parts}

-- a refusal is not none
some_is_not_none : {A : Type 0} {r : Refusal} → ◌≡◌ {A = Option Refusal} (Some r) None → A
some_is_not_none e = let z : ◌≡◌ {A = ℕ} 0 1 = cc in absurd (omega arith)

-- the first of the refusals is not given, nor is any later one
pub not_given : (o : Option Refusal) (os : List (Option Refusal)) → first_of (o ∷ os) ≡ None → (o ≡ None) × (first_of os ≡ None)
not_given None os e = (refl, e)
not_given (Some r) os e = some_is_not_none e

pub when_not : (r : Refusal) (b : Bool) → (r when b) ≡ None → b ≡ false
when_not r true e = some_is_not_none e
when_not r false e = refl

-- every word from index k on is in its range
in_range_law : (k : ℕ) (w : List ℕ) → out_of_range k w ≡ None → (i : ℕ) → i < length w → in_range (k + i) (get_or w i 0) ≡ true
unfolding out_of_range
in_range_law k [] e i h = absurd (omega arith)
in_range_law k (x ∷ w) e i h = go (in_range k x) refl e i h (in_range_law (suc k) w)
  where
    go : (b : Bool) → in_range k x ≡ b → (if b then out_of_range (suc k) w else Some (OutOfRange k)) ≡ None → (i : ℕ) → i < length (x ∷ w)
        → (out_of_range (suc k) w ≡ None → (i : ℕ) → i < length w → in_range (suc k + i) (get_or w i 0) ≡ true)
        → in_range (k + i) (get_or (x ∷ w) i 0) ≡ true
    go true p q zero h ih = rw add-zero p
    go true p q (suc i) h ih = let s : suc k + i ≡ k + suc i = omega arith in subst (λ (n : ℕ). in_range n (get_or w i 0) ≡ true) s (ih q i (omega arith))
    go false p q i h ih = some_is_not_none q

range_low : (i x : ℕ) → in_range i x ≡ true → (i % 4 < 3) → 1 ≤ x
unfolding in_range word_least
range_low i x e h =
    let n : eqb (i % 4) 3 ≡ false = ne_eqb (i % 4) 3 (omega arith) in
    let b = and_parts (leb (word_least i) x) (leb x word_most) e in
    leb-true _ _ (rw n at b.0)

range_high : (i x : ℕ) → in_range i x ≡ true → x ≤ 65535
unfolding in_range
range_high i x e = leb-true _ _ (and_parts (leb (word_least i) x) (leb x word_most) e).1

-- a table that is not refused, in bounds
pub valid_of : (w : List ℕ) → table_refusal w ≡ None → Valid w (length w / 4)
unfolding table_refusal
valid_of w e =
    let a : (one ≡ None) × (first_of (two ∷ three ∷ out_of_range 0 w ∷ []) ≡ None) = not_given one (two ∷ three ∷ out_of_range 0 w ∷ []) e in
    let b : (two ≡ None) × (first_of (three ∷ out_of_range 0 w ∷ []) ≡ None) = not_given two (three ∷ out_of_range 0 w ∷ []) a.1 in
    let c : (three ≡ None) × (first_of (out_of_range 0 w ∷ []) ≡ None) = not_given three (out_of_range 0 w ∷ []) b.1 in
    let d : (out_of_range 0 w ≡ None) × (first_of [] ≡ None) = not_given (out_of_range 0 w) [] c.1 in
    let ne : length w ≡ 0 → ⊥ = eqb-false _ _ (when_not NoWord (eqb (length w) 0) a.0) in
    let fours : length w % 4 ≡ 0 = eqb-true _ _ (not-false _ (when_not NotFours (not (eqb (length w % 4) 0)) b.0)) in
    let most : length w ≤ 256 = ltb-false _ _ (when_not TooManyWords (ltb 256 (length w)) c.0) in
    let at : (i : ℕ) → i < length w → in_range i (get_or w i 0) ≡ true = λ i h. rw zero-add at (in_range_law 0 w d.0 i h) in
    record {
      words = omega arith;
      some_task = omega arith;
      most_tasks = omega arith;
      c_low = λ i h. range_low (4 * i) _ (at (4 * i) (omega arith)) (omega arith);
      d_low = λ i h. range_low (4 * i + 1) _ (at (4 * i + 1) (omega arith)) (omega arith);
      t_low = λ i h. range_low (4 * i + 2) _ (at (4 * i + 2) (omega arith)) (omega arith);
      high = λ i h. range_high i _ (at i (omega arith));
    }
  where
    one : Option Refusal
    one = NoWord when eqb (length w) 0

    two : Option Refusal
    two = NotFours when not (eqb (length w % 4) 0)

    three : Option Refusal
    three = TooManyWords when ltb 256 (length w)

-- the words of task k, and those of the tasks after it
words_at : (w : List ℕ) (k : ℕ) → 4 * k + 3 < length w
    → drop (4 * k) w ≡ get_or w (4 * k) 0 ∷ get_or w (4 * k + 1) 0 ∷ get_or w (4 * k + 2) 0 ∷ get_or w (4 * k + 3) 0 ∷ drop (4 * suc k) w
words_at w k h =
    at (4 * k) (4 * k + 1) (omega arith) (omega arith)
    ∙ ap (λ (l : List ℕ). get_or w (4 * k) 0 ∷ l)
    (at (4 * k + 1) (4 * k + 2) (omega arith) (omega arith)
    ∙ ap (λ (l : List ℕ). get_or w (4 * k + 1) 0 ∷ l)
    (at (4 * k + 2) (4 * k + 3) (omega arith) (omega arith)
    ∙ ap (λ (l : List ℕ). get_or w (4 * k + 2) 0 ∷ l) (at (4 * k + 3) (4 * suc k) (omega arith) (omega arith))))
  where
    at : (i j : ℕ) → i < length w → suc i ≡ j → drop i w ≡ get_or w i 0 ∷ drop j w
    at i j l e = drop-cons w i 0 l ∙ ap (λ (x : ℕ). get_or w i 0 ∷ drop x w) e

-- the tasks of a table, by number
tasks_from_law : (w : List ℕ) (n k : ℕ) → length w ≡ 4 * (k + n) → tasks_of (drop (4 * k) w) ≡ tasks_from w n k
unfolding tasks_of tasks_from
tasks_from_law w zero k e = ap tasks_of (drop_of_length-le w {i = 4 * k} (omega arith))
tasks_from_law w (suc n) k e =
    ap tasks_of (words_at w k (omega arith)) ∙ ap (λ (l : List Task). task_in w k ∷ l) (tasks_from_law w n (suc k) (omega arith))

pub tasks_are : (w : List ℕ) (m : ℕ) → length w ≡ 4 * m → tasks_of w ≡ tasks_from w m 0
tasks_are w m e = tasks_from_law w m 0 (omega arith)

length_tasks_from : (w : List ℕ) (n k : ℕ) → length (tasks_from w n k) ≡ n
unfolding tasks_from
length_tasks_from w zero k = refl
length_tasks_from w (suc n) k = ap suc (length_tasks_from w n (suc k))

-- a table has a task for four words
pub length_tasks : (w : List ℕ) (m : ℕ) → length w ≡ 4 * m → length (tasks_of w) ≡ m
length_tasks w m e = ap (λ (l : List Task). length l) (tasks_are w m e) ∙ length_tasks_from w m 0

task_at_from : (w : List ℕ) (n k i : ℕ) → i < n → task_at (tasks_from w n k) i ≡ task_in w (k + i)
unfolding task_at tasks_from
task_at_from w zero k i h = absurd (omega arith)
task_at_from w (suc n) k zero h = rw add-zero
task_at_from w (suc n) k (suc i) h =
    let s : suc k + i ≡ k + suc i = omega arith in
    task_at_from w n (suc k) i (omega arith) ∙ ap (task_in w) s

pub task_at_is : (w : List ℕ) (m i : ℕ) → length w ≡ 4 * m → i < m → task_at (tasks_of w) i ≡ task_in w i
task_at_is w m i e h = ap (λ (l : List Task). task_at l i) (tasks_are w m e) ∙ task_at_from w m 0 i h ∙ ap (task_in w) (zero-add i)

-- each task of a table that is not refused: C, D and T are 1 or more, and C is at most 65,535
pub task_sound : (w : List ℕ) (m i : ℕ) → Valid w m → i < m → Sound (task_in w i)
task_sound w m i v h = record { c_pos = v.c_low i h; d_pos = v.d_low i h; t_pos = v.t_low i h }

pub task_c_most : (w : List ℕ) (m i : ℕ) → Valid w m → i < m → (task_in w i).C ≤ word_most
task_c_most w m i v h = v.high (4 * i) (omega arith)

sound_from : (w : List ℕ) (m n k : ℕ) → Valid w m → k + n ≤ m → AllSound (tasks_from w n k)
unfolding tasks_from
sound_from w m zero k v h τ x = absurd (Memᴰ.not-nil x)
sound_from w m (suc n) k v h τ (Memᴰ.head e) =
    rw e (task_sound w m k v (omega arith))
sound_from w m (suc n) k v h τ (Memᴰ.tail x) = sound_from w m n (suc k) v (omega arith) τ x

-- the tasks of a table that is not refused have C, D and T of 1 or more
pub sound_tasks : (w : List ℕ) (m : ℕ) → Valid w m → AllSound (tasks_of w)
sound_tasks w m v = subst (λ (ts : List Task). AllSound ts) (sym (tasks_are w m v.words)) (sound_from w m m 0 v (omega arith))

pub table_sound : (w : List ℕ) → table_refusal w ≡ None → AllSound (tasks_of w)
table_sound w e = sound_tasks w (length w / 4) (valid_of w e)
