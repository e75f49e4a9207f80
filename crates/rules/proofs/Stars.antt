-- The starred sets hold: one test computed over the whole table, and a law that turns the test of a row into what the row says.
use mathlib.Core.Path.{◌≡◌, refl, sym, ap, ◌∙◌}
use Prim.Native.Nat.{ℕ, ◌-◌, ◌≤◌}
use native.Mathlib.Omega.{arith}
use mathlib.Core.List.Memᴰ
use mathlib.Core.List.{List, [], ◌∷◌, ◌++◌, append-nil, Memᴰ}
use mathlib.Core.Bool.{Bool, true, false, ◌&&◌}
use lib.Dec.{leb, eqb}
use lib.ListN.{length, drop, drop_of_length-le, replicate}
use borrow.Author.Tests.{leb-true, eqb-true}
use Rattle.rules.specs.Choice.{least}
use Rattle.rules.specs.Task.{tasks_of, AllSound}
use Rattle.rules.specs.declared.Task.{Task}
use Rattle.rules.specs.Table.{word_least, in_range, out_of_range, table_refusal}
use Rattle.rules.specs.Dispatch.{finish, late, before, sooner, pick, same, without, earliest, ready, rows, dispatch, late_job, row_words}
use Rattle.rules.specs.Jobs.{train, trains, count_before, concrete_train, planned, concrete, named_train}
use Rattle.rules.specs.Numbers.{end_most, horizon}
use Rattle.rules.specs.Demand.{count_within, due, total_due, wait, longest_wait, fails, excess, ceiling, work, closes, first_fail, span, first_waiting, blocker, verdict}
use Rattle.rules.specs.Answers.{schedule_rows, is_misses, named_by, pattern_rows, schedule_answer, schedule_buffer, verdict_answer, pattern_answer, pattern_buffer}
use Rattle.rules.specs.Stars.{set, Outcome, meets, misses, on_time, pattern, Star, stars, Right, Stars}
use Rattle.rules.specs.declared.Verdict.{Verdict}
use Rattle.rules.proofs.Booleans.{true_is_not_false}
use Rattle.rules.proofs.Tables.{table_sound}
use Rattle.rules.proofs.RowWords.{length_row_words}
use Rattle.rules.proofs.Calls.{counted, dispatch_rows, schedule_rows_law, pattern_rows_law}
use Rattle.rules.proofs.Search.{found, none_found}
use Rattle.rules.proofs.BelowTheSpan.{least_below}
use Rattle.rules.proofs.Verdicts.{First, NoneIn, none_when, misses_when, meets_when}
use Rattle.std.specs.Prelude.{Option, Some, None, Ok}
use Rattle.std.proofs.lemmas.Bool.{and_parts}

-- tests of equality
abbrev nothing : {A : Type 0} → Option A → Bool
nothing None = true
nothing (Some a) = false

abbrev just : ℕ → Option ℕ → Bool
just x None = false
just x (Some y) = eqb x y

abbrev alike : List ℕ → List ℕ → Bool
alike [] [] = true
alike [] (y ∷ ys) = false
alike (x ∷ xs) [] = false
alike (x ∷ xs) (y ∷ ys) = eqb x y && alike xs ys

abbrev one_blocker : Option ℕ → Option ℕ → Bool
one_blocker (Some a) (Some b) = eqb a b
one_blocker (Some a) None = false
one_blocker None (Some b) = false
one_blocker None None = true

nothing_true : {A : Type 0} (o : Option A) → nothing o ≡ true → o ≡ None
nothing_true None e = refl
nothing_true (Some a) e = true_is_not_false (sym e)

just_true : (x : ℕ) (o : Option ℕ) → just x o ≡ true → o ≡ Some x
just_true x None e = true_is_not_false (sym e)
just_true x (Some y) e = ap Some (sym (eqb-true x y e))

alike_true : (xs ys : List ℕ) → alike xs ys ≡ true → xs ≡ ys
alike_true [] [] e = refl
alike_true [] (y ∷ ys) e = true_is_not_false (sym e)
alike_true (x ∷ xs) [] e = true_is_not_false (sym e)
alike_true (x ∷ xs) (y ∷ ys) e =
    let b = and_parts (eqb x y) (alike xs ys) e in
    let p = eqb-true x y b.0 in
    let q = alike_true xs ys b.1 in
    cc

blocker_true : (a b : Option ℕ) → one_blocker a b ≡ true → b ≡ a
blocker_true (Some a) (Some b) e = ap Some (sym (eqb-true a b e))
blocker_true (Some a) None e = true_is_not_false (sym e)
blocker_true None (Some b) e = true_is_not_false (sym e)
blocker_true None None e = refl

-- the tests of a row; of a set that meets, only lengths below the span are looked at
tests : List ℕ → Outcome → List Bool
tests w (meets σ) =
    just σ (least (λ t. closes t (tasks_of w)) σ 1) ∷ nothing (least (λ L. fails L (tasks_of w)) (σ - 1) 1) ∷ leb σ horizon ∷ []
tests w (misses L b over) =
    just L (least (λ K. fails K (tasks_of w)) L 1)
    ∷ one_blocker (blocker L (tasks_of w)) b
    ∷ eqb over (excess L (tasks_of w))
    ∷ leb L horizon
    ∷ []
tests w (on_time z n words) =
    leb 1 z
    ∷ leb z end_most
    ∷ eqb n (length (schedule_rows w z))
    ∷ alike (row_words (schedule_rows w z)) words
    ∷ nothing (late_job (schedule_rows w z))
    ∷ []
tests w (pattern n words) = is_misses (verdict (tasks_of w)) ∷ eqb n (length (pattern_rows w)) ∷ alike (row_words (pattern_rows w)) words ∷ []

-- all of some tests, computed, and each of them
abbrev every : List Bool → Bool
every [] = true
every (b ∷ bs) = b && every bs

abbrev Each : List Bool → Type 0
Each [] = Unit {0}
Each (b ∷ bs) = (b ≡ true) × Each bs

each : (bs : List Bool) → every bs ≡ true → Each bs
each [] e = tt
each (b ∷ bs) e = let x = and_parts b (every bs) e in (x.0, each bs x.1)

-- a set that closes at σ and of which no length below σ fails meets, with that span where it is the first to close
module _ (ts : List Task) (sound : AllSound ts) where
  none_fails : (σ : ℕ) → 1 ≤ σ → closes σ ts ≡ true → least (λ L. fails L ts) (σ - 1) 1 ≡ None → NoneIn (λ L. fails L ts)
  none_fails σ pos c e = (none_when (λ L. fails L ts)).0 (go (least (λ L. fails L ts) horizon 1) refl)
    where
      go : (o : Option ℕ) → least (λ L. fails L ts) horizon 1 ≡ o → o ≡ None
      go None q = refl
      go (Some L) q =
          let f = found (λ L. fails L ts) horizon 1 L q in
          let l = least_below ts sound σ pos c L f.passes f.none_before in
          true_is_not_false (sym f.passes ∙ none_found (λ L. fails L ts) (σ - 1) 1 e L f.low (omega arith))

  -- the least of a short search is that of the search to H
  first_of : (p : ℕ → Bool) (x : ℕ) → least p x 1 ≡ Some x → x ≤ horizon → First p x
  first_of p x e h =
      let f = found p x 1 x e in
      record { low = f.low; high = h; passes = f.passes; none_before = f.none_before }

  meets_right : (σ : ℕ) → least (λ t. closes t ts) σ 1 ≡ Some σ → least (λ L. fails L ts) (σ - 1) 1 ≡ None → σ ≤ horizon → verdict ts ≡ Verdict.Meets σ
  meets_right σ c e h =
      let f = first_of (λ t. closes t ts) σ c h in
      (meets_when ts σ).1 (none_fails σ f.low f.passes e, f)

  misses_right : (L : ℕ) (b : Option ℕ) (over : ℕ) → least (λ K. fails K ts) L 1 ≡ Some L → b ≡ blocker L ts → over ≡ excess L ts → L ≤ horizon
      → verdict ts ≡ Verdict.Misses L b over
  misses_right L b over e i j h = (misses_when ts L b over).1 (first_of (λ K. fails K ts) L e h, i, j)

-- a buffer that just holds the rows is filled with them
filled : (xs out : List ℕ) → length out ≡ length xs → xs ++ drop (length xs) out ≡ xs
filled xs out e = rw (drop_of_length-le out {i = length xs} (omega arith)) (append-nil xs)

-- the rows, where nothing is refused
module _ (w : List ℕ) (f : table_refusal w ≡ None) (n : ℕ) (words out : List ℕ) (fits : length out ≡ length words) where
  schedule_right : (z : ℕ) → 1 ≤ z → z ≤ end_most → n ≡ length (schedule_rows w z) → row_words (schedule_rows w z) ≡ words
      → late_job (schedule_rows w z) ≡ None → (schedule_answer w z out ≡ Ok (record { rows = n; late = None })) × (schedule_buffer w z out ≡ words)
  schedule_right z low high e i l =
      let m = length_row_words (schedule_rows w z) in
      let k = ap (λ (xs : List ℕ). length xs) i in
      let x = schedule_rows_law w z out f low high (dispatch_rows (concrete z (tasks_of w)) out (omega arith)) in
      (sym x.says ∙ rw (l, e), sym x.leaves ∙ rw i (filled words out fits))

  pattern_right : is_misses (verdict (tasks_of w)) ≡ true → n ≡ length (pattern_rows w) → row_words (pattern_rows w) ≡ words
      → (pattern_answer w out ≡ Ok n) × (pattern_buffer w out ≡ words)
  pattern_right v e i =
      let m = length_row_words (pattern_rows w) in
      let k = ap (λ (xs : List ℕ). length xs) i in
      let x = pattern_rows_law w out f v (dispatch_rows (named_by (verdict (tasks_of w)) w) out (omega arith)) in
      (sym x.says ∙ (counted (length (pattern_rows w)) (late_job (pattern_rows w)) ∙ ap Ok (sym e)), sym x.leaves ∙ rw i (filled words out fits))

-- a row that passes its tests is right
right : (w : List ℕ) (o : Outcome) → table_refusal w ≡ None → Each (tests w o) → Right w o
unfolding tests verdict_answer
right w (meets σ) f e =
    rw f
    (ap Ok
    (meets_right (tasks_of w) (table_sound w f) σ (just_true σ _ e.0) (nothing_true _ e.1.0) (leb-true _ _ e.1.1.0)))
right w (misses L b over) f e =
    rw f
    (ap Ok
    (misses_right (tasks_of w) (table_sound w f) L b over (just_true L _ e.0) (blocker_true _ b e.1.0) (eqb-true _ _ e.1.1.0) (leb-true _ _ e.1.1.1.0)))
right w (on_time z n words) f e = λ out h.
    schedule_right w f n words out h z (leb-true _ _ e.0) (leb-true _ _ e.1.0) (eqb-true _ _ e.1.1.0) (alike_true _ _ e.1.1.1.0) (nothing_true _ e.1.1.1.1.0)
right w (pattern n words) f e = λ out h.
    pattern_right w f n words out h e.0 (eqb-true _ _ e.1.0) (alike_true _ _ e.1.1.0)

-- the tests of the whole table
abbrev row_tests : Star → List Bool
row_tests s = nothing (table_refusal (set s.tasks)) ∷ tests (set s.tasks) s.outcome

abbrev passes : List Star → Bool
passes [] = true
passes (s ∷ ss) = every (row_tests s) && passes ss

rows_right : (ss : List Star) → passes ss ≡ true → (s : Star) → Memᴰ s ss → Right (set s.tasks) s.outcome
rows_right [] e s m = absurd (Memᴰ.not-nil m)
rows_right (r ∷ ss) e s (Memᴰ.head q) =
    let x = each (row_tests r) (and_parts (every (row_tests r)) (passes ss) e).0 in
    rw q (right (set r.tasks) r.outcome (nothing_true _ x.0) x.1)
rows_right (r ∷ ss) e s (Memᴰ.tail m) = rows_right ss (and_parts (every (row_tests r)) (passes ss) e).1 s m

-- they all pass
table_passes : passes stars ≡ true
unfolding tests word_least in_range out_of_range table_refusal tasks_of least due total_due wait longest_wait fails excess ceiling work closes first_fail span first_waiting blocker verdict train trains count_before concrete_train planned count_within named_train finish late before sooner pick same without earliest ready rows dispatch late_job row_words
table_passes = refl

-- every star holds
pub stars_hold : Stars
stars_hold = rows_right stars table_passes

-- and a set that has the greatest excess of any table, by the same tests
abbrev greatest : Star
greatest = record { tasks = replicate 64 (65535, 1, 1); outcome = misses 1 None 4194239 }

greatest_passes : passes (greatest ∷ []) ≡ true
unfolding tests word_least in_range out_of_range table_refusal tasks_of least due total_due wait longest_wait fails excess first_waiting blocker count_within
greatest_passes = refl

pub greatest_excess : verdict_answer (set greatest.tasks) ≡ Ok (Verdict.Misses 1 None 4194239)
greatest_excess = rows_right (greatest ∷ []) greatest_passes greatest (Memᴰ.head refl)
