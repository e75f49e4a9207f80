-- The walk over the tasks, from the last down, that finds the next job.
use mathlib.Core.Path.{◌≡◌, refl, sym, ap, subst, ◌∙◌}
use Prim.Native.Nat.{ℕ, suc, ◌+◌, ◌-◌, ◌≤◌, ◌<◌}
use native.Mathlib.Omega.{arith}
use mathlib.Core.Logic.{inl, inr}
use mathlib.Core.List.{List, [], ◌∷◌, ◌++◌}
use lib.ListN.{get_or}
use Rattle.rules.specs.Dispatch.{Job, pick, ready}
use Rattle.rules.specs.Dispatch as dispatch
use Rattle.rules.specs.Jobs.{train}
use Rattle.rules.specs.Table.{task_in}
use Rattle.rules.specs.declared.Plan.{Plan}
use Rattle.rules.proofs.Booleans.{split}
use Rattle.rules.proofs.Order.{ahead_first, goes_before, sooner_yes, sooner_no}
use Rattle.rules.proofs.Choosing.{pick_come, pick_not, pick_one, pick_nobody, not_yet, ready_after, ready_one, ready_more, pick_train, ready_train, train_none}
use Rattle.turn.specs.declared.Turn.{Turn}
use Rattle.turn.specs.Counters.{train_at, release_at, job_at, jobs_at, rest_from, last_turn, goes_first, first_of, sooner, Offered, Offers, Chosen, Best, Held}
use Rattle.std.specs.Prelude.{Option, Some, None, Bool, true, false, if◌then◌else◌}
use Rattle.std.proofs.lemmas.Bool.Decides.{nat_tests}

-- what it says of a turn of a lower task and another that the one goes first
module _ (y x : Turn) (h : y.task < x.task) where
  first : goes_first y x ≡ true → (y.start ≤ x.start) × (x.start ≤ y.start → y.due ≤ x.due)
  first e = grind (arith, nat_tests)

  not_first : goes_first y x ≡ false → (x.start ≤ y.start) × (y.start ≤ x.start → x.due < y.due)
  not_first e = grind (arith, nat_tests)

module _ (w : List ℕ) (p : Plan) (nx : List ℕ) (t m : ℕ) where
  abbrev rest : ℕ → List Job
  rest i = rest_from w p nx (m - i) i

  abbrev head : ℕ → Job
  head i = job_at w p i (get_or nx i 0)

  rest_at : (i : ℕ) → i < m → rest i ≡ jobs_at w p i (get_or nx i 0) ++ rest (i + 1)
  unfolding rest_from
  rest_at i h =
      let e : m - i ≡ suc (m - (i + 1)) = omega arith in
      let s : suc i ≡ i + 1 = omega arith in
      ap (λ (n : ℕ). rest_from w p nx n i) e ∙ ap (λ (k : ℕ). jobs_at w p i (get_or nx i 0) ++ rest_from w p nx (m - (i + 1)) k) s

  -- no task is looked at yet
  pub best_none : (i : ℕ) → i ≡ m → Best w p nx t m i None
  unfolding rest_from
  best_none i h = let e : m - i ≡ 0 = omega arith in ap (λ (n : ℕ). rest_from w p nx n i) e

  rest_done : (i : ℕ) → i < m → (train_at w p i).count ≤ get_or nx i 0 → rest i ≡ rest (i + 1)
  rest_done i h d = rest_at i h ∙ train_none _ _ _ _ _ _ (omega arith)

  module _ (i : ℕ) (h : i < m) (l : get_or nx i 0 < (train_at w p i).count) where
    left : rest i ≡ train (suc ((train_at w p i).count - get_or nx i 0 - 1)) (get_or nx i 0) (release_at w p i (get_or nx i 0)) i (task_in w i) ++ rest (i + 1)
    left =
        let e : (train_at w p i).count - get_or nx i 0 ≡ suc ((train_at w p i).count - get_or nx i 0 - 1) = omega arith in
        rest_at i h ∙ ap (λ (n : ℕ). train n (get_or nx i 0) (release_at w p i (get_or nx i 0)) i (task_in w i) ++ rest (i + 1)) e

    pick_left : (s : ℕ) → pick s (rest i) ≡ pick s (head i ∷ rest (i + 1))
    pick_left s = ap (pick s) left ∙ pick_train s _ _ _ _ (task_in w i) _

    ready_left : ready t (rest i) ≡ ready t (head i ∷ rest (i + 1))
    ready_left = ap (ready t) left ∙ ready_train t _ _ _ _ (task_in w i) _

  -- A STEP
  -- the job found so far is found of the tasks from i on too
  kept : (i : ℕ) (x : Turn) → Chosen w p nx t m (i + 1) x → ready t (rest i) ≡ x.start → pick x.start (rest i) ≡ Some (head x.task) → Chosen w p nx t m i x
  kept i x ch starts picked =
      record {
        from = omega (arith, ch.from);
        is_task = ch.is_task;
        live = ch.live;
        few = ch.few;
        soon = ch.soon;
        starts = starts;
        due_then = ch.due_then;
        picked = picked;
      }

  -- task i has no job left
  done : (i : ℕ) (o : Option Turn) → i < m → (train_at w p i).count ≤ get_or nx i 0 → Best w p nx t m (i + 1) o → Best w p nx t m i o
  done i None h d e = rest_done i h d ∙ e
  done i (Some x) h d ch = kept i x ch (ap (ready t) (rest_done i h d) ∙ ch.starts) (ap (pick x.start) (rest_done i h d) ∙ ch.picked)

  -- it has one
  module _ (i : ℕ) (y : Turn) (h : i < m) (O : Offered w p nx t i y) where
    new : ready t (head i ∷ rest (i + 1)) ≡ y.start → pick y.start (head i ∷ rest (i + 1)) ≡ Some (head i) → Chosen w p nx t m i y
    new es ep =
        let its : head i ≡ head y.task = ap head (sym O.its_task) in
        record {
          from = omega (arith, O.its_task);
          is_task = omega (arith, O.its_task);
          live = rw O.its_task O.live;
          few = rw O.its_task O.few;
          soon = omega (arith, O.starts, O.early);
          starts = ready_left i h O.live ∙ es;
          due_then = rw O.its_task O.due_then;
          picked = pick_left i h O.live y.start ∙ ep ∙ ap Some its;
        }

    -- it is the first
    alone : rest (i + 1) ≡ [] → Chosen w p nx t m i y
    alone e =
        new (ready_one t (head i) (rest (i + 1)) e ∙ sym O.starts) (pick_one y.start (head i) (rest (i + 1)) (omega (arith, O.starts)) (pick_nobody y.start (rest (i + 1)) e))

    module _ (x : Turn) (ch : Chosen w p nx t m (i + 1) x) where
      -- it goes before the others
      new_goes : y.start ≤ x.start → (x.start ≤ y.start → y.due ≤ x.due) → Chosen w p nx t m i y
      new_goes no_later q =
          new (ready_more t x.start (head i) (head x.task) (rest (i + 1)) ch.picked ∙ omega (arith, ch.starts, O.starts))
          (split x.start y.start
          (λ g.
          let s : x.start ≡ y.start = omega arith in
          pick_come y.start (head i) (rest (i + 1)) (omega (arith, O.starts))
          ∙ ap (λ (z : ℕ). dispatch.sooner (head i) (pick z (rest (i + 1)))) (sym s)
          ∙ ap (dispatch.sooner (head i)) ch.picked
          ∙ sooner_no (head x.task) (head i)
          (ahead_first (head i) (head x.task) (record { deadline = omega (arith, q g, ch.due_then, O.due_then); task = λ k. omega (arith, ch.from) })))
          (λ g. pick_one y.start (head i) (rest (i + 1)) (omega (arith, O.starts)) (not_yet t y.start (rest (i + 1)) (omega (arith, O.starts)) (omega (arith, ch.starts)))))

      -- it does not
      old_goes : x.start ≤ y.start → (y.start ≤ x.start → x.due < y.due) → Chosen w p nx t m i x
      old_goes no_earlier q =
          kept i x ch
          (ready_left i h O.live
          ∙ ready_more t x.start (head i) (head x.task) (rest (i + 1)) ch.picked
          ∙ omega (arith, ch.starts, O.starts))
          (pick_left i h O.live x.start
          ∙ split y.start x.start
          (λ g.
          pick_come x.start (head i) (rest (i + 1)) (omega (arith, O.starts))
          ∙ ap (dispatch.sooner (head i)) ch.picked
          ∙ sooner_yes (head x.task) (head i)
          (goes_before (head x.task) (head i) (omega (arith, q g, ch.due_then, O.due_then)) (λ k. absurd (omega (arith, q g, ch.due_then, O.due_then)))))
          (λ g. pick_not x.start (head i) (rest (i + 1)) (omega (arith, ready_after t (rest (i + 1)), ch.starts, O.starts)) ∙ ch.picked))

  -- what is found of the tasks after task i, and what task i offers: the one that goes first is found from task i on
  with_offer : (i : ℕ) (o v : Option Turn) → i < m → Best w p nx t m (i + 1) o → Offers w p nx t i v → Best w p nx t m i (sooner o v)
  with_offer i None None h b d = done i None h d b
  with_offer i (Some x) None h b d = done i (Some x) h d b
  with_offer i None (Some y) h b O = alone i y h O b
  with_offer i (Some x) (Some y) h b O = go (goes_first y x) refl
    where
      go : (c : Bool) → goes_first y x ≡ c → Chosen w p nx t m i (if c then y else x)
      go true e = let q = first y x (omega (arith, O.its_task, b.from)) e in new_goes i y h O x b q.0 q.1
      go false e = let q = not_first y x (omega (arith, O.its_task, b.from)) e in old_goes i y h O x b q.0 q.1

  pub best_more : (j : ℕ) (o v z : Option Turn) → 0 < j → j ≤ m → Best w p nx t m j o → Offers w p nx t (j - 1) v → z ≡ sooner o v
      → Best w p nx t m (j - 1) z
  best_more j o v z h k b O e =
      let same : j ≡ j - 1 + 1 = omega arith in
      rw e (with_offer (j - 1) o v (omega arith) (subst (λ (x : ℕ). Best w p nx t m x o) same b) O)

  -- WHAT THE WALK HOLDS
  -- no task is looked at yet
  pub held_none : (i : ℕ) → i ≡ m → Held w p nx t m i last_turn
  held_none i h = inl (refl, best_none i h)

  -- one more is looked at, which offers none or a turn
  module _ (j : ℕ) (x : Turn) (h : 0 < j) (k : j ≤ m) where
    pub held_still : Held w p nx t m j x → Offers w p nx t (j - 1) None → Held w p nx t m (j - 1) x
    held_still (inl (e, r)) O = inl (e, best_more j None None None h k r O refl)
    held_still (inr ch) O = inr (best_more j (Some x) None (Some x) h k ch O refl)

    pub held_more : (y z : Turn) → Held w p nx t m j x → Offers w p nx t (j - 1) (Some y) → z ≡ first_of x y → (x ≡ last_turn → z ≡ y)
        → Held w p nx t m (j - 1) z
    held_more y z (inl (e, r)) O f a = inr (best_more j None (Some y) (Some z) h k r O (ap Some (a e)))
    held_more y z (inr ch) O f a = inr (best_more j (Some x) (Some y) (Some z) h k ch O (ap Some f))
