-- What the dispatcher's choice does: when the next job starts, and which one it is.
use Rattle.std.specs.Prelude.{if◌then◌else◌, Option, Some, None}
use mathlib.Core.Path.{◌≡◌, refl}
use Prim.Native.Nat.{ℕ, min, ◌≤◌, ◌<◌}
use mathlib.Core.List.Memᴰ
use mathlib.Core.List.{List, [], ◌∷◌, Memᴰ}
use mathlib.Core.Bool.{Bool, true, false}
use native.Mathlib.Omega.{arith}
use borrow.Author.Tests.{leb-true, leb-false}
use lib.Dec.{leb}
use Rattle.rules.specs.Dispatch.{Job, before, sooner, pick, earliest}
use Rattle.rules.specs.Policy.{Ahead}
use Rattle.rules.proofs.Order.{ahead_self, ahead_trans, before_true, before_false}
use Rattle.rules.proofs.Taken.{mem_cons}

-- no job of a list is released before the earliest release
pub earliest_least : (j : Job) (js : List Job) (i : Job) → Memᴰ i (j ∷ js) → earliest j js ≤ i.release
unfolding earliest
earliest_least j [] i (Memᴰ.head e) = rw e (omega arith)
earliest_least j [] i (Memᴰ.tail m) = absurd (Memᴰ.not-nil m)
earliest_least j (k ∷ js) i (Memᴰ.head e) = rw e (omega arith)
earliest_least j (k ∷ js) i (Memᴰ.tail m) = let ih = earliest_least k js i m in omega arith

-- some job of the list is released then
pub earliest_some : (j : Job) (js : List Job) → (i : Job) × Memᴰ i (j ∷ js) × (i.release ≡ earliest j js)
unfolding earliest
earliest_some j [] = (j, Memᴰ.head refl, refl)
earliest_some j (k ∷ js) = go (earliest_some k js) (leb j.release (earliest k js)) refl
  where
    go : (i : Job) × Memᴰ i (k ∷ js) × (i.release ≡ earliest k js) → (b : Bool) → leb j.release (earliest k js) ≡ b
        → (i : Job) × Memᴰ i (j ∷ k ∷ js) × (i.release ≡ min j.release (earliest k js))
    go x true e = (j, Memᴰ.head refl, omega (arith, leb-true))
    go x false e = (x.0, Memᴰ.tail x.1, omega (arith, leb-false))

-- j is of js, is released by s, and is ahead of every job of js that is released by s
pub record Picked (s : ℕ) (js : List Job) (j : Job) : Type 0 where
  pub mem : Memᴰ j js
  pub come : j.release ≤ s
  pub first : (i : Job) → Memᴰ i js → i.release ≤ s → Ahead j i

pub data Pick (s : ℕ) (js : List Job) : Option Job → Type 0 where
  nobody : ((i : Job) → Memᴰ i js → s < i.release) → Pick s js None
  somebody : {j : Job} → Picked s js j → Pick s js (Some j)

-- one job more, which is not released, or is ahead of those that are, or is behind the one picked
module _ (s : ℕ) (j : Job) (js : List Job) where
  keep : (i : Job) → Picked s js i → (j.release ≤ s → Ahead i j) → Pick s (j ∷ js) (Some i)
  keep i p h = somebody (record {
    mem = Memᴰ.tail p.mem;
    come = p.come;
    first = mem_cons (λ k. k.release ≤ s → Ahead i k) h p.first;
  })

  change : j.release ≤ s → ((i : Job) → Memᴰ i js → i.release ≤ s → Ahead j i) → Pick s (j ∷ js) (Some j)
  change r h = somebody (record {
    mem = Memᴰ.head refl;
    come = r;
    first = mem_cons (λ k. k.release ≤ s → Ahead j k) (λ x. ahead_self j) h;
  })

  pick_cons : (b : Bool) → (b ≡ true → j.release ≤ s) → (b ≡ false → s < j.release) → (o : Option Job) → Pick s js o
      → Pick s (j ∷ js) (if b then sooner j o else o)
  unfolding sooner
  pick_cons false come not_yet None (nobody f) = nobody (mem_cons (λ i. s < i.release) (not_yet refl) f)
  pick_cons false come not_yet (Some i) (somebody p) = keep i p (λ r. let l = not_yet refl in absurd (omega arith))
  pick_cons true come not_yet None (nobody f) = change (come refl) (λ i m r. let l = f i m in absurd (omega arith))
  pick_cons true come not_yet (Some i) (somebody p) = go (before i j) refl
    where
      go : (c : Bool) → before i j ≡ c → Pick s (j ∷ js) (if c then Some i else Some j)
      go true q = keep i p (λ r. before_true i j q)
      go false q = change (come refl) (λ k m r. ahead_trans j i k (before_false i j q) (p.first k m r))

-- what `pick` returns
pub picks : (s : ℕ) (js : List Job) → Pick s js (pick s js)
unfolding pick
picks s [] = nobody (λ i m. absurd (Memᴰ.not-nil m))
picks s (j ∷ js) = pick_cons s j js _ (leb-true _ _) (leb-false _ _) (pick s js) (picks s js)
