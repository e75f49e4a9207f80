-- The order of jobs, by deadline and then by task; and of two the one that goes before.
use Rattle.std.specs.Prelude.{if◌then◌else◌, Option, Some, None}
use mathlib.Core.Path.{◌≡◌, refl, sym, ap, ◌∙◌}
use Prim.Native.Nat.{ℕ, ◌≤◌, ◌<◌}
use native.Mathlib.Omega.{arith}
use mathlib.Core.Bool.{Bool, true, false, ◌&&◌, ◌||◌}
use lib.Dec.{ltb, eqb}
use borrow.Author.Tests.{eqb-true, eqb-false, ltb-true, ltb-false, lt-ltb, le-ltb, eq-eqb}
use Rattle.rules.specs.Dispatch.{Job, before, sooner}
use Rattle.rules.specs.Policy.{Ahead}
use Rattle.rules.proofs.Booleans.{true_is_not_false, split}

pub ahead_self : (j : Job) → Ahead j j
ahead_self j = record { deadline = omega arith; task = λ e. omega arith }

pub ahead_trans : (k j i : Job) → Ahead k j → Ahead j i → Ahead k i
ahead_trans k j i a b = record {
  deadline = omega arith;
  task = λ e. let p = a.task (omega arith) in let q = b.task (omega arith) in omega arith;
}

-- by the test: the one that goes before is ahead; the other is ahead where it does not
pub before_true : (i j : Job) → before i j ≡ true → Ahead i j
unfolding before
before_true i j e = go (ltb i.deadline j.deadline) refl (eqb i.deadline j.deadline) refl e
  where
    go : (a : Bool) → ltb i.deadline j.deadline ≡ a → (b : Bool) → eqb i.deadline j.deadline ≡ b
        → a || (b && ltb i.task j.task) ≡ true → Ahead i j
    go true p b q h = record { deadline = omega (arith, ltb-true); task = λ x. omega (arith, ltb-true) }
    go false p true q h = record { deadline = omega (arith, eqb-true); task = λ x. omega (arith, ltb-true) }
    go false p false q h = let z : ◌≡◌ {A = ℕ} 0 1 = cc in absurd (omega arith)

pub before_false : (i j : Job) → before i j ≡ false → Ahead j i
unfolding before
before_false i j e = go (ltb i.deadline j.deadline) refl (eqb i.deadline j.deadline) refl e
  where
    go : (a : Bool) → ltb i.deadline j.deadline ≡ a → (b : Bool) → eqb i.deadline j.deadline ≡ b
        → a || (b && ltb i.task j.task) ≡ false → Ahead j i
    go true p b q h = true_is_not_false h
    go false p true q h = record { deadline = omega (arith, ltb-false); task = λ x. omega (arith, ltb-false) }
    go false p false q h = record { deadline = omega (arith, ltb-false); task = λ x. absurd (omega (arith, eqb-false)) }

-- one that is ahead is not gone before
pub ahead_first : (j i : Job) → Ahead j i → before i j ≡ false
unfolding before
ahead_first j i a = go (ltb i.deadline j.deadline) refl (eqb i.deadline j.deadline) refl (ltb i.task j.task) refl
  where
    go : (p : Bool) → ltb i.deadline j.deadline ≡ p → (q : Bool) → eqb i.deadline j.deadline ≡ q
        → (r : Bool) → ltb i.task j.task ≡ r → p || (q && r) ≡ false
    go true e q f r g = let l = ltb-true i.deadline j.deadline e in absurd (omega arith)
    go false e false f r g = refl
    go false e true f false g = refl
    go false e true f true g =
        let d = eqb-true i.deadline j.deadline f in
        let l = ltb-true i.task j.task g in
        let h = a.task (sym d) in
        absurd (omega arith)

-- one with a lesser deadline, or the same and a lower task, goes before
pub goes_before : (i j : Job) → i.deadline ≤ j.deadline → (j.deadline ≤ i.deadline → i.task < j.task) → before i j ≡ true
unfolding before
goes_before i j h k =
    split j.deadline i.deadline
    (λ g. rw (le-ltb i.deadline j.deadline g, eq-eqb i.deadline j.deadline (omega arith), lt-ltb i.task j.task (k g)))
    (λ g. rw (lt-ltb i.deadline j.deadline g))

not_before_trans : (i j k : Job) → before i j ≡ false → before j k ≡ false → before i k ≡ false
not_before_trans i j k p q = ahead_first k i (ahead_trans k j i (before_false j k q) (before_false i j p))

before_trans : (i j k : Job) → before i j ≡ true → before j k ≡ true → before i k ≡ true
before_trans i j k p q = go (before i k) refl
  where
    go : (b : Bool) → before i k ≡ b → b ≡ true
    go true e = refl
    go false e = true_is_not_false (sym q ∙ ahead_first k j (ahead_trans k i j (before_false i k e) (before_true i j p)))

-- of a job and another, the other where it goes before
pub sooner_yes : (i j : Job) → before i j ≡ true → sooner j (Some i) ≡ Some i
unfolding sooner
sooner_yes i j e = rw e

pub sooner_no : (i j : Job) → before i j ≡ false → sooner j (Some i) ≡ Some j
unfolding sooner
sooner_no i j e = rw e

pub sooner_none : (j : Job) → sooner j None ≡ Some j
unfolding sooner
sooner_none j = refl

-- of two that may be missing, the one that goes before, the first where neither does
abbrev pub earlier : Option Job → Option Job → Option Job
earlier None o = o
earlier (Some j) o = sooner j o

pub earlier_none : (o : Option Job) → earlier o None ≡ o
earlier_none None = refl
earlier_none (Some j) = sooner_none j

pub earlier_assoc : (a b c : Option Job) → earlier (earlier a b) c ≡ earlier a (earlier b c)
unfolding sooner
earlier_assoc None b c = refl
earlier_assoc (Some i) None c = refl
earlier_assoc (Some i) (Some j) None = earlier_none (sooner i (Some j))
earlier_assoc (Some i) (Some j) (Some k) = go (before j i) refl (before k j) refl
  where
    go : (x : Bool) → before j i ≡ x → (y : Bool) → before k j ≡ y
        → earlier (if x then Some j else Some i) (Some k) ≡ sooner i (if y then Some k else Some j)
    go true p true q = rw (q, before_trans k j i q p)
    go true p false q = rw (q, p)
    go false p true q = refl
    go false p false q = rw (p, not_before_trans k j i q p)

-- a job that i is ahead of changes nothing behind i
pub sooner_absorbs : (i j : Job) → Ahead i j → (o : Option Job) → sooner i (sooner j o) ≡ sooner i o
sooner_absorbs i j a o =
    sym (earlier_assoc (Some i) (Some j) o) ∙ ap (λ (x : Option Job). earlier x o) (sooner_no j i (ahead_first i j a))
