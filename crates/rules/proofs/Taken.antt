-- A list with one job taken out, and what `without` leaves.
use Rattle.std.specs.Prelude.{if◌then◌else◌}
use mathlib.Core.Path.{◌≡◌, refl, sym, ap, ◌∙◌}
use Prim.Native.Nat.{suc}
use mathlib.Core.List.Memᴰ
use mathlib.Core.List.{List, [], ◌∷◌, Memᴰ}
use mathlib.Core.Bool.{Bool, true, false}
use borrow.Author.Tests.{eqb-true, eq-eqb}
use lib.Dec.{eqb}
use lib.ListN.{length}
use Rattle.rules.specs.Dispatch.{Job, same, without}
use Rattle.rules.proofs.Booleans.{both_false, true_is_not_false}
use Rattle.std.proofs.lemmas.Bool.{and_parts, and_from}

-- what holds of the head and of every job of the tail holds of every job
pub mem_cons : (P : Job → Type 0) {j : Job} {js : List Job} → P j → ((i : Job) → Memᴰ i js → P i)
    → (i : Job) → Memᴰ i (j ∷ js) → P i
mem_cons P h t i (Memᴰ.head e) = rw e h
mem_cons P h t i (Memᴰ.tail m) = t i m

-- `Taken j js ks`: ks is js with j taken out at one place
pub data Taken (j : Job) : List Job → List Job → Type 0 where
  now : {i : Job} {js : List Job} → j ≡ i → Taken j (i ∷ js) js
  later : {i : Job} {js ks : List Job} → Taken j js ks → Taken j (i ∷ js) (i ∷ ks)

-- what is left was there
pub taken_mem : {j : Job} {js ks : List Job} → Taken j js ks → (i : Job) → Memᴰ i ks → Memᴰ i js
taken_mem (now e) i m = Memᴰ.tail m
taken_mem (later t) i (Memᴰ.head e) = Memᴰ.head e
taken_mem (later t) i (Memᴰ.tail m) = Memᴰ.tail (taken_mem t i m)

-- so was what is taken
pub taken_in : {j : Job} {js ks : List Job} → Taken j js ks → Memᴰ j js
taken_in (now e) = Memᴰ.head e
taken_in (later t) = Memᴰ.tail (taken_in t)

-- a job of the list is the one taken, or is left
pub taken_cases : {j : Job} {js ks : List Job} → Taken j js ks → (i : Job) → Memᴰ i js
    → (A : Type 0) → (i ≡ j → A) → (Memᴰ i ks → A) → A
taken_cases (now e) i (Memᴰ.head q) A f g = f (q ∙ sym e)
taken_cases (now e) i (Memᴰ.tail m) A f g = g m
taken_cases (later t) i (Memᴰ.head q) A f g = g (Memᴰ.head q)
taken_cases (later t) i (Memᴰ.tail m) A f g = taken_cases t i m A f (λ n. g (Memᴰ.tail n))

-- one job fewer
pub taken_length : {j : Job} {js ks : List Job} → Taken j js ks → length js ≡ suc (length ks)
taken_length (now e) = refl
taken_length (later t) = ap suc (taken_length t)

-- the same job: task and number are equal
pub same_true : (i j : Job) → same i j ≡ true → (i.task ≡ j.task) × (i.number ≡ j.number)
unfolding same
same_true i j e =
    let h = and_parts (eqb i.task j.task) (eqb i.number j.number) e in
    (eqb-true _ _ h.0, eqb-true _ _ h.1)

pub same_false : (i j : Job) → same i j ≡ false → i.task ≡ j.task → i.number ≡ j.number → ⊥
unfolding same
same_false i j e p q = both_false _ _ e (eq-eqb _ _ p) (eq-eqb _ _ q)

pub same_self : (j : Job) → same j j ≡ true
unfolding same
same_self j = and_from _ _ (eq-eqb j.task j.task refl) (eq-eqb j.number j.number refl)

-- any two places of the list have jobs that differ in task or number
abbrev pub Distinct : List Job → Type 0
Distinct [] = Unit {0}
Distinct (j ∷ js) = ((i : Job) → Memᴰ i js → same i j ≡ false) × Distinct js

pub taken_distinct : {j : Job} {js ks : List Job} → Taken j js ks → Distinct js → Distinct ks
taken_distinct (now e) d = d.1
taken_distinct (later t) d = (λ i m. d.0 i (taken_mem t i m), taken_distinct t d.1)

-- no job that is left is the one taken
pub differ_back : (i j : Job) → same i j ≡ false → same j i ≡ false
differ_back i j e = go (same j i) refl
  where
    go : (b : Bool) → same j i ≡ b → b ≡ false
    go false q = refl
    go true q = absurd (same_false i j e (sym (same_true j i q).0) (sym (same_true j i q).1))

pub taken_differ : {j : Job} {js ks : List Job} → Taken j js ks → Distinct js → (i : Job) → Memᴰ i ks → same j i ≡ false
taken_differ (now e) d i m = rw e (differ_back _ _ (d.0 i m))
taken_differ (later t) d i (Memᴰ.head e) = rw e (d.0 _ (taken_in t))
taken_differ (later t) d i (Memᴰ.tail m) = taken_differ t d.1 i m

-- of such a list `without` takes out just the one job
pub without_taken : (js : List Job) → Distinct js → (j : Job) → Memᴰ j js → Taken j js (without j js)
unfolding without
without_taken [] d j m = absurd (Memᴰ.not-nil m)
without_taken (i ∷ js) d j m = go (same j i) refl m (without_taken js d.1 j)
  where
    go : (b : Bool) → same j i ≡ b → Memᴰ j (i ∷ js) → (Memᴰ j js → Taken j js (without j js))
        → Taken j (i ∷ js) (if b then js else i ∷ without j js)
    go true e (Memᴰ.head q) ih = now q
    go true e (Memᴰ.tail n) ih = true_is_not_false (sym e ∙ d.0 j n)
    go false e (Memᴰ.head q) ih = absurd (same_false j i e (ap (λ (x : Job). x.task) q) (ap (λ (x : Job). x.number) q))
    go false e (Memᴰ.tail n) ih = later (ih n)

-- of any list it takes out one job, where the job is of the list
pub without_shorter : (js : List Job) (j : Job) → Memᴰ j js → length js ≡ suc (length (without j js))
unfolding without
without_shorter [] j m = absurd (Memᴰ.not-nil m)
without_shorter (i ∷ js) j m = go (same j i) refl m (without_shorter js j)
  where
    go : (b : Bool) → same j i ≡ b → Memᴰ j (i ∷ js) → (Memᴰ j js → length js ≡ suc (length (without j js)))
        → suc (length js) ≡ suc (length (if b then js else i ∷ without j js))
    go true e m ih = refl
    go false e (Memᴰ.head q) ih = absurd (same_false j i e (ap (λ (x : Job). x.task) q) (ap (λ (x : Job). x.number) q))
    go false e (Memᴰ.tail n) ih = ap suc (ih n)
