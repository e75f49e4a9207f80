-- The late job that a schedule names: of the late rows' jobs the one with the least deadline, ties to the lower task.
use Rattle.std.specs.Prelude.{if◌then◌else◌, Option, Some, None}
use mathlib.Core.Path.{◌≡◌, refl, sym, ap, ◌∙◌}
use mathlib.Core.Logic.{◌↔◌}
use Prim.Native.Nat.{ℕ, ◌≤◌, ◌<◌}
use native.Mathlib.Omega.{arith}
use mathlib.Core.List.Memᴰ
use mathlib.Core.List.{List, [], ◌∷◌, ◌++◌, Memᴰ}
use mathlib.Core.Bool.{Bool, true, false}
use borrow.Author.Tests.{lt-ltb, le-ltb}
use Rattle.rules.specs.Dispatch.{Job, Row, finish, late, before, sooner, late_job}
use Rattle.rules.proofs.Booleans.{true_is_not_false}
use Rattle.rules.specs.Policy.{Ahead, NamedLate}
use Rattle.rules.proofs.Order.{ahead_self, ahead_trans, before_true, before_false, sooner_none, earlier, earlier_assoc}

-- j is the job of a late row, and is ahead of every late row's job
record Latest (ws : List Row) (j : Job) : Type 0 where
  row : Row
  mem : Memᴰ row ws
  is_late : late row ≡ true
  its_job : row.job ≡ j
  ahead : (v : Row) → Memᴰ v ws → late v ≡ true → Ahead j v.job

data Named (ws : List Row) : Option Job → Type 0 where
  nobody : ((w : Row) → Memᴰ w ws → late w ≡ false) → Named ws None
  somebody : {j : Job} → Latest ws j → Named ws (Some j)

-- what holds of the first row and of every later one holds of every row
row_cons : (P : Row → Type 0) {w : Row} {ws : List Row} → P w → ((v : Row) → Memᴰ v ws → P v) → (v : Row) → Memᴰ v (w ∷ ws) → P v
row_cons P h t v (Memᴰ.head e) = rw e h
row_cons P h t v (Memᴰ.tail m) = t v m

-- one row more
module _ (w : Row) (ws : List Row) where
  keep : (j : Job) → Latest ws j → (late w ≡ true → Ahead j w.job) → Named (w ∷ ws) (Some j)
  keep j x h = somebody (record {
    row = x.row;
    mem = Memᴰ.tail x.mem;
    is_late = x.is_late;
    its_job = x.its_job;
    ahead = row_cons (λ v. late v ≡ true → Ahead j v.job) h x.ahead;
  })

  change : late w ≡ true → ((v : Row) → Memᴰ v ws → late v ≡ true → Ahead w.job v.job) → Named (w ∷ ws) (Some w.job)
  change e h = somebody (record {
    row = w;
    mem = Memᴰ.head refl;
    is_late = e;
    its_job = refl;
    ahead = row_cons (λ v. late v ≡ true → Ahead w.job v.job) (λ x. ahead_self w.job) h;
  })

  named_cons : (b : Bool) → late w ≡ b → (o : Option Job) → Named ws o → Named (w ∷ ws) (if b then sooner w.job o else o)
  unfolding sooner
  named_cons false e None (nobody f) = nobody (row_cons (λ v. late v ≡ false) e f)
  named_cons false e (Some j) (somebody x) = keep j x (λ h. true_is_not_false (sym h ∙ e))
  named_cons true e None (nobody f) = change e (λ v m h. true_is_not_false (sym h ∙ f v m))
  named_cons true e (Some j) (somebody x) = go (before j w.job) refl
    where
      go : (c : Bool) → before j w.job ≡ c → Named (w ∷ ws) (if c then Some j else Some w.job)
      go true q = keep j x (λ h. before_true j w.job q)
      go false q = change e (λ v m h. ahead_trans w.job j v.job (before_false j w.job q) (x.ahead v m h))

names : (ws : List Row) → Named ws (late_job ws)
unfolding late_job
names [] = nobody (λ w m. absurd (Memᴰ.not-nil m))
names (w ∷ ws) = named_cons w ws (late w) refl (late_job ws) (names ws)

-- there is no late job exactly if no row is late
pub late_none : (ws : List Row) → (late_job ws ≡ None) ↔ ((w : Row) → Memᴰ w ws → late w ≡ false)
late_none ws = go (late_job ws) (names ws)
  where
    go : (o : Option Job) → Named ws o → (o ≡ None) ↔ ((w : Row) → Memᴰ w ws → late w ≡ false)
    go None (nobody f) = (λ e. f, λ g. refl)
    go (Some j) (somebody x) =
        (λ e. let z : ◌≡◌ {A = ℕ} 0 1 = cc in absurd (omega arith), λ g. true_is_not_false (sym x.is_late ∙ g x.row x.mem))

-- else it is the job of a late row, and no late row's job has a lesser deadline, or an equal one and a lower task
pub late_row : (ws : List Row) (j : Job) → late_job ws ≡ Some j → (w : Row) × NamedLate ws w × (w.job ≡ j)
late_row ws j = go (late_job ws) (names ws)
  where
    go : (o : Option Job) → Named ws o → o ≡ Some j → (w : Row) × NamedLate ws w × (w.job ≡ j)
    go None (nobody f) e = let z : ◌≡◌ {A = ℕ} 0 1 = cc in absurd (omega arith)
    go (Some i) (somebody x) e =
        let q : i ≡ j = cc in
        (x.row, record { row = x.mem; is_late = x.is_late; ahead = λ v m h. rw x.its_job (x.ahead v m h) }, x.its_job ∙ q)

-- and where two jobs of one task never have the same deadline, no other job is that
pub late_only : (ws : List Row)
    → ((v : Row) → Memᴰ v ws → (w : Row) → Memᴰ w ws → v.job.task ≡ w.job.task → v.job.deadline ≡ w.job.deadline → v.job ≡ w.job)
    → (w : Row) → NamedLate ws w → late_job ws ≡ Some w.job
late_only ws ties w n = go (late_job ws) (names ws)
  where
    go : (o : Option Job) → Named ws o → o ≡ Some w.job
    go None (nobody f) = true_is_not_false (sym n.is_late ∙ f w n.row)
    go (Some j) (somebody x) =
        let a : Ahead x.row.job w.job = rw x.its_job (x.ahead w n.row n.is_late) in
        let b : Ahead w.job x.row.job = n.ahead x.row x.mem x.is_late in
        let d : x.row.job.deadline ≡ w.job.deadline = omega arith in
        let p = a.task d in
        let q = b.task (sym d) in
        ap Some (sym x.its_job ∙ ties x.row x.mem w n.row (omega arith) d)

-- of no row there is none
pub late_no_row : late_job [] ≡ None
unfolding late_job
late_no_row = refl

-- of one row: its job, where it finishes after its deadline
pub late_one : (w : Row) → w.job.deadline < finish w → late_job (w ∷ []) ≡ Some w.job
unfolding late_job late
late_one w h = rw (lt-ltb _ _ h) (sooner_none w.job)

pub late_not : (w : Row) → finish w ≤ w.job.deadline → late_job (w ∷ []) ≡ None
unfolding late_job late
late_not w h = rw (le-ltb _ _ h)

-- of rows after rows: of the two late jobs the one that goes before
pub late_append : (ws vs : List Row) → late_job (ws ++ vs) ≡ earlier (late_job ws) (late_job vs)
unfolding late_job
late_append [] vs = refl
late_append (w ∷ ws) vs = go (late w) (late_append ws vs)
  where
    go : (b : Bool) → late_job (ws ++ vs) ≡ earlier (late_job ws) (late_job vs)
        → (if b then sooner w.job (late_job (ws ++ vs)) else late_job (ws ++ vs))
        ≡ earlier (if b then sooner w.job (late_job ws) else late_job ws) (late_job vs)
    go true e = ap (sooner w.job) e ∙ sym (earlier_assoc (Some w.job) (late_job ws) (late_job vs))
    go false e = e
