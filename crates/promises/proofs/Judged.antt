-- What the verdict call gives, and what is said of the first set of a text, is exactly what the paper's tables have.
use mathlib.Core.Path.{◌≡◌, refl, sym, ap, subst}
use mathlib.Core.Logic.{◌↔◌}
use Prim.Native.Nat.{ℕ, ◌+◌, ◌-◌}
use native.Mathlib.Omega.{arith}
use mathlib.Core.List.{List, [], ◌∷◌}
use Rattle.rules.specs.declared.Task.{Task}
use Rattle.rules.specs.Task.{tasks_of}
use Rattle.rules.specs.Table.{table_refusal, FirstOut}
use Rattle.rules.specs.Told.{Told, ◌with◌, judged_told, verdict_told}
use Rattle.rules.specs.Demand.{total_due, longest_wait, blocker, fails, verdict}
use Rattle.rules.specs.Text.{Lines, took, stop, read_set}
use Rattle.rules.specs.Answers.{verdict_answer, first_answer}
use Rattle.rules.specs.declared.Refusal.{Refusal}
use Rattle.rules.specs.declared.Verdict.{Verdict}
use Rattle.rules.proofs.Blockers.{blocker_task, blocker_nobody}
use Rattle.rules.proofs.Calls.{verdict_refused, verdict_judged, first_stops, first_read}
use Rattle.rules.proofs.SetTrips.{set_back}
use Rattle.promises.specs.Tables.{Least, TableTells, one, two, three, four, VerdictTells, JudgeTells, FirstTells}
use Rattle.promises.proofs.Exact.{table_tells, told_table, fine_not, not_fine}
use Rattle.promises.proofs.Kept.{exactly}
use Rattle.std.specs.Prelude.{Option, Some, None}

-- THE VERDICT on tasks
module _ (ts : List Task) where
  -- by the blocker, who is a task exactly if Wait(L) is above 0
  blocked : (L : ℕ) → Least (λ K. fails K ts) L → (b : Option ℕ) → blocker L ts ≡ b → VerdictTells ts (judged_told (Verdict.Misses L b (total_due L ts + longest_wait L ts - L)))
  blocked L l (Some b) e = let x = (blocker_task L ts b).0 e in VerdictTells.misses l x.0 x.1
  blocked L l None e = VerdictTells.misses_alone l ((blocker_nobody L ts).0 e)

  verdict_stands : VerdictTells ts (judged_told (verdict ts))
  verdict_stands = go (verdict ts) refl
    where
      go : (v : Verdict) → verdict ts ≡ v → VerdictTells ts (judged_told v)
      go (Verdict.Misses L b over) e = let h = (exactly ts (Verdict.Misses L b over)).0 e in rw h.2 (blocked L h.0 b (sym h.1))
      go (Verdict.Meets σ) e = let h = (exactly ts (Verdict.Meets σ)).0 e in VerdictTells.meets h.0 h.1
      go Verdict.TooFar e = let h = (exactly ts Verdict.TooFar).0 e in VerdictTells.too_far h.0 h.1

  verdict_lines : (t : Told) → VerdictTells ts t → judged_told (verdict ts) ≡ t
  verdict_lines t (VerdictTells.misses {L = L} {b = b} l w x) =
      ap judged_told ((exactly ts (Verdict.Misses L (Some b) _)).1 (l, sym ((blocker_task L ts b).1 (w, x)), refl))
  verdict_lines t (VerdictTells.misses_alone {L = L} l w) =
      ap judged_told ((exactly ts (Verdict.Misses L None _)).1 (l, sym ((blocker_nobody L ts).1 w), refl))
  verdict_lines t (VerdictTells.meets {σ = σ} n l) = ap judged_told ((exactly ts (Verdict.Meets σ)).1 (n, l))
  verdict_lines t (VerdictTells.too_far n m) = ap judged_told ((exactly ts Verdict.TooFar).1 (n, m))

-- the verdict call
module _ (table : List ℕ) where
  judge_stands : JudgeTells table (verdict_told (verdict_answer table))
  judge_stands = go (table_refusal table) refl
    where
      go : (o : Option Refusal) → table_refusal table ≡ o → JudgeTells table (verdict_told (verdict_answer table))
      go (Some r) e = rw (verdict_refused table r e) (JudgeTells.refused (table_tells table r e))
      go None e = rw (verdict_judged table e) (JudgeTells.judged (not_fine table e) (verdict_stands (tasks_of table)))

  judge_lines : (t : Told) → JudgeTells table t → verdict_told (verdict_answer table) ≡ t
  judge_lines t (JudgeTells.refused x) = let r = told_table table t x in rw (verdict_refused table r.0 r.1) r.2
  judge_lines t (JudgeTells.judged f x) = rw (verdict_judged table (fine_not table f)) (verdict_lines (tasks_of table) t x)

  pub judge_tells : (t : Told) → (verdict_told (verdict_answer table) ≡ t) ↔ JudgeTells table t
  judge_tells t = (λ e. subst (JudgeTells table) e judge_stands, judge_lines t)

-- THE FIRST SET OF A TEXT. A set that was read has 1 to 64 tasks of four words, so that a table's refusals 1, 2 and 3 cannot be
module _ (text ws after : List ℕ) (read : read_set text ≡ took ws after) where
  read_first : (t : Told) → JudgeTells ws t → FirstTells text t
  read_first t (JudgeTells.judged f x) = FirstTells.judged read f x
  read_first t (JudgeTells.refused (one a)) = let s = set_back text ws after read in absurd (omega arith)
  read_first t (JudgeTells.refused (two a b)) = let s = set_back text ws after read in absurd (b (omega arith))
  read_first t (JudgeTells.refused (three a b c)) = let s = set_back text ws after read in absurd (omega arith)
  read_first t (JudgeTells.refused (four a b c x)) = FirstTells.four read x

  first_word : (i : ℕ) → FirstOut ws i → TableTells ws (4 with (i ∷ []))
  first_word i x =
      let s = set_back text ws after read in
      four (λ e. omega arith) (omega arith) (omega arith) x

module _ (text : List ℕ) where
  first_stands : FirstTells text (verdict_told (first_answer text))
  first_stands = go (read_set text) refl
    where
      go : (x : Lines) → read_set text ≡ x → FirstTells text (verdict_told (first_answer text))
      go (stop l) e = rw (first_stops text l e) (FirstTells.seven e)
      go (took ws after) e = rw (first_read text ws after e) (read_first text ws after e _ (judge_stands ws))

  first_lines : (t : Told) → FirstTells text t → verdict_told (first_answer text) ≡ t
  first_lines t (FirstTells.seven {l = l} e) = rw (first_stops text l e)
  first_lines t (FirstTells.four {ws = ws} {after = after} {i = i} e x) =
      rw (first_read text ws after e) (judge_lines ws t (JudgeTells.refused (first_word text ws after e i x)))
  first_lines t (FirstTells.judged {ws = ws} {after = after} e f x) = rw (first_read text ws after e) (judge_lines ws t (JudgeTells.judged f x))

  pub first_tells : (t : Told) → (verdict_told (first_answer text) ≡ t) ↔ FirstTells text t
  first_tells t = (λ e. subst (FirstTells text) e first_stands, first_lines t)
