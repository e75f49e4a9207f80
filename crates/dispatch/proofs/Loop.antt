-- The loop that writes the rows: after k turns the first k rows are written, and the others are those of the jobs that are left.
use mathlib.Core.Path.{◌≡◌, refl, sym, ap, ap₂, subst, ◌∙◌}
use Prim.Native.Nat.{ℕ, suc, ◌+◌, ◌-◌, ◌*◌, ◌^◌, ◌≤◌, ◌<◌}
use native.Mathlib.Omega.{arith}
use mathlib.Core.List.{List, [], ◌∷◌, ◌++◌, append_assoc, append-nil}
use lib.ListN.{length, get_or, take, drop, length-append, length-set}
use Rattle.rules.specs.Dispatch.{Job, Row, rows, dispatch, late_job, row_words}
use Rattle.rules.specs.Task.{tasks_of}
use Rattle.rules.specs.Table.{task_in, task_count, Valid}
use Rattle.rules.specs.Jobs.{planned}
use Rattle.rules.specs.Answers.{timing}
use Rattle.rules.specs.Calls.{Dispatches}
use Rattle.rules.specs.declared.Plan.{Plan}
use Rattle.rules.proofs.Tables.{task_c_most}
use Rattle.rules.proofs.Choosing.{rows_none, rows_all}
use Rattle.rules.proofs.LateJob.{late_no_row}
use Rattle.rules.proofs.Slices.{four_more}
use Rattle.rules.proofs.RowWords.{finish_is, row_words_append, length_row_words, row_words_none, row_words_one}
use Rattle.rules.proofs.Calls.{dispatch_rows}
use Rattle.turn.specs.declared.Turn.{Turn}
use Rattle.turn.specs.Counters.{rest_from, none_started, Chosen, Best}
use Rattle.turn.proofs.Fresh.{fresh_jobs}
use Rattle.turn.proofs.Started.{moved, row_of, OneTurn, one_turn}
use Rattle.row.specs.Lateness.{lateness, noting}
use Rattle.row.proofs.Held.{held_more, timing_is}
use Rattle.std.specs.Prelude.{Option, Some, None, Result, Ok, true}
use Rattle.std.specs.Option.{is_some}
use Rattle.rules.specs.declared.Late.{Late}
use Rattle.rules.specs.declared.Refusal.{Refusal}
use Rattle.rules.specs.declared.Timing.{Timing}

-- a timing, as the answer
abbrev told : Timing → Result Timing Refusal
told x = Ok x

-- k of n rows, those of done, are written to out, which was out₀
pub record State (w : List ℕ) (plan : Plan) (out₀ : List ℕ) (m n : ℕ) (out nx : List ℕ) (t : ℕ) (l : Option Late) (k : ℕ) : Type 0 where
  pub done : List Row
  pub most : k ≤ n
  pub slots : length nx ≡ 64
  pub time : t ≤ 2 ^ 33 + 65535 * k
  pub fits : 4 * n ≤ length out₀
  pub jobs : length (rest_from w plan nx m 0) ≡ n - k
  pub all : dispatch (planned plan (tasks_of w)) ≡ done ++ rows (n - k) t (rest_from w plan nx m 0)
  pub count : length done ≡ k
  pub written : out ≡ row_words done ++ drop (4 * k) out₀
  pub so_far : l ≡ lateness (late_job done)

-- the tasks and the plan of the jobs that wait are the call's
pub found_of : (v w : List ℕ) (p q : Plan) (nx : List ℕ) (t : ℕ) (o : Option Turn) → v ≡ w → p ≡ q
    → Best v p nx t (task_count v) 0 o → Best w q nx t (task_count w) 0 o
found_of v w p q nx t o ev ep =
    subst (λ (x : Plan). Best v p nx t (task_count v) 0 o → Best w x nx t (task_count w) 0 o) ep
    (subst (λ (x : List ℕ). Best v p nx t (task_count v) 0 o → Best x p nx t (task_count x) 0 o) ev (λ h. h))

module _ (w : List ℕ) (plan : Plan) (out₀ : List ℕ) (m n : ℕ) (ok : Valid w m) where
  pub state_begin : n ≡ length (planned plan (tasks_of w)) → 4 * n ≤ length out₀ → State w plan out₀ m n out₀ none_started 0 None 0
  state_begin len h =
      let e : length (planned plan (tasks_of w)) ≡ n - 0 = omega arith in
      let fresh : rest_from w plan none_started m 0 ≡ planned plan (tasks_of w) = fresh_jobs w plan m ok in
      record {
        done = [];
        most = omega arith;
        slots = refl;
        time = omega arith;
        fits = h;
        jobs = ap length fresh ∙ e;
        all = rows_all (n - 0) (planned plan (tasks_of w)) e ∙ ap (rows (n - 0) 0) (sym fresh);
        count = refl;
        written = ap (λ (ws : List ℕ). ws ++ out₀) (sym row_words_none);
        so_far = ap lateness (sym late_no_row);
      }

  module _ (out nx : List ℕ) (t : ℕ) (l : Option Late) (k : ℕ) (S : State w plan out₀ m n out nx t l k) where
    -- a job is left, so one is found
    pub some_left : k < n → (o : Option Turn) → Best w plan nx t m 0 o → is_some o ≡ true
    some_left h None e =
        let z : m - 0 ≡ m = omega arith in
        absurd (omega (arith, ap length e, ap (λ (i : ℕ). length (rest_from w plan nx i 0)) z, S.jobs))
    some_left h (Some x) ch = refl

    pub state_more : k < n → (o : Option Turn) → Best w plan nx t m 0 o → (x : Turn) → o ≡ Some x → (q e : ℕ) → q ≡ get_or nx x.task 0 → e ≡ x.start + (task_in w x.task).C
        → (l' : Option Late) → l' ≡ noting l (record { task = x.task; job = q; deadline = x.due }) e → (out' : List ℕ)
        → out' ≡ take (4 * k) out ++ (x.task ∷ q ∷ x.start ∷ e ∷ drop (4 * k + 4) out)
        → State w plan out₀ m n out' (moved nx x.task) e l' (k + 1)
    state_more h o found x is q e eq ee l' el out' eo =
        let ch : Chosen w plan nx t m 0 x = let b : Best w plan nx t m 0 (Some x) = subst (λ (v : Option Turn). Best w plan nx t m 0 v) is found in b in
        let p : ℕ = n - (k + 1) in
        let done : List Row = S.done in
        let row : Row = row_of w plan nx x in
        let after : List Job = rest_from w plan (moved nx x.task) m 0 in
        let st : OneTurn w plan nx m t p x = one_turn w plan nx m t p x (omega (arith, S.slots, ok.most_tasks)) (omega (arith, S.jobs)) ch in
        let ep : n - k ≡ suc p = omega arith in
        let len : length (row_words done) ≡ 4 * k = omega (arith, length_row_words done, S.count) in
        record {
          done = done ++ (row ∷ []);
          most = omega arith;
          slots = length-set nx x.task (get_or nx x.task 0 + 1) ∙ S.slots;
          time = omega (arith, S.time, ch.soon, task_c_most w m x.task ok ch.is_task);
          fits = S.fits;
          jobs = st.fewer;
          all =
              S.all
              ∙ ap (λ (i : ℕ). done ++ rows i t (rest_from w plan nx m 0)) ep
              ∙ ap (λ (ws : List Row). done ++ ws) st.row
              ∙ ap (λ (i : ℕ). done ++ (row ∷ rows p i after)) (sym ee)
              ∙ sym (append_assoc done (row ∷ []) (rows p e after));
          count = omega (arith, length-append done (row ∷ []), S.count);
          written =
              four_more out₀ (row_words done) k x.task q x.start e len S.written eo
              ∙ ap₂ (λ (i z : ℕ). (row_words done ++ (x.task ∷ i ∷ x.start ∷ z ∷ [])) ++ drop (4 * (k + 1)) out₀) eq ee
              ∙ ap (λ (ws : List ℕ). (row_words done ++ ws) ++ drop (4 * (k + 1)) out₀) (sym (row_words_one row))
              ∙ ap (λ (ws : List ℕ). ws ++ drop (4 * (k + 1)) out₀) (sym (row_words_append done (row ∷ [])));
          so_far =
              el
              ∙ ap₂ (λ (a : Option Late) (i : ℕ). noting a (record { task = x.task; job = i; deadline = x.due }) e) S.so_far eq
              ∙ ap₂ (λ (d f : ℕ). noting (lateness (late_job done)) (record { task = x.task; job = get_or nx x.task 0; deadline = d }) f) ch.due_then (ee ∙ sym (finish_is row))
              ∙ held_more row done;
        }

    pub state_end : n ≤ k → Dispatches (planned plan (tasks_of w)) out₀ (Ok (record { rows = n; late = l })) out
    state_end h =
        let z : n - k ≡ 0 = omega arith in
        let left : rows (n - k) t (rest_from w plan nx m 0) ≡ [] = ap (λ (x : ℕ). rows x t (rest_from w plan nx m 0)) z ∙ rows_none t _ in
        let all : dispatch (planned plan (tasks_of w)) ≡ S.done = S.all ∙ ap (λ (ws : List Row). S.done ++ ws) left ∙ append-nil S.done in
        let len : n ≡ length (dispatch (planned plan (tasks_of w))) = omega (arith, ap length all, S.count, S.most) in
        let four : 4 * k ≡ length (row_words S.done) = omega (arith, length_row_words S.done, S.count) in
        let due = dispatch_rows (planned plan (tasks_of w)) out₀ (omega (arith, S.fits)) in
        record {
          says =
              ap (λ (v : Option Late). told (record { rows = n; late = v })) S.so_far
              ∙ ap told (timing_is n (late_job S.done))
              ∙ ap₂ (λ (x : ℕ) (ws : List Row). told (timing x (late_job ws))) len (sym all)
              ∙ due.says;
          leaves =
              S.written
              ∙ ap (λ (x : ℕ). row_words S.done ++ drop x out₀) four
              ∙ ap (λ (ws : List Row). row_words ws ++ drop (length (row_words ws)) out₀) (sym all)
              ∙ due.leaves;
        }
