-- The C call's number in one sentence: what it says is true of every arrival pattern of the set that was read.
use mathlib.Core.Path.{◌≡◌, refl}
use Prim.Native.Nat.{ℕ}
use native.Mathlib.Omega.{arith}
use mathlib.Core.List.{List}
use Rattle.rules.specs.Task.{tasks_of, AllSound}
use Rattle.rules.specs.Table.{Fine}
use Rattle.rules.specs.Told.{Told, number_told, verdict_told}
use Rattle.rules.specs.Dispatch.{Job}
use Rattle.rules.specs.Legal.{Legal}
use Rattle.rules.specs.Text.{took, read_set}
use Rattle.rules.specs.Answers.{first_answer, check_number}
use Rattle.rules.proofs.Tables.{table_sound}
use Rattle.rules.proofs.Calls.{check_number_law}
use Rattle.promises.specs.Tables.{VerdictTells, FirstTells}
use Rattle.promises.specs.Demands.{InTime, WasRead, CallSays, CallForC}
use Rattle.promises.proofs.Exact.{fine_not}
use Rattle.promises.proofs.Judged.{first_tells}
use Rattle.promises.proofs.Kept.{in_time, makes_late}

-- the verdict on a set that was read
read_says : (text ws after : List ℕ) → read_set text ≡ took ws after → Fine ws → (t : Told) → VerdictTells (tasks_of ws) t → CallSays text (number_told t)
read_says text ws after e f t x = go t x
  where
    sound : AllSound (tasks_of ws)
    sound = table_sound ws (fine_not ws f)

    go : (t : Told) → VerdictTells (tasks_of ws) t → CallSays text (number_told t)
    go t (VerdictTells.misses {L = L} l w b) = CallSays.misses (ws, after, e, f, (L, l, makes_late (tasks_of ws) sound L l.2))
    go t (VerdictTells.misses_alone {L = L} l w) = CallSays.misses (ws, after, e, f, (L, l, makes_late (tasks_of ws) sound L l.2))
    go t (VerdictTells.meets {σ = σ} n l) =
        CallSays.meets (ws, after, e, f, in_time (tasks_of ws) sound σ l.0 l.2 (λ K low below. let h = l.1 in n K low (omega arith)))
    go t (VerdictTells.too_far n m) = CallSays.too_far (ws, after, e, f, (n, m))

told_says : (text : List ℕ) (t : Told) → FirstTells text t → CallSays text (number_told t)
told_says text t (FirstTells.seven e) = CallSays.bad_line e
told_says text t (FirstTells.four e x) = CallSays.bad_word e x
told_says text t (FirstTells.judged {ws = ws} {after = after} e f x) = read_says text ws after e f t x

call_says : (text : List ℕ) → CallSays text (check_number text)
call_says text = rw (check_number_law text) (told_says text (verdict_told (first_answer text)) ((first_tells text (verdict_told (first_answer text))).0 refl))

pub call_for_c : CallForC
call_for_c = record { says = call_says; safe = λ text. go text (check_number text) (call_says text) }
  where
    go : (text : List ℕ) (n : ℕ) → CallSays text n → n ≡ 100 → WasRead text (λ ts. (js : List Job) → Legal ts js → InTime js)
    go text n (CallSays.meets r) e = r
    go text n (CallSays.misses r) e = absurd (omega arith)
    go text n (CallSays.too_far r) e = absurd (omega arith)
    go text n (CallSays.bad_word r x) e = absurd (omega arith)
    go text n (CallSays.bad_line r) e = absurd (omega arith)
