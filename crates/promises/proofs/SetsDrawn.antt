-- Every set drawn is one that the verdict doesn't refuse, the long kernel holds the tile, and the texts are read in turn.
use mathlib.Core.Path.{◌≡◌, sym, ap, subst, ◌∙◌}
use mathlib.Core.Logic.{◌↔◌}
use Prim.Native.Nat.{ℕ, suc, ◌-◌, ◌*◌, ◌≤◌, ◌<◌, ◌%◌}
use native.Mathlib.Omega.{arith}
use native.Mathlib.Decide.{dec_lt}
use mathlib.Core.List.{List}
use lib.ListN.{length, take, drop}
use lib.Seq.{take_at}
use Rattle.rules.specs.Task.{tasks_of, task_at}
use Rattle.rules.specs.Demand.{verdict}
use Rattle.rules.specs.Answers.{verdict_answer}
use Rattle.rules.specs.Generator.{count_drawn, set_drawn, words_drawn, DrawsSet}
use Rattle.rules.specs.declared.Refusal.TheVariants.{TooShort}
use Rattle.rules.specs.declared.Verdict.{Verdict}
use Rattle.rules.proofs.Calls.{verdict_judged}
use Rattle.rules.proofs.Drawn.{length_set_drawn, length_words_drawn, set_refused, set_given}
use Rattle.rules.proofs.DrawnFine.{drawn_fine}
use Rattle.rules.proofs.LongKernel.{set_length, long_there, d_above, long_due, long_waits, long_passes, long_where}
use Rattle.rules.proofs.DrawnTexts.{texts_none, read_in_turn, in_pieces}
use Rattle.promises.specs.Demands.{HoldsTheTile, SetsDrawn}
use Rattle.std.specs.Prelude.{Ok, Err}

-- a verdict is given
judged : (s number : ℕ) → (v : Verdict) × (verdict_answer (words_drawn number s) ≡ Ok v)
judged s number = (verdict (tasks_of (words_drawn number s)), verdict_judged (words_drawn number s) (drawn_fine number s))

-- whatever was drawn is the set's words
drawn_words : (s number n after : ℕ) (table exit : List ℕ) → DrawsSet s number table (Ok n) after exit → take (4 * n) exit ≡ words_drawn number s
drawn_words s number n after table exit c = go (dec_lt (length table) (4 * count_drawn s))
  where
    go : Dec (length table < 4 * count_drawn s) → take (4 * n) exit ≡ words_drawn number s
    go (yes h) =
        let f : Ok n ≡ Err TooShort = c.says ∙ sym (set_refused s number table h).says in
        let z : ◌≡◌ {A = ℕ} 0 1 = cc in
        absurd (omega arith)
    go (no h) =
        let g = set_given s number table (omega arith) in
        let f : Ok n ≡ Ok (count_drawn s) = c.says ∙ sym g.says in
        let m : n ≡ count_drawn s = cc in
        ap (take (4 * n)) (c.leaves ∙ sym g.leaves)
        ∙ take_at (words_drawn number s) (drop (4 * count_drawn s) table) (4 * n) (omega (arith, length_words_drawn number s))

-- the last task is the long kernel
holds : (s number : ℕ) → number % 4 ≡ 0 → 2 ≤ count_drawn s → HoldsTheTile (set_drawn number s) (count_drawn s - 1)
holds s number m n =
    let L = long_there s number m n in
    record {
      last = set_length s number m n;
      c_most = L.c_most;
      c_one = L.c_one;
      d_above = d_above s number m n;
      due = long_due s number m n;
      waits = long_waits s number m n;
      passes = long_passes s number m n;
    }

pub sets_drawn : SetsDrawn
sets_drawn = record {
  not_refused = judged;
  drawn_is_judged = λ s number n after table exit c.
      subst (λ (w : List ℕ). (v : Verdict) × (verdict_answer w ≡ Ok v)) (sym (drawn_words s number n after table exit c)) (judged s number);
  long_where = λ s number k n.
      let e : length (set_drawn number s) ≡ count_drawn s = length_set_drawn number s in
      subst (λ (j : ℕ). ((task_at (set_drawn number s) k).D ≡ 65535) ↔ ((number % 4 ≡ 0) × (2 ≤ j))) (sym e) (long_where s number k (sym e ∙ n));
  long_kernel = λ s number k n d.
      let c : count_drawn s ≡ suc k = sym (length_set_drawn number s) ∙ n in
      let there = (long_where s number k c).0 d in
      let e : count_drawn s - 1 ≡ k = omega arith in
      subst (HoldsTheTile (set_drawn number s)) e (holds s number there.0 there.1);
  no_text = texts_none;
  read_in_turn = read_in_turn;
  in_pieces = in_pieces;
}
