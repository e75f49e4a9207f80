-- What a draw and a set's draw give is exactly what the paper has.
use mathlib.Core.Path.{◌≡◌, refl, sym, ap, ap₂, subst, ◌∙◌}
use mathlib.Core.Logic.{◌↔◌}
use Prim.Native.Nat.{ℕ, ◌+◌, ◌*◌, ◌/◌, ◌%◌, ◌<◌}
use native.Mathlib.Omega.{arith}
use native.Mathlib.Decide.{dec_lt}
use mathlib.Core.List.{List, ◌++◌}
use lib.ListN.{length, drop}
use Rattle.rules.specs.declared.Task.{Task}
use Rattle.rules.specs.Told.{Told, read_told}
use Rattle.rules.specs.Generator.{count_drawn, set_drawn, words_of, words_drawn, state_after_set, Draws, draw_answer, draw_state, draw_table, DrawsSet}
use Rattle.rules.proofs.Drawn.{length_set_drawn, length_words_drawn, set_refused, set_given}
use Rattle.rules.proofs.DrawnSets.{draw_when, seed_gives, seed_only, tasks_back, words_back}
use Rattle.promises.specs.Tables.{WordsFor, SetTells}
use Rattle.promises.proofs.Exact.{along}
use Rattle.std.specs.Prelude.{Result, Ok}
use Rattle.rules.specs.declared.Refusal.{Refusal}

-- A DRAW
pub draw_tells : (s n after : ℕ) → Draws s n after ↔ ((after ≡ (1664525 * s + 1013904223) % 4294967296) × (n ≡ after / 65536))
draw_tells = draw_when

-- A SET
module _ (s number : ℕ) (table : List ℕ) where
  -- an outcome that the contract allows is the one given
  set_told : {t : Told} {a : Result ℕ Refusal} {after : ℕ} {exit : List ℕ} → read_told a ≡ t → DrawsSet s number table a after exit
      → (read_told (draw_answer s number table) ≡ t) × (draw_state s number table ≡ after) × (draw_table s number table ≡ exit)
  set_told e c = (rw (← c.says) e, sym c.moves, sym c.leaves)

  abbrev Stands : Type 0
  Stands = SetTells s number table (read_told (draw_answer s number table)) (draw_state s number table) (draw_table s number table)

  stands : {a : Result ℕ Refusal} {after : ℕ} {exit : List ℕ} → DrawsSet s number table a after exit → SetTells s number table (read_told a) after exit → Stands
  stands c h = rw (← c.says, ← c.moves, ← c.leaves) h

  -- the paper's words are those of the definitions
  words_are : {ts : List Task} {ws : List ℕ} → ts ≡ set_drawn number s → WordsFor ts ws → ws ≡ words_drawn number s
  words_are {ts} {ws} e w = words_back ws (w.four_each ∙ ap (λ (us : List Task). 4 * length us) (sym w.in_order)) ∙ ap words_of (w.in_order ∙ e)

  set_stands : Stands
  set_stands = go (dec_lt (length table) (4 * count_drawn s))
    where
      n : length (set_drawn number s) ≡ count_drawn s
      n = length_set_drawn number s

      go : Dec (length table < 4 * count_drawn s) → Stands
      go (yes h) = stands (set_refused s number table h) (SetTells.six (seed_gives s number) (omega (arith, n)))
      go (no h) =
          let m : length (words_drawn number s) ≡ 4 * length (set_drawn number s) = omega (arith, n, length_words_drawn number s) in
          stands (set_given s number table (omega arith))
          (subst (λ (k : ℕ). SetTells s number table (read_told (Ok k)) (state_after_set s) (words_drawn number s ++ drop (4 * k) table)) n
          (SetTells.set (seed_gives s number) (omega (arith, n)) (record { four_each = m; in_order = tasks_back (set_drawn number s) })))

  set_lines_law : (t : Told) (after : ℕ) (exit : List ℕ) → SetTells s number table t after exit
      → (read_told (draw_answer s number table) ≡ t) × (draw_state s number table ≡ after) × (draw_table s number table ≡ exit)
  set_lines_law t after exit (SetTells.six {ts = ts} d h) =
      let e = (seed_only s number d).0 in
      set_told refl (set_refused s number table (omega (arith, ap (λ (us : List Task). length us) e, length_set_drawn number s)))
  set_lines_law t after exit (SetTells.set {ts = ts} {ws = ws} d h w) =
      let both = seed_only s number d in
      let n : length ts ≡ count_drawn s = ap (λ (us : List Task). length us) both.0 ∙ length_set_drawn number s in
      let g = set_given s number table (omega arith) in
      let c : DrawsSet s number table (Ok (length ts)) after (ws ++ drop (4 * length ts) table) =
      record {
        says = ap Ok n ∙ g.says;
        moves = both.1 ∙ g.moves;
        leaves = ap₂ (λ (x : List ℕ) (k : ℕ). x ++ drop (4 * k) table) (words_are both.0 w) n ∙ g.leaves;
      }
      in
      set_told refl c

  pub set_tells : (t : Told) (after : ℕ) (exit : List ℕ)
      → ((read_told (draw_answer s number table) ≡ t) × (draw_state s number table ≡ after) × (draw_table s number table ≡ exit)) ↔ SetTells s number table t after exit
  set_tells t after exit = (
    λ p. subst (λ (k : ℕ). SetTells s number table t k exit) p.1 (along (λ (u : Told) (b : List ℕ). SetTells s number table u (draw_state s number table) b) p.0 p.2 set_stands),
    set_lines_law t after exit,
  )
