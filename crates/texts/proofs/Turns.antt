-- The run over the sets: what one turn puts behind the texts that stand at the start of the lent bytes makes the texts of one set more.
use mathlib.Core.Path.{◌≡◌, refl, sym, ap, ◌∙◌}
use Prim.Native.Nat.{ℕ, ◌+◌, ◌-◌, ◌*◌, ◌≤◌}
use native.Mathlib.Omega.{arith}
use mathlib.Core.List.{List, ◌++◌, append_assoc, append-nil}
use lib.ListN.{length, take, drop, length-append}
use lib.Seq.{drop-drop}
use Rattle.rules.specs.Text.{write_set}
use Rattle.rules.specs.Generator.{words_drawn, state_after_set, state_after_sets, generated}
use Rattle.rules.proofs.Slices.{lent_end, end_back}
use Rattle.rules.proofs.DrawnTexts.{text_length, sets_none, sets_more, sets_after, texts_none, texts_more, in_pieces}
use Rattle.texts.specs.Texts.{text_most, Puts, PutsSet, PutsSets}

-- one set more
state_more : (i s : ℕ) → state_after_set (state_after_sets i s) ≡ state_after_sets (i + 1) s
state_more i s = sym (sets_more 0 (state_after_sets i s) ∙ sets_none _) ∙ sets_after i 1 s

texts_last : (i number s : ℕ) → generated i number s ++ write_set (words_drawn (number + i) (state_after_sets i s)) ≡ generated (i + 1) number s
texts_last i number s =
    sym (in_pieces i 1 number s ∙ ap (λ (l : List ℕ). generated i number s ++ l) (rw (texts_more, texts_none, append-nil) refl))

-- a text that is put behind another
puts_behind : {t u old out exit : List ℕ} {σ s τ at size after : ℕ} → Puts t σ old at s out → Puts u τ (take (length out - at) (drop at out)) size after exit
    → Puts (t ++ u) τ old (at + size) after (take at out ++ (exit ++ drop (length out - at) (drop at out)))
puts_behind {t} {u} {old} {out} {exit} {at = at} {size = size} p q =
    let rest : List ℕ = drop (length t) old in
    let behind : Puts u _ rest size _ exit = rw (lent_end t rest out at (sym p.says) p.leaves) at q in
    record {
      says = omega (arith, p.says, q.says, length-append t u);
      moves = q.moves;
      leaves =
          end_back t rest out at (sym p.says) p.leaves exit
          ∙ ap (λ (l : List ℕ). t ++ l) (behind.leaves ∙ ap (λ (l : List ℕ). u ++ l) (drop-drop (length u) (length t) old))
          ∙ sym (append_assoc t u (drop (length t + length u) old))
          ∙ ap (λ (n : ℕ). (t ++ u) ++ drop n old) (sym (length-append t u));
    }

-- the texts of the first i sets stand at the start of out, and each has 264 bytes at most
pub record SoFar (s₀ number : ℕ) (old : List ℕ) (s : ℕ) (out : List ℕ) (at i : ℕ) : Type 0 where
  pub puts : PutsSets s₀ number i old at s out
  pub within : at ≤ text_most * i

module _ (s₀ number : ℕ) (old : List ℕ) where
  -- no set is drawn
  pub at_first : SoFar s₀ number old s₀ old 0 0
  at_first = record { puts = record { says = rw texts_none refl; moves = sym (sets_none s₀); leaves = rw texts_none refl }; within = omega arith }

  module _ {s at i : ℕ} {out : List ℕ} (so_far : SoFar s₀ number old s out at i) where
    -- the next set's text is put behind the others
    next : {size after : ℕ} {exit : List ℕ} → PutsSet s (number + i) (take (length out - at) (drop at out)) size after exit
        → SoFar s₀ number old after (take at out ++ (exit ++ drop (length out - at) (drop at out))) (at + size) (i + 1)
    next set =
        let state : state_after_set s ≡ state_after_sets (i + 1) s₀ = ap state_after_set so_far.puts.moves ∙ state_more i s₀ in
        let texts : generated i number s₀ ++ write_set (words_drawn (number + i) s) ≡ generated (i + 1) number s₀ =
        ap (λ (σ : ℕ). generated i number s₀ ++ write_set (words_drawn (number + i) σ)) so_far.puts.moves ∙ texts_last i number s₀
        in
        record { puts = rw (texts, state) at (puts_behind so_far.puts set); within = omega (arith, so_far.within, set.says, text_length (number + i) s) }

    -- so where it is put at the next place
    pub at_next : {k from size after : ℕ} {exit : List ℕ} → PutsSet s k (take (length out - from) (drop from out)) size after exit → k ≡ number + i → from ≡ at
        → SoFar s₀ number old after (take from out ++ (exit ++ drop (length out - from) (drop from out))) (at + size) (i + 1)
    at_next set e f = rw f (next (rw (e, f) at set))

    -- no set is left
    pub at_last : {count : ℕ} → i ≡ count → PutsSets s₀ number count old at s out
    at_last e = rw e at so_far.puts
