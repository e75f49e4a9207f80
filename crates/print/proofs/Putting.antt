-- Bytes put at a place of a list: one after another, and a number's digits from the last; and that a call has one outcome.
use mathlib.Core.Path.{◌≡◌, refl, sym, ap, ap₂, ◌∙◌}
use Prim.Native.Nat.{ℕ, zero, suc, ◌+◌, ◌-◌, ◌/◌, ◌%◌, ◌≤◌, ◌<◌}
use native.Mathlib.Omega.{arith}
use mathlib.Core.List.{List, [], ◌∷◌, ◌++◌, append_assoc}
use lib.ListN.{length, take, drop, set, length-append, length-drop, take-append-drop}
use lib.Seq.{set_split, take_at, drop_at, drop-append-add, drop-drop, length-take-le, take-set-le}
use Rattle.rules.proofs.Digits.{lasts, lasts_none, lasts_more, lasts_length}
use Rattle.print.specs.Place.{put, Puts, PutsOne}

-- one outcome
pub puts_one : PutsOne
puts_one old at vs m n e f p q = (p.says ∙ sym q.says, p.leaves ∙ sym q.leaves)

-- no byte
pub put_nil : (l : List ℕ) (at : ℕ) → put l at [] ≡ l
put_nil l at = let e : at + 0 ≡ at = omega arith in ap (λ (k : ℕ). take at l ++ drop k l) e ∙ take-append-drop at l

-- at the start
pub put_start : (l vs : List ℕ) → put l 0 vs ≡ vs ++ drop (length vs) l
put_start l vs = let e : 0 + length vs ≡ length vs = omega arith in ap (λ (k : ℕ). vs ++ drop k l) e

-- no digit
pub put_none : (l : List ℕ) (at i v : ℕ) → i ≡ 0 → put l at (lasts i v) ≡ l
put_none l at i v e = rw (e, lasts_none v) (put_nil l at)

-- the last byte, put before the others
put_last : (l : List ℕ) (at : ℕ) (vs : List ℕ) (b k : ℕ) → length vs ≡ k → at + k < length l → put (set l (at + k) b) at vs ≡ put l at (vs ++ (b ∷ []))
put_last l at vs b k e h =
    let n = at + k in
    let m : at + length vs ≡ n = omega arith in
    let d : drop n (set l n b) ≡ b ∷ drop (suc n) l = ap (drop n) (set_split l n b h) ∙ drop_at (take n l) (b ∷ drop (suc n) l) n (length-take-le n l (omega arith)) in
    let e : suc n ≡ at + length (vs ++ (b ∷ [])) = omega (arith, length-append vs (b ∷ [])) in
    ap₂ (λ (x y : List ℕ). x ++ (vs ++ y)) (take-set-le at l n b (omega arith)) (ap (λ (j : ℕ). drop j (set l n b)) m ∙ d ∙ ap (λ (k : ℕ). b ∷ drop k l) e)
    ∙ ap (λ (x : List ℕ). take at l ++ x) (sym (append_assoc vs (b ∷ []) (drop (at + length (vs ++ (b ∷ []))) l)))

-- one byte
pub put_one : (l : List ℕ) (at b : ℕ) → at < length l → set l at b ≡ put l at (b ∷ [])
put_one l at b h =
    let e : at ≡ at + 0 = omega arith in
    sym (put_nil (set l at b) at) ∙ ap (λ (k : ℕ). put (set l k b) at []) e ∙ put_last l at [] b 0 refl (omega arith)

module _ (l : List ℕ) (at : ℕ) (vs : List ℕ) (h : at + length vs ≤ length l) where
  head_length : length (take at l ++ vs) ≡ at + length vs
  head_length = length-append (take at l) vs ∙ ap (λ (k : ℕ). k + length vs) (length-take-le at l (omega arith))

  -- the list keeps its length
  pub put_length : length (put l at vs) ≡ length l
  put_length = omega (arith, length-append (take at l) (vs ++ drop (at + length vs) l), length-append vs (drop (at + length vs) l), length-take-le at l (omega arith), length-drop (at + length vs) l)

  put_split : put l at vs ≡ (take at l ++ vs) ++ drop (at + length vs) l
  put_split = sym (append_assoc (take at l) vs (drop (at + length vs) l))

  -- bytes put after others
  put_put : (ws : List ℕ) → put (put l at vs) (at + length vs) ws ≡ put l at (vs ++ ws)
  put_put ws =
      let n = at + length vs in
      let a : take n (put l at vs) ≡ take at l ++ vs = ap (take n) put_split ∙ take_at (take at l ++ vs) (drop n l) n head_length in
      let b : drop (n + length ws) (put l at vs) ≡ drop (n + length ws) l =
      ap (drop (n + length ws)) put_split
      ∙ ap (λ (k : ℕ). drop (k + length ws) ((take at l ++ vs) ++ drop n l)) (sym head_length)
      ∙ drop-append-add (take at l ++ vs) (drop n l) (length ws)
      ∙ drop-drop (length ws) n l
      in
      let d : n + length ws ≡ at + length (vs ++ ws) = omega (arith, length-append vs ws) in
      ap₂ (λ (x y : List ℕ). x ++ (ws ++ y)) a b
      ∙ ap (λ (k : ℕ). (take at l ++ vs) ++ (ws ++ drop k l)) d
      ∙ append_assoc (take at l) vs (ws ++ drop (at + length (vs ++ ws)) l)
      ∙ ap (λ (x : List ℕ). take at l ++ x) (sym (append_assoc vs ws (drop (at + length (vs ++ ws)) l)))

  pub put_after : {m : List ℕ} {r : ℕ} (ws : List ℕ) → Puts l at vs r m → put m r ws ≡ put l at (vs ++ ws)
  put_after ws p = ap₂ (λ (i : List ℕ) (j : ℕ). put i j ws) p.leaves p.says ∙ put_put ws

  -- one call after another
  pub then : {m k : List ℕ} {r q : ℕ} (ws : List ℕ) → Puts l at vs r m → Puts m r ws q k → Puts l at (vs ++ ws) q k
  then {m} {k} {r} {q} ws p s =
      let x = p.says in
      let y = s.says in
      record {
        says = omega (arith, length-append vs ws);
        leaves = s.leaves ∙ put_after ws p;
      }

-- one digit of a number, put before those that stand in front of it
put_digit : (l : List ℕ) (at i v : ℕ) → 0 < i → at + i ≤ length l → put (set l (at + (i - 1)) (48 + v % 10)) at (lasts (i - 1) (v / 10)) ≡ put l at (lasts i v)
put_digit l at zero v p h = absurd (omega arith)
put_digit l at (suc k) v p h =
    let e : suc k - 1 ≡ k = omega arith in
    rw (e, lasts_more k v) (put_last l at (lasts k (v / 10)) (48 + v % 10) k (lasts_length k (v / 10)) (omega arith))

-- the same by the place before which the digits that are left end
pub put_digit_at : (l : List ℕ) (at e v : ℕ) → at < e → e ≤ length l → put (set l (e - 1) (48 + v % 10)) at (lasts (e - 1 - at) (v / 10)) ≡ put l at (lasts (e - at) v)
put_digit_at l at e v p h =
    let i : e - 1 ≡ at + (e - at - 1) = omega arith in
    let k : e - 1 - at ≡ e - at - 1 = omega arith in
    rw (k, i) (put_digit l at (e - at) v (omega arith) (omega arith))
