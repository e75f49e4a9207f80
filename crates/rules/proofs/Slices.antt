-- Parts and copies of a list, as code makes them.
use mathlib.Core.Path.{◌≡◌, sym, ap, ap₂, ◌∙◌}
use Prim.Native.Nat.{ℕ, ◌+◌, ◌-◌, ◌*◌, ◌≤◌}
use native.Mathlib.Omega.{arith}
use mathlib.Core.List.{List, [], ◌∷◌, ◌++◌, append-nil, append_assoc}
use lib.ListN.{length, take, drop, length-append, length-drop}
use lib.Seq.{length-take-le, take_all, take_at, drop_at, drop-drop, take-length, drop-length}

-- what `&s[a..]` is
pub part : (a : ℕ) (s : List ℕ) → take (length s - a) (drop a s) ≡ drop a s
part a s = take_all (length s - a) (drop a s) (omega (arith, length-drop a s))

-- four words more, after the fours that stand at the start of a list
pub four_more : (old done : List ℕ) (k a b c d : ℕ) {l m : List ℕ} → length done ≡ 4 * k → l ≡ done ++ drop (4 * k) old
    → m ≡ take (4 * k) l ++ (a ∷ b ∷ c ∷ d ∷ drop (4 * k + 4) l) → m ≡ (done ++ (a ∷ b ∷ c ∷ d ∷ [])) ++ drop (4 * (k + 1)) old
four_more old done k a b c d {l} {m} n e f =
    let front : take (4 * k) l ≡ done = ap (take (4 * k)) e ∙ take_at done (drop (4 * k) old) (4 * k) n in
    let back : drop (4 * k) l ≡ drop (4 * k) old = ap (drop (4 * k)) e ∙ drop_at done (drop (4 * k) old) (4 * k) n in
    let next : 4 * k + 4 ≡ 4 * (k + 1) = omega arith in
    let beyond : drop (4 * k + 4) l ≡ drop (4 * (k + 1)) old =
    sym (drop-drop 4 (4 * k) l) ∙ ap (drop 4) back ∙ drop-drop 4 (4 * k) old ∙ ap (λ (i : ℕ). drop i old) next
    in
    f
    ∙ ap₂ (λ (x y : List ℕ). x ++ (a ∷ b ∷ c ∷ d ∷ y)) front beyond
    ∙ sym (append_assoc done (a ∷ b ∷ c ∷ d ∷ []) (drop (4 * (k + 1)) old))

-- the end of a list is lent and comes back as ys
module _ (p r l : List ℕ) (at : ℕ) (n : length p ≡ at) (e : l ≡ p ++ r) where
  behind : drop at l ≡ r
  behind = ap (drop at) e ∙ drop_at p r at n

  count : length l - at ≡ length r
  count = omega (arith, length-drop at l, ap length behind, ap length e, length-append p r)

  pub lent_end : take (length l - at) (drop at l) ≡ r
  lent_end = ap₂ (λ (k : ℕ) (x : List ℕ). take k x) count behind ∙ take-length r

  pub end_back : (ys : List ℕ) → take at l ++ (ys ++ drop (length l - at) (drop at l)) ≡ p ++ ys
  end_back ys =
      ap₂ (λ (x y : List ℕ). x ++ (ys ++ y)) (ap (take at) e ∙ take_at p r at n) (ap₂ (λ (k : ℕ) (x : List ℕ). drop k x) count behind ∙ drop-length r)
      ∙ ap (λ (x : List ℕ). p ++ x) (append-nil ys)

-- a part of a list is lent and comes back as ys
pub part_back : (l : List ℕ) (at n : ℕ) (rest ys : List ℕ) → at ≤ length l → length ys ≡ n → take (at + n) (take at l ++ (ys ++ rest)) ≡ take at l ++ ys
part_back l at n rest ys h e =
    let long : length (take at l ++ ys) ≡ at + n = length-append (take at l) ys ∙ ap₂ ◌+◌ (length-take-le at l h) e in
    ap (take (at + n)) (sym (append_assoc (take at l) ys rest)) ∙ take_at (take at l ++ ys) rest (at + n) long
