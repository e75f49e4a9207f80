-- A line that is written is read back, and a line that is read was written so.
use Rattle.std.specs.Prelude.{if◌then◌else◌, Option, Some, None}
use mathlib.Core.Path.{◌≡◌, refl, sym, ap, ap₂, ◌∙◌}
use Prim.Native.Nat.{ℕ, zero, suc, ◌+◌, ◌-◌, ◌*◌, ◌/◌, ◌%◌, ◌^◌, ◌≤◌, ◌<◌}
use native.Mathlib.Decide.{dec_lt}
use native.Mathlib.Nat.{pow-le-pow_right}
use native.Mathlib.Omega.{arith}
use mathlib.Core.List.{List, [], ◌∷◌, ◌++◌, append_assoc}
use mathlib.Core.Bool.{Bool, true, false}
use lib.Dec.{eqb}
use borrow.Author.Tests.{eq-eqb, eqb-true, eqb-false}
use Rattle.rules.specs.Text.{Read, got, bad, after_key, digit, more_digits, read_number, line_end, number_line, read_line, digits, line}
use Rattle.rules.proofs.Digits.{digits_one, digits_more}
use Rattle.rules.proofs.ReadSteps.{below_digits, a_digit, digit_range, more_other, more_step, number_zero, number_more, end_right}

-- what was read before: the digits of a number below 100,000
pub record Was (s : List ℕ) (w : ℕ) (rest : List ℕ) : Type 0 where
  pub text : s ≡ digits w ++ rest
  pub small : w < 100000

stop_back : (k v : ℕ) (s : List ℕ) (w : ℕ) (rest : List ℕ) → k ≤ 5 → v < 10 ^ k → got v s ≡ got w rest → Was (digits v ++ s) w rest
stop_back k v s w rest h l e =
    let p : v ≡ w = cc in
    let q : s ≡ rest = cc in
    let m = pow-le-pow_right {n = 10} (omega arith) {i = k} {j = 5} h in
    record { text = ap₂ (λ (x : ℕ) (t : List ℕ). digits x ++ t) p q; small = omega arith }

-- one more digit
one_more : (v b : ℕ) → 1 ≤ v → v < 100000 → digit b ≡ true → digits (v * 10 + (b - 48)) ≡ digits v ++ (b ∷ [])
one_more v b p h e =
    let r = digit_range b e in
    let x = v * 10 + (b - 48) in
    let q : x / 10 ≡ v = omega arith in
    let m : 48 + x % 10 ≡ b = omega arith in
    digits_more x (omega arith) (omega arith) ∙ ap₂ (λ (y z : ℕ). digits y ++ (z ∷ [])) q m

more_back : (n k v : ℕ) (s : List ℕ) (w : ℕ) (rest : List ℕ) → k + n ≡ 5 → 1 ≤ v → v < 10 ^ k → more_digits n v s ≡ got w rest → Was (digits v ++ s) w rest
unfolding more_digits
more_back zero k v s w rest h p l e = stop_back k v s w rest (omega arith) l e
more_back (suc n) k v [] w rest h p l e = stop_back k v [] w rest (omega arith) l e
more_back (suc n) k v (b ∷ s) w rest h p l e = by_digit (digit b) refl e (more_back n (suc k) (v * 10 + (b - 48)) s w rest (omega arith))
  where
    by_digit : (t : Bool) → digit b ≡ t → (if t then more_digits n (v * 10 + (b - 48)) s else got v (b ∷ s)) ≡ got w rest
        → (1 ≤ v * 10 + (b - 48) → v * 10 + (b - 48) < 10 ^ suc k → more_digits n (v * 10 + (b - 48)) s ≡ got w rest → Was (digits (v * 10 + (b - 48)) ++ s) w rest)
        → Was (digits v ++ (b ∷ s)) w rest
    by_digit false t e ih = stop_back k v (b ∷ s) w rest (omega arith) l e
    by_digit true t e ih =
        let r = digit_range b t in
        let m = pow-le-pow_right {n = 10} (omega arith) {i = k} {j = 5} (omega arith) in
        let f = ih (omega arith) (omega arith) e in
        record {
          text = sym (ap (λ (x : List ℕ). x ++ s) (one_more v b p (omega arith) t) ∙ append_assoc (digits v) (b ∷ []) s) ∙ f.text;
          small = f.small;
        }

pub number_back : (s : List ℕ) (w : ℕ) (rest : List ℕ) → read_number s ≡ got w rest → Was s w rest
unfolding read_number
number_back [] w rest e = let z : ◌≡◌ {A = ℕ} 0 1 = cc in absurd (omega arith)
number_back (b ∷ s) w rest e = by_digit (digit b) refl e
  where
    by_zero : digit b ≡ true → (t : Bool) → eqb b 48 ≡ t → (if t then got 0 s else more_digits 4 (b - 48) s) ≡ got w rest → Was (b ∷ s) w rest
    by_zero d true t e =
        let x : ◌≡◌ {A = ℕ} 0 w = cc in
        let y : s ≡ rest = cc in
        record { text = ap₂ (λ (x : ℕ) (l : List ℕ). x ∷ l) (eqb-true b 48 t) y ∙ ap (λ (l : List ℕ). l ++ rest) (sym (digits_one 0 (omega arith)) ∙ ap digits x); small = omega arith }
    by_zero d false t e =
        let r = digit_range b d in
        let n = eqb-false b 48 t in
        let f = more_back 4 1 (b - 48) s w rest refl (omega arith) (omega arith) e in
        let x : b ≡ 48 + (b - 48) = omega arith in
        let y : b - 48 < 10 = omega arith in
        record { text = ap (λ (x : ℕ). x ∷ s) x ∙ ap (λ (l : List ℕ). l ++ s) (sym (digits_one (b - 48) y)) ∙ f.text; small = f.small }

    by_digit : (t : Bool) → digit b ≡ t → (if t then (if eqb b 48 then got 0 s else more_digits 4 (b - 48) s) else bad) ≡ got w rest → Was (b ∷ s) w rest
    by_digit true t e = by_zero t (eqb b 48) refl e
    by_digit false t e = let z : ◌≡◌ {A = ℕ} 0 1 = cc in absurd (omega arith)

-- the digits of v are read, whatever follows, and n more may come
record ReadOn (f v : ℕ) (s : List ℕ) : Type 0 where
  n : ℕ
  enough : 5 ≤ n + f
  reads : read_number (digits v ++ s) ≡ more_digits n v s

read_on : (f v : ℕ) (s : List ℕ) → f ≤ 5 → 1 ≤ v → v < 10 ^ f → v < 100000 → ReadOn f v s
read_on zero v s g p h l = absurd (omega arith)
read_on (suc f) v s g p h l = choose (dec_lt v 10) (λ (q : 10 ≤ v). read_on f (v / 10) ((48 + v % 10) ∷ s) (omega arith) (omega arith) (omega arith) (omega arith))
  where
    choose : Dec (v < 10) → (10 ≤ v → ReadOn f (v / 10) ((48 + v % 10) ∷ s)) → ReadOn (suc f) v s
    choose (yes a) ih =
        let d : digit (48 + v) ≡ true = a_digit (48 + v) (omega arith) (omega arith) in
        let e : 48 + v - 48 ≡ v = omega arith in
        record {
          n = 4;
          enough = omega arith;
          reads = ap (λ (l : List ℕ). read_number (l ++ s)) (digits_one v a) ∙ number_more ((48 + v) ∷ s) (omega arith) d (omega arith) ∙ ap (λ (x : ℕ). more_digits 4 x s) e;
        }
    choose (no a) ih =
        let i = ih (omega arith) in
        let m = i.enough in
        let b = 48 + v % 10 in
        let d : digit b ≡ true = a_digit b (omega arith) (omega arith) in
        let e : v / 10 * 10 + (b - 48) ≡ v = omega arith in
        record {
          n = i.n - 1;
          enough = omega arith;
          reads =
              ap (λ (l : List ℕ). read_number (l ++ s)) (digits_more v (omega arith) (omega arith))
              ∙ ap read_number (append_assoc (digits (v / 10)) (b ∷ []) s)
              ∙ i.reads
              ∙ more_step (v / 10) (b ∷ s) (omega arith) i.n (omega arith) d
              ∙ ap (λ (x : ℕ). more_digits (i.n - 1) x s) e;
        }

-- a number is read back where it stops: of what follows no digit more is taken
pub number_stops : (v : ℕ) (rest : List ℕ) → v < 100000 → ((n : ℕ) → more_digits n v rest ≡ got v rest) → read_number (digits v ++ rest) ≡ got v rest
number_stops v rest h stops =
    elim (dec_lt v 1) [
      | no a ↦ (let r = read_on 5 v rest (omega arith) (omega arith) (omega arith) h in r.reads ∙ stops r.n)
      | yes a ↦
          (let z : v ≡ 0 = omega arith in
          ap (λ (k : ℕ). read_number (digits k ++ rest)) z
          ∙ ap (λ (l : List ℕ). read_number (l ++ rest)) (digits_one 0 (omega arith))
          ∙ number_zero (48 ∷ rest) (omega arith) refl
          ∙ ap (λ (k : ℕ). got k rest) (sym z))
    ]

-- so where byte 10 follows
pub number_there : (v : ℕ) (rest : List ℕ) → v < 100000 → read_number (digits v ++ (10 ∷ rest)) ≡ got v (10 ∷ rest)
number_there v rest h = number_stops v (10 ∷ rest) h (λ n. more_other v (10 ∷ rest) (omega arith) n (below_digits 10 (omega arith)))

pub key_there : (key s : List ℕ) → after_key key (key ++ s) ≡ Some s
unfolding after_key
key_there [] s = refl
key_there (k ∷ ks) s = rw (eq-eqb k k refl) (key_there ks s)

pub key_back : (key s a : List ℕ) → after_key key s ≡ Some a → s ≡ key ++ a
unfolding after_key
key_back [] s a e = cc
key_back (k ∷ ks) [] a e = let y : ◌≡◌ {A = ℕ} 0 1 = cc in absurd (omega arith)
key_back (k ∷ ks) (b ∷ s) a e = choose (eqb b k) refl e (key_back ks s a)
  where
    choose : (t : Bool) → eqb b k ≡ t → (if t then after_key ks s else None) ≡ Some a → (after_key ks s ≡ Some a → s ≡ ks ++ a) → b ∷ s ≡ k ∷ (ks ++ a)
    choose true t e ih = ap₂ (λ (x : ℕ) (l : List ℕ). x ∷ l) (eqb-true b k t) (ih e)
    choose false t e ih = let y : ◌≡◌ {A = ℕ} 0 1 = cc in absurd (omega arith)

end_back : (w : ℕ) (b : List ℕ) (v : ℕ) (rest : List ℕ) → line_end (got w b) ≡ got v rest → (w ≡ v) × (b ≡ 10 ∷ rest)
unfolding line_end
end_back w [] v rest e = let y : ◌≡◌ {A = ℕ} 0 1 = cc in absurd (omega arith)
end_back w (x ∷ s) v rest e = choose (eqb x 10) refl e
  where
    choose : (t : Bool) → eqb x 10 ≡ t → (if t then got w s else bad) ≡ got v rest → (w ≡ v) × (x ∷ s ≡ 10 ∷ rest)
    choose true t e = let f : s ≡ rest = cc in ((cc), ap₂ (λ (x : ℕ) (l : List ℕ). x ∷ l) (eqb-true x 10 t) f)
    choose false t e = let y : ◌≡◌ {A = ℕ} 0 1 = cc in absurd (omega arith)

-- a line that is written is read back
pub line_there : (key : List ℕ) (v : ℕ) (rest : List ℕ) → v < 100000 → read_line key (line key (digits v) ++ rest) ≡ got v rest
unfolding read_line number_line line
line_there key v rest h =
    let e : (key ++ (digits v ++ (10 ∷ []))) ++ rest ≡ key ++ (digits v ++ (10 ∷ rest)) = simp append_assoc in
    rw (e, key_there key (digits v ++ (10 ∷ rest)), number_there v rest h) (end_right v (10 ∷ rest) (omega arith) refl)

-- a line that is read was written so
pub record LineWas (key s : List ℕ) (v : ℕ) (rest : List ℕ) : Type 0 where
  pub text : s ≡ line key (digits v) ++ rest
  pub small : v < 100000

pub line_back : (key s : List ℕ) (v : ℕ) (rest : List ℕ) → read_line key s ≡ got v rest → LineWas key s v rest
unfolding read_line number_line line line_end
line_back key s v rest e = with_key (after_key key s) refl e
  where
    with_number : (a : List ℕ) → after_key key s ≡ Some a → (r : Read) → read_number a ≡ r → line_end r ≡ got v rest → LineWas key s v rest
    with_number a k bad q e = let y : ◌≡◌ {A = ℕ} 0 1 = cc in absurd (omega arith)
    with_number a k (got w b) q e =
        let f = end_back w b v rest e in
        let g = number_back a w b q in
        let i = f.0 in
        let n = g.small in
        record {
          text = key_back key s a k ∙ ap (λ (l : List ℕ). key ++ l) (g.text ∙ ap₂ (λ (x : ℕ) (l : List ℕ). digits x ++ l) i f.1) ∙ simp append_assoc;
          small = omega arith;
        }

    with_key : (o : Option (List ℕ)) → after_key key s ≡ o → number_line o ≡ got v rest → LineWas key s v rest
    with_key None k e = let y : ◌≡◌ {A = ℕ} 0 1 = cc in absurd (omega arith)
    with_key (Some a) k e = with_number a k (read_number a) refl e
