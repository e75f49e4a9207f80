-- A set that is written is read back, and a set that is read was written so.
use Rattle.std.specs.Prelude.{if◌then◌else◌, None}
use mathlib.Core.Path.{◌≡◌, refl, sym, ap, ap₂, ◌∙◌, subst}
use Prim.Native.Nat.{ℕ, zero, suc, ◌+◌, ◌*◌, ◌/◌, ◌%◌, ◌≤◌, ◌<◌}
use native.Mathlib.Omega.{arith}
use mathlib.Core.List.{List, [], ◌∷◌, ◌++◌, append_assoc}
use mathlib.Core.Bool.{Bool, true, false, ◌&&◌}
use lib.Dec.{leb}
use lib.ListN.{length, get_or}
use borrow.Author.Tests.{leb-true, le-leb}
use Rattle.rules.specs.Table.{table_refusal}
use Rattle.rules.specs.Text.{Read, got, bad, Lines, took, stop, ahead, or_stop, key_of, tasks_key, read_line, read_lines, read_set, digits, line, write_lines, write_set}
use Rattle.rules.proofs.Tables.{valid_of}
use Rattle.rules.proofs.LineTrips.{line_there, line_back}
use Rattle.std.proofs.lemmas.Bool.{and_parts}

-- words that a line can hold
unfoldable pub Small : List ℕ → Type 0
Small [] = Unit
Small (w ∷ ws) = (w < 100000) × Small ws

pub small_of : (ws : List ℕ) → ((i : ℕ) → i < length ws → get_or ws i 0 ≤ 65535) → Small ws
unfolding Small
small_of [] h = tt
small_of (w ∷ ws) h = (let a = h 0 (omega arith) in omega arith, small_of ws (λ i l. h (suc i) (omega arith)))

lines_there : (k : ℕ) (ws rest : List ℕ) → Small ws → read_lines (length ws) k (write_lines k ws ++ rest) ≡ took ws rest
unfolding read_lines write_lines Small or_stop ahead
lines_there k [] rest h = refl
lines_there k (w ∷ ws) rest h =
    rw (append_assoc (line (key_of (k % 4)) (digits w)) (write_lines (suc k) ws) rest, line_there (key_of (k % 4)) w (write_lines (suc k) ws ++ rest) h.0, lines_there (suc k) ws rest h.1)

-- lines that were read: their text, and how many
record LinesWere (k n : ℕ) (s ws rest : List ℕ) : Type 0 where
  text : s ≡ write_lines k ws ++ rest
  many : length ws ≡ n

lines_back : (n k : ℕ) (s ws rest : List ℕ) → read_lines n k s ≡ took ws rest → LinesWere k n s ws rest
unfolding read_lines write_lines or_stop ahead
lines_back zero k s ws rest e =
    let f : ws ≡ [] = cc in
    let g : s ≡ rest = cc in
    record { text = rw f g; many = rw f }
lines_back (suc n) k s ws rest e = with_line (read_line (key_of (k % 4)) s) refl e (λ t us r. lines_back n (suc k) t us r)
  where
    with_lines : (v : ℕ) (t : List ℕ) → read_line (key_of (k % 4)) s ≡ got v t → (r : Lines) → read_lines n (suc k) t ≡ r → ahead v r ≡ took ws rest
        → ((t us q : List ℕ) → read_lines n (suc k) t ≡ took us q → LinesWere (suc k) n t us q) → LinesWere k (suc n) s ws rest
    with_lines v t l (stop i) r e ih = let y : ◌≡◌ {A = ℕ} 0 1 = cc in absurd (omega arith)
    with_lines v t l (took us q) r e ih =
        let w = ih t us q r in
        let f : v ∷ us ≡ ws = cc in
        let g : q ≡ rest = cc in
        let x : LinesWere k (suc n) s (v ∷ us) q =
        record {
          text = (line_back (key_of (k % 4)) s v t l).text ∙ ap (λ (m : List ℕ). line (key_of (k % 4)) (digits v) ++ m) w.text ∙ sym (append_assoc (line (key_of (k % 4)) (digits v)) (write_lines (suc k) us) q);
          many = ap suc w.many;
        }
        in
        subst (λ (z : List ℕ). LinesWere k (suc n) s z rest) f (subst (λ (z : List ℕ). LinesWere k (suc n) s (v ∷ us) z) g x)

    with_line : (r : Read) → read_line (key_of (k % 4)) s ≡ r → or_stop (2 + k) r (λ v t. ahead v (read_lines n (suc k) t)) ≡ took ws rest
        → ((t us q : List ℕ) → read_lines n (suc k) t ≡ took us q → LinesWere (suc k) n t us q) → LinesWere k (suc n) s ws rest
    with_line bad l e ih = let y : ◌≡◌ {A = ℕ} 0 1 = cc in absurd (omega arith)
    with_line (got v t) l e ih = with_lines v t l (read_lines n (suc k) t) refl e ih

-- what is written is read back
pub set_there : (n : ℕ) (ws rest : List ℕ) → length ws ≡ 4 * n → 1 ≤ n → n ≤ 64 → Small ws → read_set (write_set ws ++ rest) ≡ took ws rest
unfolding read_set write_set or_stop
set_there n ws rest c p q h =
    let d : length ws / 4 ≡ n = omega arith in
    rw (append_assoc (line tasks_key (digits (length ws / 4))) (write_lines 0 ws) rest, d, line_there tasks_key n (write_lines 0 ws ++ rest) (omega arith), le-leb 1 n p, le-leb n 64 q, ← c, lines_there 0 ws rest h)

-- so the text of a table that is not refused is read as that table
pub write_then_read : (table after : List ℕ) → table_refusal table ≡ None → read_set (write_set table ++ after) ≡ took table after
write_then_read table after e =
    let v = valid_of table e in
    set_there (length table / 4) table after v.words v.some_task v.most_tasks (small_of table (λ i l. v.high i (omega arith)))

-- what is read was written so
pub record SetWas (s ws rest : List ℕ) : Type 0 where
  pub text : s ≡ write_set ws ++ rest
  pub tasks : ℕ
  pub words : length ws ≡ 4 * tasks
  pub some_task : 1 ≤ tasks
  pub most_tasks : tasks ≤ 64

pub set_back : (s ws rest : List ℕ) → read_set s ≡ took ws rest → SetWas s ws rest
unfolding read_set write_set or_stop
set_back s ws rest e = with_first (read_line tasks_key s) refl e
  where
    with_count : (n : ℕ) (a : List ℕ) → read_line tasks_key s ≡ got n a → (t : Bool) → leb 1 n && leb n 64 ≡ t
        → (if t then read_lines (4 * n) 0 a else stop 1) ≡ took ws rest → SetWas s ws rest
    with_count n a l false t e = let y : ◌≡◌ {A = ℕ} 0 1 = cc in absurd (omega arith)
    with_count n a l true t e =
        let w = lines_back (4 * n) 0 a ws rest e in
        let m = w.many in
        let d : n ≡ length ws / 4 = omega arith in
        let x = and_parts (leb 1 n) (leb n 64) t in
        record {
          text = (line_back tasks_key s n a l).text ∙ ap₂ (λ (i : ℕ) (r : List ℕ). line tasks_key (digits i) ++ r) d w.text ∙ sym (append_assoc (line tasks_key (digits (length ws / 4))) (write_lines 0 ws) rest);
          tasks = n;
          words = m;
          some_task = leb-true 1 n x.0;
          most_tasks = leb-true n 64 x.1;
        }

    with_first : (r : Read) → read_line tasks_key s ≡ r → or_stop 1 r (λ n a. if leb 1 n && leb n 64 then read_lines (4 * n) 0 a else stop 1) ≡ took ws rest → SetWas s ws rest
    with_first bad l e = let y : ◌≡◌ {A = ℕ} 0 1 = cc in absurd (omega arith)
    with_first (got n a) l e = with_count n a l (leb 1 n && leb n 64) refl e
