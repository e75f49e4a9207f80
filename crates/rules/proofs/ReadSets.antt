-- The lines of tasks read one by one, and the set by its first line.
use mathlib.Core.Path.{◌≡◌, refl, sym, ap, ◌∙◌}
use Prim.Native.Nat.{ℕ, suc, ◌+◌, ◌-◌, ◌*◌, ◌%◌, ◌≤◌, ◌<◌}
use native.Mathlib.Numerals.{add-one}
use native.Mathlib.Omega.{arith}
use mathlib.Core.List.{List, [], ◌∷◌, ◌++◌, append-nil}
use lib.ListN.{length, take, set}
use lib.Seq.{take-suc-set}
use borrow.Author.Tests.{le-leb, lt-leb}
use Rattle.rules.specs.Numbers.{task_most}
use Rattle.rules.specs.Text.{Read, got, bad, Lines, took, stop, ahead, or_stop, key_of, tasks_key, read_line, read_lines, read_set}

-- words before those of the lines still to read
pub aheads : List ℕ → Lines → Lines
aheads [] r = r
aheads (w ∷ ws) r = ahead w (aheads ws r)

pub aheads_none : (r : Lines) → aheads [] r ≡ r
unfolding aheads
aheads_none r = refl

aheads_more : (ws : List ℕ) (v : ℕ) (r : Lines) → aheads ws (ahead v r) ≡ aheads (ws ++ (v ∷ [])) r
unfolding aheads
aheads_more [] v r = refl
aheads_more (w ∷ ws) v r = ap (ahead w) (aheads_more ws v r)

aheads_took : (ws us s : List ℕ) → aheads ws (took us s) ≡ took (ws ++ us) s
unfolding aheads ahead
aheads_took [] us s = refl
aheads_took (w ∷ ws) us s = ap (ahead w) (aheads_took ws us s)

aheads_stop : (ws : List ℕ) (l : ℕ) → aheads ws (stop l) ≡ stop l
unfolding aheads ahead
aheads_stop [] l = refl
aheads_stop (w ∷ ws) l = ap (ahead w) (aheads_stop ws l)

-- k of m lines are read, their words stand at the start of ws, and t is left
module _ (m k : ℕ) (ws t : List ℕ) where
  -- none is left
  pub lines_done : k ≡ m → aheads (take k ws) (read_lines (m - k) k t) ≡ took (take m ws) t
  unfolding read_lines
  lines_done e =
      let z : m - k ≡ 0 = omega arith in
      rw z (aheads_took (take k ws) [] t ∙ ap (λ (l : List ℕ). took l t) (append-nil (take k ws) ∙ ap (λ (n : ℕ). take n ws) e))

  module _ (h : k < m) where
    next_line : read_lines (m - k) k t ≡ or_stop (2 + k) (read_line (key_of (k % 4)) t) (λ v rest. ahead v (read_lines (m - (k + 1)) (k + 1) rest))
    unfolding read_lines
    next_line = let e : m - k ≡ suc (m - (k + 1)) = omega arith in rw (e, add-one k)

    after_line : (r : Read) → read_line (key_of (k % 4)) t ≡ r → read_lines (m - k) k t ≡ or_stop (2 + k) r (λ v rest. ahead v (read_lines (m - (k + 1)) (k + 1) rest))
    after_line r e = next_line ∙ ap (λ (x : Read). or_stop (2 + k) x (λ v rest. ahead v (read_lines (m - (k + 1)) (k + 1) rest))) e

    -- the next line is not as due
    pub lines_wrong : read_line (key_of (k % 4)) t ≡ bad → aheads (take k ws) (read_lines (m - k) k t) ≡ stop (2 + k)
    unfolding or_stop
    lines_wrong e = ap (aheads (take k ws)) (after_line bad e) ∙ aheads_stop (take k ws) (2 + k)

    -- the next line is, and its word is stored
    pub lines_more : (v : ℕ) (u : List ℕ) → k < length ws → read_line (key_of (k % 4)) t ≡ got v u
        → aheads (take (k + 1) (set ws k v)) (read_lines (m - (k + 1)) (k + 1) u) ≡ aheads (take k ws) (read_lines (m - k) k t)
    unfolding or_stop
    lines_more v u b e =
        let f : take (k + 1) (set ws k v) ≡ take k ws ++ (v ∷ []) = rw add-one (take-suc-set ws k v b) in
        ap (λ (l : List ℕ). aheads l (read_lines (m - (k + 1)) (k + 1) u)) f
        ∙ sym (aheads_more (take k ws) v (read_lines (m - (k + 1)) (k + 1) u))
        ∙ ap (aheads (take k ws)) (sym (after_line (got v u) e))

-- the set, by its first line
pub no_first : (s : List ℕ) → read_line tasks_key s ≡ bad → read_set s ≡ stop 1
unfolding read_set or_stop
no_first s e = rw e

module _ (s : List ℕ) (n : ℕ) (a : List ℕ) (e : read_line tasks_key s ≡ got n a) where
  pub no_task : n < 1 → read_set s ≡ stop 1
  unfolding read_set or_stop
  no_task h = rw (e, lt-leb 1 n h)

  pub too_many : 1 ≤ n → task_most < n → read_set s ≡ stop 1
  unfolding read_set or_stop
  too_many l h = rw (e, le-leb 1 n l, lt-leb n task_most h)

  pub some_tasks : 1 ≤ n → n ≤ task_most → read_set s ≡ read_lines (4 * n) 0 a
  unfolding read_set or_stop
  some_tasks l h = rw (e, le-leb 1 n l, le-leb n task_most h)
