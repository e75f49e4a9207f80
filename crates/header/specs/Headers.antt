-- What the calls on a header promise, and that the one for other crates leaves one outcome.
use Rattle.std.specs.Prelude.{◌≡◌, ℕ, ◌≤◌, ◌<◌, List, [], ◌∷◌, true, Option, Some, None, MatchOption, map, length, get_or, if◌then◌else◌}
use Rattle.rules.specs.Sheet.{fields, read_record, name_of, is_name, times, column_from, good_header, columns_of, read_sheet, no_header}
use native.Mathlib.Omega.{arith}
use mathlib.Core.Path.{refl}
use lib.ListN.{get_or-replicate}
use Rattle.rules.proofs.HeaderSteps.{unnamed, times_none}
use Rattle.header.specs.declared.found.Header.{Header}

-- a column's name is noted at each of the four that it is; or it was noted before
pub record Notes (body : List ℕ) (column : ℕ) (old : List (Option ℕ)) (answer : Option (Unit {0})) (exit : List (Option ℕ)) : Type 0 where
  pub four : length exit ≡ length old
  pub notes : answer ≡ Some tt → (k : ℕ) → k < 4 → get_or exit k None ≡ (if is_name (name_of k) body then Some column else get_or old k None)
  pub new : answer ≡ Some tt → (k : ℕ) → k < 4 → is_name (name_of k) body ≡ true → get_or old k None ≡ None
  pub twice : answer ≡ None → (k : ℕ) × (k < 4) × (is_name (name_of k) body ≡ true) × (get_or old k None ≡ None → ⊥)

-- a name's column, if it has one, is this one, which is 0 where it has none
abbrev pub Column : Option ℕ → ℕ → Type 0
Column (Some n) k = (n ≡ k) × (0 < k)
Column None k = k ≡ 0

-- the columns of the names that have come are noted, and none came twice
pub record Noted (cs : List (List ℕ)) (columns : List (Option ℕ)) : Type 0 where
  pub four : length columns ≡ 4
  pub each : (k : ℕ) → k < 4 → Column (get_or columns k None) (column_from 1 (name_of k) cs)
  pub once : (k : ℕ) → k < 4 → times (name_of k) cs ≤ 1

-- where no column was noted at the start, those of these contents are now; or one of them came twice
abbrev pub IsNoted : List (Option ℕ) → List (List ℕ) → List (Option ℕ) → Type 0
IsNoted start cs now = start ≡ None ∷ None ∷ None ∷ None ∷ [] → Noted cs now

abbrev pub IsTwice : List (Option ℕ) → List (List ℕ) → Type 0
IsTwice start cs = start ≡ None ∷ None ∷ None ∷ None ∷ [] → (k : ℕ) × (k < 4) × (1 < times (name_of k) cs)

-- before the first field no name has come
pub none_noted : (columns : List (Option ℕ)) → IsNoted columns [] columns
none_noted columns e = rw e record {
  four = refl;
  each = λ k h. rw (get_or-replicate {A = Option ℕ} 4 k None None h) (unnamed (name_of k) 1 [] (times_none (name_of k)));
  once = λ k h. omega (arith, times_none (name_of k));
}

-- all four have a column, or one has none
abbrev pub AllOf : List (Option ℕ) → Option (List ℕ) → Type 0
AllOf noted answer = MatchOption answer ((k : ℕ) × (k < 4) × (get_or noted k None ≡ None)) (λ columns. noted ≡ map Some columns)

-- a good header, by the columns of the four names, its count of columns and the bytes after it
pub data Good (s : List ℕ) : List ℕ → ℕ → List ℕ → Type 0 where
  good : {hs : List (List ℕ)} {after : List ℕ} → read_record s ≡ fields hs after → good_header hs ≡ true → Good s (columns_of hs) (length hs) after

-- a header is good, or it is missing or bad
abbrev pub Heads : List ℕ → Option Header → Type 0
Heads s answer = MatchOption answer (read_sheet s ≡ no_header) (λ h. Good s h.columns h.count h.rest.now)

-- a header that was found, by what it holds
abbrev pub held : Option Header → Option (List ℕ × ℕ × List ℕ)
held (Some h) = Some (h.columns, h.count, h.rest.now)
held None = None

-- two outcomes of one header hold the same
abbrev pub HeadsOne : Type 0
HeadsOne = (s : List ℕ) (a b : Option Header) → Heads s a → Heads s b → held a ≡ held b
