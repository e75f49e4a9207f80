-- When an outcome is exactly what a table of the paper has; and refusals 1 to 4 of a table of words.
use mathlib.Core.Path.{◌≡◌, refl, subst}
use mathlib.Core.Logic.{◌↔◌}
use Prim.Native.Nat.{ℕ}
use mathlib.Core.List.{List}
use Rattle.rules.specs.Table.{table_refusal, Fine}
use Rattle.rules.specs.Told.{Told, refusal_told}
use Rattle.rules.specs.declared.Refusal.{Refusal}
use Rattle.rules.specs.declared.Refusal.TheVariants.{NoWord, NotFours, TooManyWords, OutOfRange}
use Rattle.rules.proofs.Refused.{TableSays, no_word, not_fours, too_many, out_of_range_law, table_says, refused_not}
use Rattle.promises.specs.Tables.{TableTells, one, two, three, four}
use Rattle.std.specs.Prelude.{Some, None}

-- what holds of two things holds of their equals
pub along : {X : Type 0} (P : Told → X → Type 0) {s t : Told} {x y : X} → s ≡ t → x ≡ y → P s x → P t y
along P {t = t} {x = x} p q h = subst (P t) q (subst (λ (u : Told). P u x) p h)

-- a call's outcome that stands in its table, where every line of the table is that outcome, is exactly the table
pub exact : {X : Type 0} (P : Told → X → Type 0) {told : Told} {exit : X} → P told exit → ((t : Told) (e : X) → P t e → (told ≡ t) × (exit ≡ e))
    → (t : Told) (e : X) → ((told ≡ t) × (exit ≡ e)) ↔ P t e
exact P h back t e = (λ p. along P p.0 p.1 h, back t e)

-- a table's refusal as the paper has it
pub table_tells : (w : List ℕ) (r : Refusal) → table_refusal w ≡ Some r → TableTells w (refusal_told r)
table_tells w r e = go r ((table_says w (Some r)).0 e)
  where
    go : (r : Refusal) → TableSays w (Some r) → TableTells w (refusal_told r)
    go r (no_word a) = one a
    go r (not_fours a b) = two a b
    go r (too_many a b c) = three a b c
    go r (out_of_range_law a b c x) = four a b c x

-- and whatever the paper has is a refusal
pub told_table : (w : List ℕ) (t : Told) → TableTells w t → (r : Refusal) × (table_refusal w ≡ Some r) × (refusal_told r ≡ t)
told_table w t (one a) = (NoWord, (table_says w (Some NoWord)).1 (no_word a), refl)
told_table w t (two a b) = (NotFours, (table_says w (Some NotFours)).1 (not_fours a b), refl)
told_table w t (three a b c) = (TooManyWords, (table_says w (Some TooManyWords)).1 (too_many a b c), refl)
told_table w t (four {i = i} a b c x) = (OutOfRange i, (table_says w (Some (OutOfRange i))).1 (out_of_range_law a b c x), refl)

-- a table that is fine is not refused
pub fine_not : (w : List ℕ) → Fine w → table_refusal w ≡ None
fine_not w = (refused_not w).1

pub not_fine : (w : List ℕ) → table_refusal w ≡ None → Fine w
not_fine w = (refused_not w).0
