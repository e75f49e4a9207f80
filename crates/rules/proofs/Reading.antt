-- What the reader's outcome tells: it is one, by 6, by 7 or a set; what a set that was read is.
use mathlib.Core.Path.{◌≡◌, refl, sym, ap, ap₂, ◌∙◌}
use Prim.Native.Nat.{ℕ, ◌*◌, ◌/◌, ◌≤◌, ◌<◌}
use native.Mathlib.Decide.{dec_lt}
use native.Mathlib.Omega.{arith}
use mathlib.Core.List.{List}
use lib.ListN.{length, take, drop, length-append}
use lib.Seq.{take_at}
use Rattle.rules.specs.Text.{Lines, took, stop, read_set, write_set}
use Rattle.rules.specs.Calls.{Reads}
use Rattle.rules.specs.declared.Refusal.TheVariants.{TooShort, BadLine}
use Rattle.rules.proofs.Calls.{read_stops, read_short, read_set_law}
use Rattle.rules.proofs.SetTrips.{set_back}
use Rattle.rules.proofs.WriteSteps.{set_length}
use Rattle.std.specs.Prelude.{Result, Ok, Err}
use Rattle.rules.specs.declared.Refusal.{Refusal}

-- two outcomes of one reading are equal
pub reads_one : (text table : List ℕ) (a b : Result ℕ Refusal) (r q e f : List ℕ) → Reads text table a r e → Reads text table b q f → (a ≡ b) × ((r ≡ q) × (e ≡ f))
reads_one text table a b r q e f x y = (x.says ∙ sym y.says, (x.hands_back ∙ sym y.hands_back, x.leaves ∙ sym y.leaves))

-- the three ways in which a reading ends
pub data Ending (text table : List ℕ) : Type 0 where
  -- 7: line l is missing or not as due
  at_line : (l : ℕ) → read_set text ≡ stop l → Ending text table
  -- 6: the table is shorter than the set
  no_room : (ws rest : List ℕ) → read_set text ≡ took ws rest → length table < length ws → Ending text table
  -- the set
  whole : (ws rest : List ℕ) → read_set text ≡ took ws rest → length ws ≤ length table → Ending text table

pub ending : (text table : List ℕ) → Ending text table
ending text table = by_set (read_set text) refl
  where
    by_room : (ws rest : List ℕ) → read_set text ≡ took ws rest → Dec (length table < length ws) → Ending text table
    by_room ws rest e (yes h) = no_room ws rest e h
    by_room ws rest e (no h) = whole ws rest e (omega arith)

    by_set : (k : Lines) → read_set text ≡ k → Ending text table
    by_set (stop l) e = at_line l e
    by_set (took ws rest) e = by_room ws rest e (dec_lt (length table) (length ws))

-- a set of n tasks was read: its words stand at the start of the table
pub record Took (text table : List ℕ) (n : ℕ) (rest exit : List ℕ) : Type 0 where
  pub set : read_set text ≡ took (take (4 * n) exit) rest

pub took_set : (text table : List ℕ) {answer : Result ℕ Refusal} {rest exit : List ℕ} (n : ℕ) → Reads text table answer rest exit → answer ≡ Ok n → Took text table n rest exit
took_set text table {answer} {rest} {exit} n r e = by_ending (ending text table)
  where
    by_ending : Ending text table → Took text table n rest exit
    by_ending (at_line l k) =
        let f : ◌≡◌ {A = Result ℕ Refusal} (Ok n) (Err (BadLine l)) = sym e ∙ r.says ∙ sym (read_stops text table l k).says in
        let z : ◌≡◌ {A = ℕ} 0 1 = cc in
        absurd (omega arith)
    by_ending (no_room ws q k h) =
        let f : ◌≡◌ {A = Result ℕ Refusal} (Ok n) (Err TooShort) = sym e ∙ r.says ∙ sym (read_short text table ws q k h).says in
        let z : ◌≡◌ {A = ℕ} 0 1 = cc in
        absurd (omega arith)
    by_ending (whole ws q k h) =
        let o = reads_one text table _ _ _ _ _ _ r (read_set_law text table ws q k h) in
        let a : ◌≡◌ {A = Result ℕ Refusal} (Ok n) (Ok (length ws / 4)) = sym e ∙ o.0 in
        let d : n ≡ length ws / 4 = cc in
        let i : length ws ≡ 4 * n = omega (arith, (set_back text ws q k).words) in
        let t : take (4 * n) exit ≡ ws = ap (take (4 * n)) o.1.1 ∙ take_at ws (drop (length ws) table) (4 * n) i in
        record { set = k ∙ ap₂ took (sym t) (sym o.1.0) }

-- a set takes at least one byte: what a loop over several sets ends by
pub shorter : (text ws rest : List ℕ) → read_set text ≡ took ws rest → length rest < length text
shorter text ws rest e =
    let w = set_back text ws rest e in
    let x = ap length w.text in
    omega (arith, length-append (write_set ws) rest, set_length ws)
