-- Demand 2: the text and the table give each other back, by the definitions and by the calls.
use mathlib.Core.Path.{◌≡◌, refl, sym, ap, ◌∙◌}
use Prim.Native.Nat.{ℕ, ◌*◌, ◌<◌}
use native.Mathlib.Omega.{arith}
use native.Mathlib.Decide.{dec_lt}
use mathlib.Core.List.{List, ◌++◌}
use lib.ListN.{length, take, drop}
use lib.Seq.{take_at}
use Rattle.rules.specs.Table.{table_refusal}
use Rattle.rules.specs.Text.{took, read_set, write_set}
use Rattle.rules.specs.Calls.{Makes}
use Rattle.rules.specs.declared.Refusal.{Refusal}
use Rattle.rules.specs.declared.Refusal.TheVariants.{TooShort}
use Rattle.rules.proofs.SetTrips.{write_then_read, set_back}
use Rattle.rules.proofs.Calls.{read_set_law, write_refused, write_short, write_made}
use Rattle.rules.proofs.Reading.{took_set}
use Rattle.promises.specs.Demands.{RoundTrips}
use Rattle.std.specs.Prelude.{Option, Some, None, Result, Ok, Err}

-- what was written is made of a table that is not refused
pub record Wrote (make : List ℕ → List ℕ) (table : List ℕ) (n : ℕ) (exit : List ℕ) : Type 0 where
  pub fine : table_refusal table ≡ None
  pub made : take n exit ≡ make table

pub wrote : (make : List ℕ → List ℕ) (table out exit : List ℕ) (n : ℕ) → Makes make table out (Ok n) exit → Wrote make table n exit
wrote make table out exit n w = go (table_refusal table) refl
  where
    by_room : table_refusal table ≡ None → Dec (length out < length (make table)) → Wrote make table n exit
    by_room e (yes h) =
        let f : ◌≡◌ {A = Result ℕ Refusal} (Ok n) (Err TooShort) = w.says ∙ sym (write_short {make = make} table out e h).says in
        let z : ◌≡◌ {A = ℕ} 0 1 = cc in
        absurd (omega arith)
    by_room e (no h) =
        let x = write_made {make = make} table out e (omega arith) in
        let f : ◌≡◌ {A = Result ℕ Refusal} (Ok n) (Ok (length (make table))) = w.says ∙ sym x.says in
        let m : length (make table) ≡ n = cc in
        record { fine = e; made = ap (take n) (w.leaves ∙ sym x.leaves) ∙ take_at (make table) (drop (length (make table)) out) n m }

    go : (o : Option Refusal) → table_refusal table ≡ o → Wrote make table n exit
    go None e = by_room e (dec_lt (length out) (length (make table)))
    go (Some r) e =
        let f : ◌≡◌ {A = Result ℕ Refusal} (Ok n) (Err r) = w.says ∙ sym (write_refused {make = make} table out r e).says in
        let z : ◌≡◌ {A = ℕ} 0 1 = cc in
        absurd (omega arith)

pub round_trips : RoundTrips
round_trips = record {
  write_then_read = write_then_read;
  read_then_write = λ text words after e t. sym (set_back text words after e).text;
  written_is_read = λ table out text n w after room h answer rest exit r.
      let x = wrote write_set table out text n w in
      let s : read_set (take n text ++ after) ≡ took table after = ap (λ (l : List ℕ). read_set (l ++ after)) x.made ∙ write_then_read table after x.fine in
      let o = read_set_law (take n text ++ after) room table after s h in
      (r.says ∙ sym o.says, r.hands_back ∙ sym o.hands_back, r.leaves ∙ sym o.leaves);
  read_is_written = λ text table rest words n r out exit k w.
      let t = (took_set text table n r refl).set in
      ap (λ (l : List ℕ). l ++ rest) (wrote write_set (take (4 * n) words) out exit k w).made ∙ sym (set_back text (take (4 * n) words) rest t).text;
}
