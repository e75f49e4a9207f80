-- What becomes of an input, by what the calls answered: the refusal of its reading is told, or that of its table; else what is written stands in out.
use mathlib.Core.Path.{◌≡◌, sym, ap, subst, ◌∙◌}
use Prim.Native.Nat.{ℕ, ◌*◌, ◌/◌, ◌≤◌, ◌<◌}
use native.Mathlib.Omega.{arith}
use mathlib.Core.List.{List, [], ◌∷◌}
use lib.ListN.{length, take, drop}
use lib.Seq.{take_at}
use borrow.Author.Tests.{lt-ltb, le-ltb}
use Rattle.rules.specs.Numbers.{table_most, input_most}
use Rattle.rules.specs.Refusals.{first_of, lent}
use Rattle.rules.specs.Table.{table_refusal}
use Rattle.rules.specs.Calls.{Reads, ReadsSheet, Makes}
use Rattle.rules.specs.declared.Refusal.{Refusal}
use Rattle.rules.proofs.Calls.{alone}
use Rattle.rules.proofs.Booleans.{impossible}
use Rattle.rules.proofs.TextLengths.{text_most, sheet_most}
use Rattle.rules.proofs.Rooms.{Fours, read_with_room, sheet_with_room, write_with_room, was_refused, was_done}
use Rattle.exchange.specs.Exchange.{reading_refusal, words_in, written, Outcome, made, told, exchanged, made_most, refusal_of, ReadsTable, MakesOther, Gives}
use Rattle.wording.specs.declared.Source.{Source}
use Rattle.wording.specs.Wording.{sentence, too_long, InTable}
use Rattle.exchange.proofs.Tellable.{words_fours, tellable}
use Rattle.std.specs.Prelude.{Option, Some, None, Result, Ok, Err}

-- the readers, into a table with room for 64 tasks
module _ (input table : List ℕ) (room : table_most ≤ length table) {exit : List ℕ} where
  pub read_sheet : {answer : Result ℕ Refusal} → ReadsSheet input table answer exit → ReadsTable Source.Sheet input table answer exit
  read_sheet r =
      let due = sheet_with_room input table room in
      record { says = r.says ∙ sym due.says; leaves = r.leaves ∙ sym due.leaves }

  pub read_text : {answer : Result ℕ Refusal} {rest : List ℕ} → Reads input table answer rest exit → ReadsTable Source.Text input table answer exit
  read_text r =
      let due = read_with_room input table room in
      record { says = r.says ∙ sym due.says; leaves = r.leaves ∙ sym due.leaves }

-- there is room for what is written
room_for : (source : Source) (table : List ℕ) → table_refusal table ≡ None → length (written source table) ≤ made_most
room_for Source.Sheet table e = text_most table e
room_for Source.Text table e = omega (arith, sheet_most table e)

module _ (source : Source) (input : List ℕ) where
  -- THE READING
  module _ {table : List ℕ} {answer : Result ℕ Refusal} {words : List ℕ} (reads : ReadsTable source input table answer words) where
    -- is not refused: its words stand at the start of the table
    module _ (n : ℕ) (e : answer ≡ Ok n) where
      done : (reading_refusal source input ≡ None) × (n ≡ length (words_in source input) / 4)
      done =
          let d = was_done Err (Ok (length (words_in source input) / 4)) (Ok n) (λ r f. impossible cc) (reading_refusal source input) (sym e ∙ reads.says) in
          let f = d.1 in
          (d.0, cc)

      fours : Fours (words_in source input)
      fours = words_fours source input done.0

      count_is : 4 * n ≡ length (words_in source input)
      count_is = omega (arith, fours.fours, done.1)

      stand : words ≡ lent None (words_in source input) table
      stand = reads.leaves ∙ ap (λ (o : Option Refusal). lent o (words_in source input) table) done.0

      words_are : take (4 * n) words ≡ words_in source input
      words_are = ap (take (4 * n)) stand ∙ take_at (words_in source input) (drop (length (words_in source input)) table) (4 * n) (sym count_is)

      -- THE WRITING, for which there is room
      pub when_read : {out : List ℕ} {w : Result ℕ Refusal} {exit : List ℕ} → made_most ≤ length out → Makes (written source) (take (4 * n) words) out w exit
          → MakesOther source input out w exit
      when_read {out} {w} {exit} room makes =
          let due = write_with_room {make = written source} (words_in source input) out (λ f. omega (arith, room_for source (words_in source input) f)) in
          let makes_of : Makes (written source) (words_in source input) out w exit = rw words_are at makes in
          let table_is : refusal_of source input ≡ table_refusal (words_in source input) =
          ap (λ (o : Option Refusal). first_of (o ∷ table_refusal (words_in source input) ∷ [])) done.0 ∙ alone (table_refusal (words_in source input))
          in
          record { says = rw table_is (makes_of.says ∙ sym due.says); leaves = rw table_is (makes_of.leaves ∙ sym due.leaves) }

  -- WHAT BECOMES OF THE INPUT
  abbrev Becomes : List ℕ → Result ℕ ℕ → List ℕ → Type 0
  Becomes out answer exit = Gives (exchanged source input) out answer exit

  -- one that is too long
  pub when_long : {out exit : List ℕ} {answer : Result ℕ ℕ} → input_most < length input → Gives (told too_long) out answer exit → Becomes out answer exit
  unfolding exchanged
  when_long {out} {exit} {answer} h g = rw (lt-ltb _ _ h) g

  module _ (short : length input ≤ input_most) where
    is_told : (r : Refusal) → refusal_of source input ≡ Some r → told (sentence source r) ≡ exchanged source input
    unfolding exchanged
    is_told r e = rw (le-ltb _ _ short, e)

    pub is_made : refusal_of source input ≡ None → made (written source (words_in source input)) ≡ exchanged source input
    unfolding exchanged
    is_made e = rw (le-ltb _ _ short, e)

    module _ {out : List ℕ} {answer : Result ℕ Refusal} {exit : List ℕ} (makes : MakesOther source input out answer exit) where
      -- one that is refused
      module _ (r : Refusal) (e : answer ≡ Err r) where
        refused : refusal_of source input ≡ Some r
        refused = was_refused Err _ (λ s f. impossible cc) (λ s t f. cc) (refusal_of source input) r (sym e ∙ makes.says)

        pub names : InTable r
        names = (tellable source input r refused).named

        kept : exit ≡ out
        kept = makes.leaves ∙ ap (λ (o : Option Refusal). lent o (written source (words_in source input)) out) refused

        pub when_refused : {last : List ℕ} {a : Result ℕ ℕ} → Gives (told (sentence source r)) exit a last → Becomes out a last
        when_refused {last} {a} g =
            subst (λ (o : Outcome). Gives o out a last) (is_told r refused) (subst (λ (l : List ℕ). Gives (told (sentence source r)) l a last) kept g)

      -- one that is not
      pub when_made : (k : ℕ) → answer ≡ Ok k → Becomes out (Ok k) exit
      when_made k e =
          let d = was_done Err _ (Ok k) (λ r g. impossible cc) (refusal_of source input) (sym e ∙ makes.says) in
          let f = d.1 in
          let size : k ≡ length (written source (words_in source input)) = cc in
          subst (λ (o : Outcome). Gives o out (Ok k) exit) (is_made d.0)
          (record {
            says = ap Ok size;
            leaves = makes.leaves ∙ ap (λ (o : Option Refusal). lent o (written source (words_in source input)) out) d.0;
          })
