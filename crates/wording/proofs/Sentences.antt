-- The sentences: there is room for each.
use Prim.Native.Nat.{ℕ, zero, suc, ◌+◌, ◌/◌, ◌%◌, ◌≤◌}
use Prim.Native.String.{String}
use native.Mathlib.Omega.{arith}
use mathlib.Core.List.{List, ◌++◌}
use lib.Dec.{eqb}
use lib.ListN.{length, length-append}
use Rattle.rules.specs.Refusals.{number_of}
use Rattle.rules.specs.Table.{word_least}
use Rattle.rules.specs.Text.{bytes, digits}
use Rattle.rules.specs.Sheet.{name_of}
use Rattle.rules.specs.declared.Refusal.{Refusal}
use Rattle.rules.specs.declared.Refusal.TheVariants.{NoWord, NotFours, TooManyWords, OutOfRange, BadEnd, TooShort, BadLine, NotMisses, NoHeader, BadRecord, NoRecord}
use Rattle.rules.proofs.Booleans.{chosen}
use Rattle.rules.proofs.Digits.{digits_most}
use Rattle.wording.specs.Wording.{phrase, place, bad_record, wrong_in, sentence}
use Rattle.wording.specs.declared.Source.{Source}

-- a number has at most ten digits
phrase_most : (before : String) (n : ℕ) (after : String) → length (phrase before n after) ≤ length (bytes before) + 10 + length (bytes after)
phrase_most before n after = omega (arith, length-append (bytes before) (digits n ++ bytes after), length-append (digits n) (bytes after), digits_most n)

name_most : (k : ℕ) → length (name_of k) ≤ 9
name_most zero = omega arith
name_most (suc zero) = omega arith
name_most (suc (suc zero)) = omega arith
name_most (suc (suc (suc k))) = omega arith

place_most : (source : Source) (i : ℕ) → length (place source i) ≤ 28
place_most Source.Sheet i =
    let record_number = phrase "record " (i / 4 + 2) ": " in
    omega (arith, length-append record_number (name_of (i % 4)), phrase_most "record " (i / 4 + 2) ": ", name_most (i % 4))
place_most Source.Text i = omega (arith, length-append (bytes "line ") (digits (i + 2)), digits_most (i + 2))

record_most : (l : ℕ) → length (bad_record l) ≤ 64
record_most l =
    chosen (λ (words : List ℕ). length words ≤ 64) (eqb l 66)
    (phrase_most "record " l " is one too many: a tile has at most 64 kernels") (omega (arith, phrase_most "record " l " is not as due"))

wrong_most : (source : Source) (r : Refusal) → length (wrong_in source r) ≤ 100
wrong_most source NoHeader = omega arith
wrong_most source (BadRecord l) = omega (arith, record_most l)
wrong_most source NoRecord = omega arith
wrong_most source (OutOfRange i) =
    let range = phrase " is out of its range, which is " (word_least i) " to 65535" in
    omega (arith, length-append (place source i) range, place_most source i, phrase_most " is out of its range, which is " (word_least i) " to 65535")
wrong_most source (BadLine l) = omega (arith, phrase_most "line " l " is missing or not as due")
wrong_most source NoWord = omega arith
wrong_most source NotFours = omega arith
wrong_most source TooManyWords = omega arith
wrong_most source BadEnd = omega arith
wrong_most source TooShort = omega arith
wrong_most source NotMisses = omega arith

-- a sentence has at most 133 bytes
pub sentence_most : (source : Source) (r : Refusal) → length (sentence source r) ≤ 133
sentence_most source r =
    let number = phrase " (refusal " (number_of r) ")\n" in
    omega (arith, length-append (wrong_in source r) number, wrong_most source r, phrase_most " (refusal " (number_of r) ")\n")
