-- The words for what is wrong with a sheet or with a text.
use Rattle.std.specs.Prelude.{◌≡◌, ℕ, ◌+◌, ◌/◌, ◌%◌, ◌<◌, List, [], ◌++◌, eqb, if◌then◌else◌}
use Prim.Native.String.{String}
use Rattle.rules.specs.Numbers.{table_most}
use Rattle.rules.specs.Refusals.{number_of}
use Rattle.rules.specs.Table.{word_least}
use Rattle.rules.specs.Text.{bytes, digits}
use Rattle.rules.specs.Sheet.{name_of}
use Rattle.rules.specs.declared.Refusal.{Refusal}
use Rattle.rules.specs.declared.Refusal.TheVariants.{NoWord, NotFours, TooManyWords, OutOfRange, BadEnd, TooShort, BadLine, NotMisses, NoHeader, BadRecord, NoRecord}
use Rattle.wording.specs.declared.Source.{Source}

-- words, a number, words
abbrev pub phrase : String → ℕ → String → List ℕ
phrase before n after = bytes before ++ (digits n ++ bytes after)

-- where word i of the table stands: in a sheet by its record, of which the header is the first, and its column; in a text by its line
abbrev pub place : Source → ℕ → List ℕ
place Source.Sheet i = phrase "record " (i / 4 + 2) ": " ++ name_of (i % 4)
place Source.Text i = bytes "line " ++ digits (i + 2)

-- record 66 is a 65th after the header
abbrev pub bad_record : ℕ → List ℕ
bad_record l =
    if eqb l 66 then phrase "record " l " is one too many: a tile has at most 64 kernels" else phrase "record " l " is not as due"

-- what is wrong; a refusal without words is never told
abbrev pub wrong_in : Source → Refusal → List ℕ
wrong_in source NoHeader = bytes "the header must name execution, deadline, period and release once each"
wrong_in source (BadRecord l) = bad_record l
wrong_in source NoRecord = bytes "no record comes after the header"
wrong_in source (OutOfRange i) = place source i ++ phrase " is out of its range, which is " (word_least i) " to 65535"
wrong_in source (BadLine l) = phrase "line " l " is missing or not as due"
wrong_in source NoWord = []
wrong_in source NotFours = []
wrong_in source TooManyWords = []
wrong_in source BadEnd = []
wrong_in source TooShort = []
wrong_in source NotMisses = []

-- with the refusal's number
abbrev pub numbered : Source → Refusal → List ℕ
numbered source r = wrong_in source r ++ phrase " (refusal " (number_of r) ")\n"

-- the line for a refusal
abbrev pub sentence : Source → Refusal → List ℕ
sentence source r = bytes "tilecheck: " ++ numbered source r

-- and for an input that is too long
abbrev pub too_long : List ℕ
too_long = bytes "tilecheck: the input has more than 32768 bytes\n"

-- a refusal 4 names a word of a table
abbrev pub InTable : Refusal → Type 0
InTable r = (i : ℕ) → r ≡ OutOfRange i → i < table_most
