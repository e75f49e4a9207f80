-- What becomes of an input: of a sheet the text of its set, of a text the sheet of its first set; or the words for what is wrong.
use Rattle.std.specs.Prelude.{◌≡◌, ℕ, ◌/◌, List, [], ◌∷◌, ◌++◌, ltb, length, drop, if◌then◌else◌, Option, Some, Result, Ok, Err}
use Rattle.rules.specs.Numbers.{input_most}
use Rattle.rules.specs.Refusals.{first_of, answering, lent}
use Rattle.rules.specs.Table.{table_refusal}
use Rattle.rules.specs.Text.{took, read_set, words_read, write_set}
use Rattle.rules.specs.Sheet.{read_sheet, sheet_words, write_sheet}
use Rattle.rules.specs.Answers.{line_refusal, record_refusal}
use Rattle.rules.specs.declared.Refusal.{Refusal}
use Rattle.wording.specs.declared.Source.{Source}
use Rattle.wording.specs.Wording.{wrong_in, sentence, too_long}

-- WHAT BECOMES OF AN INPUT
-- the refusal of its reading: 13, 14, 15 for a sheet, 7 for a text
abbrev pub reading_refusal : Source → List ℕ → Option Refusal
reading_refusal Source.Sheet input = record_refusal (read_sheet input)
reading_refusal Source.Text input = line_refusal (read_set input)

-- the words of its table
abbrev pub words_in : Source → List ℕ → List ℕ
words_in Source.Sheet input = sheet_words (read_sheet input)
words_in Source.Text input = words_read (read_set input)

-- what is written of that table: the text of a sheet's, the sheet of a text's
abbrev pub written : Source → List ℕ → List ℕ
written Source.Sheet words = write_set words
written Source.Text words = write_sheet words

-- the refusal of the reading, then that of the table
abbrev pub refusal_of : Source → List ℕ → Option Refusal
refusal_of source input = first_of (reading_refusal source input ∷ table_refusal (words_in source input) ∷ [])

-- a text or sheet that is made, or words that are told
pub data Outcome : Type 0 where
  made : List ℕ → Outcome
  told : List ℕ → Outcome

-- of an input of at most 32,768 bytes: what is written of its table, or its refusal
unfoldable pub exchanged : Source → List ℕ → Outcome
exchanged source input =
    if ltb input_most (length input) then told too_long
    else answering (refusal_of source input) (λ r. told (sentence source r)) (made (written source (words_in source input)))

-- THE CALLS
-- the most bytes: those of a text of 64 tasks, 9 for its first line and 8 for each of 256 words
abbrev pub made_most : ℕ
made_most = 2057

-- the reading of an input into a table with room for 64 tasks
pub record ReadsTable (source : Source) (input table : List ℕ) (answer : Result ℕ Refusal) (exit : List ℕ) : Type 0 where
  pub says : answer ≡ answering (reading_refusal source input) Err (Ok (length (words_in source input) / 4))
  pub leaves : exit ≡ lent (reading_refusal source input) (words_in source input) table

-- the writing of what is made of an input's table
pub record MakesOther (source : Source) (input out : List ℕ) (answer : Result ℕ Refusal) (exit : List ℕ) : Type 0 where
  pub says : answer ≡ answering (refusal_of source input) Err (Ok (length (written source (words_in source input))))
  pub leaves : exit ≡ lent (refusal_of source input) (written source (words_in source input)) out

-- an outcome's bytes, and the answer with their length
abbrev pub bytes_of : Outcome → List ℕ
bytes_of (made vs) = vs
bytes_of (told vs) = vs

abbrev pub answer_of : Outcome → Result ℕ ℕ
answer_of (made vs) = Ok (length vs)
answer_of (told vs) = Err (length vs)

-- they stand at the start of the lent bytes, which stay the same beyond
pub record Gives (outcome : Outcome) (out : List ℕ) (answer : Result ℕ ℕ) (exit : List ℕ) : Type 0 where
  pub says : answer ≡ answer_of outcome
  pub leaves : exit ≡ bytes_of outcome ++ drop (length (bytes_of outcome)) out

-- two outcomes of one call are equal
abbrev pub GivesOne : Type 0
GivesOne = (outcome : Outcome) (out : List ℕ) (a b : Result ℕ ℕ) (e f : List ℕ) → Gives outcome out a e → Gives outcome out b f → (a ≡ b) × (e ≡ f)

-- every refusal that is told has words for what is wrong
abbrev pub AllWorded : Type 0
AllWorded = (source : Source) (input : List ℕ) (r : Refusal) → refusal_of source input ≡ Some r → wrong_in source r ≡ [] → ⊥

-- THE PIPE: what is made of a sheet is a text that is read, whole, as the sheet's words
abbrev pub Piped : Type 0
Piped = (sheet text : List ℕ) → exchanged Source.Sheet sheet ≡ made text → read_set text ≡ took (sheet_words (read_sheet sheet)) []

-- and what is made of a text's first set is a sheet of which that set's bytes are made again
abbrev pub ThereAndBack : Type 0
ThereAndBack = (text sheet words rest : List ℕ) → read_set text ≡ took words rest → exchanged Source.Text text ≡ made sheet
    → (set : List ℕ) × (exchanged Source.Sheet sheet ≡ made set) × (set ++ rest ≡ text)
