-- A sheet of comma-separated values, read and written. Document 02, 2/14: RFC 4180, by the decisions of docs/DECISIONS.md.
use Rattle.std.specs.Prelude.{ℕ, zero, suc, ◌+◌, ◌-◌, ◌%◌, List, [], ◌∷◌, ◌++◌, Bool, true, false, ◌&&◌, ◌||◌, eqb, length, get_or, if◌then◌else◌, Option, Some, None}
use Rattle.rules.specs.Numbers.{task_most}
use Rattle.rules.specs.Text.{bytes, Read, got, bad, after_key, read_number, digits}

-- the marks that part a sheet: line feed, carriage return, quote, comma
abbrev pub lf : ℕ
lf = 10

abbrev pub cr : ℕ
cr = 13

abbrev pub quote : ℕ
quote = 34

abbrev pub comma : ℕ
comma = 44

-- the line end CR LF
abbrev pub crlf : List ℕ
crlf = cr ∷ lf ∷ []

-- a byte is a mark
unfoldable pub mark : ℕ → Bool
mark b = eqb b quote || (eqb b comma || (eqb b cr || eqb b lf))

-- what stands at the start of some bytes: a field's content, and the bytes after the field; or it is not as due
pub data Field : Type 0 where
  content : List ℕ → List ℕ → Field
  no_field : Field

-- a byte of the content, before the others
unfoldable pub byte : ℕ → Field → Field
byte b (content c s) = content (b ∷ c) s
byte b no_field = no_field

-- a plain field: the bytes before the first mark
unfoldable pub read_plain : List ℕ → Field
read_plain [] = content [] []
read_plain (b ∷ s) = if mark b then content [] (b ∷ s) else byte b (read_plain s)

unfoldable mutual
  -- a quoted field, after its first quote: any bytes, marks too, up to the quote that closes it
  pub read_quoted : List ℕ → Field
  read_quoted [] = no_field
  read_quoted (b ∷ s) = if eqb b quote then after_quote s else byte b (read_quoted s)

  -- after a quote in it: a doubled one is a quote of the content, any other closes the field
  pub after_quote : List ℕ → Field
  after_quote [] = content [] []
  after_quote (b ∷ s) = if eqb b quote then byte b (read_quoted s) else content [] (b ∷ s)

-- a field: quoted if it begins with a quote, else plain
unfoldable pub read_field : List ℕ → Field
read_field [] = content [] []
read_field (b ∷ s) = if eqb b quote then read_quoted s else read_plain (b ∷ s)

-- a record ends in CR LF, in a bare LF, or at the end of the sheet; the bytes after that
unfoldable pub after_end : List ℕ → Option (List ℕ)
after_end [] = Some []
after_end (b ∷ s) = if eqb b lf then Some s else after_key crlf (b ∷ s)

-- the next field of a record, and the bytes after what follows it: after a comma, with more fields to come; or after the end of the record
pub data Step : Type 0 where
  more : List ℕ → List ℕ → Step
  last : List ℕ → List ℕ → Step
  no_step : Step

-- the last field, where the record ends after it
unfoldable pub last_of : List ℕ → Option (List ℕ) → Step
last_of c (Some s) = last c s
last_of c None = no_step

-- a field by what follows it
unfoldable pub followed : Field → Step
followed no_field = no_step
followed (content c []) = last_of c (after_end [])
followed (content c (b ∷ s)) = if eqb b comma then more c s else last_of c (after_end (b ∷ s))

-- the next field of a record
abbrev pub next_field : List ℕ → Step
next_field s = followed (read_field s)

-- what stands at the start of some bytes: a record's fields by their contents, and the bytes after the record; or it is not as due
pub data Record : Type 0 where
  fields : List (List ℕ) → List ℕ → Record
  no_record : Record

-- a field before the others
unfoldable pub before : List ℕ → Record → Record
before c (fields cs s) = fields (c ∷ cs) s
before c no_record = no_record

-- field after field
unfoldable pub onward : Step → (List ℕ → Record) → Record
onward (more c s) next = before c (next s)
onward (last c s) next = fields (c ∷ []) s
onward no_step next = no_record

-- a record of at most n fields
unfoldable pub record_within : ℕ → List ℕ → Record
record_within zero s = no_record
record_within (suc n) s = onward (next_field s) (record_within n)

-- a record: it has at most one field more than there are bytes
unfoldable pub read_record : List ℕ → Record
read_record s = record_within (suc (length s)) s

-- the names of the four columns, in the order of a task's words
abbrev pub name_of : ℕ → List ℕ
name_of zero = bytes "execution"
name_of (suc zero) = bytes "deadline"
name_of (suc (suc zero)) = bytes "period"
name_of (suc (suc (suc k))) = bytes "release"

-- nothing is left after a key
abbrev pub none_left : Option (List ℕ) → Bool
none_left (Some []) = true
none_left (Some (b ∷ s)) = false
none_left None = false

-- a content is a name, byte for byte
unfoldable pub is_name : List ℕ → List ℕ → Bool
is_name name c = none_left (after_key name c)

-- how many columns of a header have a name
unfoldable pub times : List ℕ → List (List ℕ) → ℕ
times name [] = 0
times name (h ∷ hs) = (if is_name name h then 1 else 0) + times name hs

-- the first column that has it, the columns being counted from k on; 0 where none has
unfoldable pub column_from : ℕ → List ℕ → List (List ℕ) → ℕ
column_from k name [] = 0
column_from k name (h ∷ hs) = if is_name name h then k else column_from (suc k) name hs

-- a header names each of the four once
unfoldable pub good_header : List (List ℕ) → Bool
good_header hs = eqb (times (name_of 0) hs) 1 && (eqb (times (name_of 1) hs) 1 && (eqb (times (name_of 2) hs) 1 && eqb (times (name_of 3) hs) 1))

-- their columns, counted from 1
unfoldable pub columns_of : List (List ℕ) → List ℕ
columns_of hs = column_from 1 (name_of 0) hs ∷ column_from 1 (name_of 1) hs ∷ column_from 1 (name_of 2) hs ∷ column_from 1 (name_of 3) hs ∷ []

-- a number that was read is the whole of a field
unfoldable pub whole : Read → Option ℕ
whole (got v []) = Some v
whole (got v (b ∷ s)) = None
whole bad = None

-- the number in a field, by the text's digit rule
unfoldable pub field_number : List ℕ → Option ℕ
field_number c = whole (read_number c)

-- a number before the others, where all are as due
unfoldable pub also : Option ℕ → Option (List ℕ) → Option (List ℕ)
also (Some v) (Some vs) = Some (v ∷ vs)
also (Some v) None = None
also None vs = None

-- the numbers in these columns of a record
unfoldable pub numbers_in : List ℕ → List (List ℕ) → Option (List ℕ)
numbers_in [] cs = Some []
numbers_in (k ∷ ks) cs = also (field_number (get_or cs (k - 1) [])) (numbers_in ks cs)

-- what a record gives as a task: its four words, and the bytes after the record; or it is not as due
pub data Row : Type 0 where
  row : List ℕ → List ℕ → Row
  no_row : Row

-- the numbers as a task's words
unfoldable pub row_of : Option (List ℕ) → List ℕ → Row
row_of (Some ws) s = row ws s
row_of None s = no_row

-- a task's record: as many fields as the header, and a number in each of the four columns
unfoldable pub read_row : ℕ → List ℕ → Record → Row
read_row count columns (fields cs s) = if eqb (length cs) count then row_of (numbers_in columns cs) s else no_row
read_row count columns no_record = no_row

-- what reading a sheet gives: the words of its tasks; or the number of the first record that is not as due; or that the header is not
pub data Sheet : Type 0 where
  tasks : List ℕ → Sheet
  wrong : ℕ → Sheet
  no_header : Sheet

-- the words of a record before those of the later ones
unfoldable pub words_ahead : List ℕ → Sheet → Sheet
words_ahead ws (tasks vs) = tasks (ws ++ vs)
words_ahead ws (wrong l) = wrong l
words_ahead ws no_header = no_header

-- the records after record l, where it is as due
unfoldable pub or_wrong : ℕ → Row → (List ℕ → Sheet) → Sheet
or_wrong l (row ws s) next = words_ahead ws (next s)
or_wrong l no_row next = wrong l

-- right after a line end at the end of the sheet there is no further record
unfoldable pub at_record : List ℕ → Sheet → Sheet
at_record [] some_record = tasks []
at_record (b ∷ s) some_record = some_record

-- the records of tasks: n of them may come, the first is record l
unfoldable pub read_tasks : ℕ → List ℕ → ℕ → ℕ → List ℕ → Sheet
read_tasks count columns zero l s = at_record s (wrong l)
read_tasks count columns (suc n) l s = at_record s (or_wrong l (read_row count columns (read_record s)) (λ rest. read_tasks count columns n (suc l) rest))

-- under a header, which is record 1, up to 64 records
unfoldable pub under_header : Record → Sheet
under_header (fields hs s) = if good_header hs then read_tasks (length hs) (columns_of hs) task_most 2 s else no_header
under_header no_record = no_header

-- a sheet: the header, then a record a task
unfoldable pub read_sheet : List ℕ → Sheet
read_sheet s = under_header (read_record s)

-- the words that were read
abbrev pub sheet_words : Sheet → List ℕ
sheet_words (tasks ws) = ws
sheet_words (wrong l) = []
sheet_words no_header = []

-- what stands after a task's words, by their place: a comma, and the line end after the last
abbrev pub after_word : ℕ → List ℕ
after_word zero = comma ∷ []
after_word (suc zero) = comma ∷ []
after_word (suc (suc zero)) = comma ∷ []
after_word (suc (suc (suc k))) = crlf

-- the records of tasks, the first of them from word k on
unfoldable pub write_records : ℕ → List ℕ → List ℕ
write_records k [] = []
write_records k (w ∷ ws) = (digits w ++ after_word (k % 4)) ++ write_records (suc k) ws

-- the sheet of a table
unfoldable pub write_sheet : List ℕ → List ℕ
write_sheet ws = (bytes "execution,deadline,period,release" ++ crlf) ++ write_records 0 ws
