-- The text of a set, read and written. Document 01, "The text of a set".
use Rattle.std.specs.Prelude.{ℕ, zero, suc, ◌+◌, ◌-◌, ◌*◌, ◌/◌, ◌%◌, List, [], ◌∷◌, ◌++◌, Bool, ◌&&◌, leb, ltb, eqb, length, if◌then◌else◌, Option, Some, None}
use Prim.Native.Char.{code}
use Prim.Native.String.{String}
use Rattle.rules.specs.Numbers.{task_most}

-- the bytes of a text in plain letters
abbrev pub bytes : String → List ℕ
bytes String.[] = []
bytes (String.◌∷◌ c s) = code c ∷ bytes s

-- the key of the first line
abbrev pub tasks_key : List ℕ
tasks_key = bytes "tasks="

-- the keys of a task's four lines, by their place
abbrev pub key_of : ℕ → List ℕ
key_of zero = bytes "c="
key_of (suc zero) = bytes "d="
key_of (suc (suc zero)) = bytes "t="
key_of (suc (suc (suc n))) = bytes "r="

-- what stands at the start of some bytes: a number, and the bytes after it; or it is not as due
pub data Read : Type 0 where
  got : ℕ → List ℕ → Read
  bad : Read

-- the bytes after a key, if they begin with it
unfoldable pub after_key : List ℕ → List ℕ → Option (List ℕ)
after_key [] s = Some s
after_key (k ∷ ks) [] = None
after_key (k ∷ ks) (b ∷ s) = if eqb b k then after_key ks s else None

-- a decimal digit
unfoldable pub digit : ℕ → Bool
digit b = leb 48 b && leb b 57

-- at most n digits more, after those that make v
unfoldable pub more_digits : ℕ → ℕ → List ℕ → Read
more_digits zero v s = got v s
more_digits (suc n) v [] = got v []
more_digits (suc n) v (b ∷ s) = if digit b then more_digits n (v * 10 + (b - 48)) s else got v (b ∷ s)

-- a number: one to five decimal digits with no leading zero, except 0 itself
unfoldable pub read_number : List ℕ → Read
read_number [] = bad
read_number (b ∷ s) = if digit b then (if eqb b 48 then got 0 s else more_digits 4 (b - 48) s) else bad

-- a line ends in byte 10
unfoldable pub line_end : Read → Read
line_end bad = bad
line_end (got v []) = bad
line_end (got v (b ∷ s)) = if eqb b 10 then got v s else bad

-- the number of a line, after its key
unfoldable pub number_line : Option (List ℕ) → Read
number_line None = bad
number_line (Some s) = line_end (read_number s)

-- a line: its key, a number, byte 10
unfoldable pub read_line : List ℕ → List ℕ → Read
read_line key s = number_line (after_key key s)

-- what reading a set gives: its words, and the bytes after it; or the number of the first line missing or not as due
pub data Lines : Type 0 where
  took : List ℕ → List ℕ → Lines
  stop : ℕ → Lines

-- a word before those of the later lines
unfoldable pub ahead : ℕ → Lines → Lines
ahead v (took ws s) = took (v ∷ ws) s
ahead v (stop l) = stop l

-- what follows line l where it is as due, else the stop at l
unfoldable pub or_stop : ℕ → Read → (ℕ → List ℕ → Lines) → Lines
or_stop l (got v s) next = next v s
or_stop l bad next = stop l

-- n lines of tasks, the first of them for word k: line 2 + k, its key by k's place among the four
unfoldable pub read_lines : ℕ → ℕ → List ℕ → Lines
read_lines zero k s = took [] s
read_lines (suc n) k s = or_stop (2 + k) (read_line (key_of (k % 4)) s) (λ v rest. ahead v (read_lines n (suc k) rest))

-- the tasks line with its count, 1 to 64, then four lines a task
unfoldable pub read_set : List ℕ → Lines
read_set s = or_stop 1 (read_line tasks_key s) (λ n rest. if leb 1 n && leb n task_most then read_lines (4 * n) 0 rest else stop 1)

-- the words that were read
abbrev pub words_read : Lines → List ℕ
words_read (took ws s) = ws
words_read (stop l) = []

-- the bytes after the set
abbrev pub rest_read : Lines → List ℕ
rest_read (took ws s) = s
rest_read (stop l) = []

-- the decimal digits of a number that has at most n of them
unfoldable pub digits_within : ℕ → ℕ → List ℕ
digits_within zero v = []
digits_within (suc n) v = if ltb v 10 then (48 + v) ∷ [] else digits_within n (v / 10) ++ ((48 + v % 10) ∷ [])

-- the decimal digits of a 32-bit number
unfoldable pub digits : ℕ → List ℕ
digits v = digits_within 10 v

-- a line: a key, a value, byte 10
unfoldable pub line : List ℕ → List ℕ → List ℕ
line key value = key ++ (value ++ (10 ∷ []))

-- the lines of tasks, the first of them for word k
unfoldable pub write_lines : ℕ → List ℕ → List ℕ
write_lines k [] = []
write_lines k (w ∷ ws) = line (key_of (k % 4)) (digits w) ++ write_lines (suc k) ws

-- the text of a table
unfoldable pub write_set : List ℕ → List ℕ
write_set ws = line tasks_key (digits (length ws / 4)) ++ write_lines 0 ws
