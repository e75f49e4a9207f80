-- The paper's figures, each with one name. Document 01, "What the check covers" (Numbers) and "The program and the C call".
use Rattle.std.specs.Prelude.{ℕ}

-- the most tasks
abbrev pub task_most : ℕ
task_most = 64

-- the most words of a table, four a task
abbrev pub table_most : ℕ
table_most = 256

-- the greatest value of a word
abbrev pub word_most : ℕ
word_most = 65535

-- the greatest end tick Z
abbrev pub end_most : ℕ
end_most = 100000

-- the horizon H
abbrev pub horizon : ℕ
horizon = 100000

-- the longest input of the program
abbrev pub input_most : ℕ
input_most = 32768
