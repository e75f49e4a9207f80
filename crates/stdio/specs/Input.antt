-- What was read of standard input, and written to standard output.
use Rattle.std.specs.Prelude.{◌≡◌, ℕ, ◌<◌, List, Option, Result, Ok, Err, IfSome, length, take}
use Rattle.std.specs.Borrow.{Bor}
use Rattle.std.specs.Io.KnownBytes.{Appends, Consumes, IsAtEnd}
use Rattle.rules.specs.Numbers.{input_most}
use Rattle.stdio.specs.declared.InputError.{InputError}
use Rattle.stdio.specs.declared.InputError.TheVariants.{TooLong, Failed}
use Rattle.stdio.specs.declared.OutputError.{OutputError}
use Rattle.stdio.specs.declared.OutputError.TheVariants.{Cut, Unread}

-- of a buffer of k bytes: an input that was read whole does not fill it; one that fills it is too long
abbrev pub Within : Result ℕ InputError → ℕ → Type 0
Within (Ok n) k = n < k
Within (Err TooLong) k = input_most < k
Within (Err (Failed n)) k = n < k

-- of a reader whose bytes are known: those that it gave stand at the start of the buffer, in their order, and whole is all of them
abbrev pub Took : Option (List ℕ) → Option (List ℕ) → Result ℕ InputError → List ℕ → Type 0
Took old new (Ok n) buf = Consumes old new (take n buf) × IsAtEnd new
Took old new (Err TooLong) buf = Consumes old new buf
Took old new (Err (Failed n)) buf = Consumes old new (take n buf)

-- of a reader whose bytes are known: what it gives is the first k of them, which are all where there are fewer
abbrev pub Gives : Option (List ℕ) → ℕ → Option (Bor (List ℕ)) → Type 0
Gives old k given = IfSome given (λ part. IfSome old (λ bytes. take k bytes ≡ part.now))

-- of a writer whose bytes are known: it took all of these, or the first of them, which are not all
abbrev pub Wrote : Option (List ℕ) → Option (List ℕ) → Result (Unit {0}) OutputError → List ℕ → Type 0
Wrote old new (Ok u) bytes = Appends old new bytes
Wrote old new (Err (Cut n)) bytes = (n < length bytes) × Appends old new (take n bytes)
Wrote old new (Err (Unread n)) bytes = (n < length bytes) × Appends old new (take n bytes)

-- of a writer whose bytes are known: it took a beginning of these, in their order
abbrev pub TookBeginning : Option (List ℕ) → Option (List ℕ) → List ℕ → Type 0
TookBeginning old new bytes = (n : ℕ) × Appends old new (take n bytes)

-- the exit status of a program that wrote so much: 0, or 141 where its reader went away
abbrev pub status_after : Result (Unit {0}) OutputError → ℕ
status_after (Ok u) = 0
status_after (Err (Cut n)) = 0
status_after (Err (Unread n)) = 141
