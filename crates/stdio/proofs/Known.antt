-- Bytes that are known: what one more read or write adds to those of the calls before, and which beginning was written.
use Rattle.std.proofs.Common.{◌≡◌, ℕ, ◌+◌, ◌-◌, ◌≤◌, List, ◌++◌, Option, Result, Ok, Err, length, take, drop, sym, ap, subst, min, ◌∙◌, arith, length-take-le}
use Rattle.std.specs.Io.KnownBytes.{Appends, Consumes}
use Rattle.std.proofs.KnownBytes.{Appends-trans, Consumes-trans}
use Rattle.stdio.specs.Input.{TookBeginning, Wrote}
use Rattle.stdio.specs.declared.OutputError.{OutputError}
use Rattle.stdio.specs.declared.OutputError.TheVariants.{Cut, Unread}
use borrow.Rule.Slice.PartMut.{put_mid, post_of}
use Rattle.std.proofs.Math.Seq.{take-append-add, take-length}
use Rattle.std.proofs.lemmas.List.{take_min, take_rest}
use lib.Seq.{take-add, take-append-le}

-- what was read before stays in front of what this read put at `at`
read_more : (at k n : ℕ) (buf part : List ℕ) → at ≤ length buf → n ≤ length part → take at buf ++ take n part ≡ take (at + n) (put_mid at k buf part)
read_more at k n buf part within fits =
    let after = post_of at k buf in
    ap (λ l. take at buf ++ l) (sym (take-append-le n part after fits))
    ∙ sym (take-append-add (take at buf) (part ++ after) n)
    ∙ ap (λ m. take (m + n) (put_mid at k buf part)) (length-take-le at buf within)

-- the bytes of this read follow those that were read before
pub read_adds : (a b c : Option (List ℕ)) (at k n : ℕ) (buf part : List ℕ) → at ≤ length buf → n ≤ length part → Consumes a b (take at buf) → Consumes b c (take n part)
    → Consumes a c (take (at + n) (put_mid at k buf part))
read_adds a b c at k n buf part within fits before more = subst (Consumes a c) (read_more at k n buf part within fits) (Consumes-trans a b c _ _ before more)

-- the bytes that this write took follow those that were written before
pub written_more : (a b c : Option (List ℕ)) (bytes : List ℕ) (at n : ℕ) → Appends a b (take at bytes)
    → Appends b c (take n (take (length bytes - at) (drop at bytes))) → Appends a c (take (at + n) bytes)
written_more a b c bytes at n before more =
    let rest : Appends b c (take n (drop at bytes)) = subst (λ (l : List ℕ). Appends b c (take n l)) (take_rest bytes at) more in
    subst (Appends a c) (sym (take-add at n bytes)) (Appends-trans a b c _ _ before rest)

-- a writer that took all of one part and a beginning of the next took a beginning of both and of what follows them
pub beginning_after : (a b c : Option (List ℕ)) (done part rest all : List ℕ) → Appends a b done → TookBeginning b c part → all ≡ done ++ (part ++ rest) → TookBeginning a c all
beginning_after a b c done part rest all before (n, more) e =
    let m = min n (length part) in
    let within : m ≤ length part = omega arith in
    let front : take (length done + m) all ≡ done ++ take n part =
    ap (take (length done + m)) e ∙ take-append-add done (part ++ rest) m ∙ ap (λ l. done ++ l) (take-append-le m part rest within ∙ take_min n part) in
    (length done + m, subst (Appends a c) (sym front) (Appends-trans a b c _ _ before more))

-- all of the bytes are a beginning of them
pub beginning_all : (a b : Option (List ℕ)) (all : List ℕ) → Appends a b all → TookBeginning a b all
beginning_all a b all took = (length all, subst (Appends a b) (sym (take-length all)) took)

-- what was written is a beginning, whatever stopped it
pub beginning_written : (a b : Option (List ℕ)) (written : Result (Unit {0}) OutputError) (bytes : List ℕ) → Wrote a b written bytes → TookBeginning a b bytes
beginning_written a b (Ok u) bytes wrote = beginning_all a b bytes wrote
beginning_written a b (Err (Cut n)) bytes wrote = (n, wrote.1)
beginning_written a b (Err (Unread n)) bytes wrote = (n, wrote.1)
