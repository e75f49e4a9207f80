-- What the exchange's promise tells: there is one outcome, and a refusal that is told has words for what is wrong.
use mathlib.Core.Path.{◌≡◌, sym, ap, ◌∙◌}
use Prim.Native.Nat.{ℕ, ◌+◌}
use native.Mathlib.Omega.{arith}
use mathlib.Core.List.{List}
use lib.ListN.{length}
use Rattle.print.specs.Place.{Puts}
use Rattle.print.proofs.Putting.{put_start}
use Rattle.exchange.specs.Exchange.{told, Gives, GivesOne, AllWorded}
use Rattle.exchange.proofs.Tellable.{tellable}
use Rattle.std.specs.Prelude.{Err}

pub gives_one : GivesOne
gives_one outcome out a b e f p q = (p.says ∙ sym q.says, p.leaves ∙ sym q.leaves)

-- a refusal that is told has words
pub all_worded : AllWorded
all_worded source input r e = (tellable source input r e).worded

-- bytes put at the start are told
pub told_so : {old exit : List ℕ} {size : ℕ} (vs : List ℕ) → Puts old 0 vs size exit → Gives (told vs) old (Err size) exit
told_so {old} vs p =
    let n : 0 + length vs ≡ length vs = omega arith in
    record { says = ap Err (p.says ∙ n); leaves = p.leaves ∙ put_start old vs }
