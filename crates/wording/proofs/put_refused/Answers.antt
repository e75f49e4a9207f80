-- The sentence's three parts are put one after the other.
use Rattle.print.proofs.Pages.{adds_both}
use Rattle.wording.proofs.put_refused.Goals as goal

pub returns : goal.returns
returns c =
    adds_both _ _ c.put_bytes.ensures (adds_both _ _ c.put_wrong.ensures (rw c.refusal_number.ensures at c.put_phrase.ensures))
