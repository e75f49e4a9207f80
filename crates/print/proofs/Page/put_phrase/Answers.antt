-- Three parts, each put where the one before ends, are the phrase put at the first place.
use Rattle.print.proofs.Pages.{adds_both}
use Rattle.print.proofs.Page.put_phrase.Goals as goal

pub returns : goal.returns
returns g c = adds_both _ _ c.put_bytes.ensures (adds_both _ _ c.put.ensures c.put_bytes-2.ensures)
