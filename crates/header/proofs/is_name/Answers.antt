-- `header::is_name` meets its contract: bytes are a name where they are equal to it.
use Rattle.header.proofs.Names.{name_by_eq}
use Rattle.header.proofs.is_name.Goals as goal

pub returns : goal.returns
returns c = name_by_eq _ _ _ c.eq.ensures
