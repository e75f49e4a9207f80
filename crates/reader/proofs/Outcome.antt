-- The promise of the reader leaves one outcome.
use Rattle.rules.proofs.Reading.{reads_one}
use Rattle.reader.specs.Reader.{ReturnsOne}

pub returns_one : ReturnsOne
returns_one text table a b e f p q = reads_one text table a.answer b.answer a.rest.now b.rest.now e f p q
