-- A probe leaves one outcome.
use mathlib.Core.Path.{sym, ◌∙◌}
use Rattle.probe.specs.Probe.{ProbesOne}

-- two outcomes of one probe are equal
pub probes_one : ProbesOne
probes_one due out m n e f p q = (p.says ∙ sym q.says, p.leaves ∙ sym q.leaves)
