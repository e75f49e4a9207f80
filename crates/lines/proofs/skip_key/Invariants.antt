-- `lines::skip_key`'s loop: at each turn what is left of the key is looked for in the bytes that are left as the whole key in the whole text.
use Rattle.std.proofs.Common.{◌≡◌, drop}
use Rattle.rules.specs.Text.{after_key}
use Rattle.lines.proofs.skip_key.Given as goal

abbrev pub invariant-loop-due : goal.invariant-loop-due
invariant-loop-due l = after_key l.key l.s ≡ after_key (drop l.due-index l.key) l.rest
