-- The buffer with the digits that are left put at the place is, at each turn, the old one with all of them.
use Rattle.std.proofs.Common.{◌≡◌, ◌+◌, ◌-◌, length}
use Rattle.rules.specs.Text.{digits}
use Rattle.rules.proofs.Digits.{lasts}
use Rattle.print.specs.Place.{put}
use Rattle.print.proofs.Page.put_number.Given as goal

abbrev pub invariant-loop-i : goal.invariant-loop-i
invariant-loop-i l = record {
  same : l.self.out.ghost_name ≡ l.fn.self.out.ghost_name;
  same_at : l.self.at ≡ l.fn.self.at;
  same_length : length l.self.out.now ≡ length l.fn.self.out.now;
  wide : l.end ≡ l.self.at + length (digits l.n);
  put_left : put l.self.out.now l.self.at (lasts (l.i - l.self.at) l.v) ≡ put l.fn.self.out.now l.self.at (digits l.n);
}
