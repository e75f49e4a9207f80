-- One digit is one byte. Of more, each turn puts the last of the digits that are left; at the end none is left.
use Rattle.std.proofs.Common.{◌≡◌, ◌∙◌, ◌+◌, ◌-◌, ℕ, ap, arith, length, length-set, refl, sym}
use Rattle.rules.specs.Text.{digits}
use Rattle.rules.proofs.Digits.{lasts, digits_lasts, digits_least, digits_one}
use Rattle.print.specs.Place.{put}
use Rattle.print.proofs.Putting.{put_none, put_one, put_digit_at}
use Rattle.print.proofs.Page.put_number.Goals as goal

pub bounds-self-self : goal.bounds-self-self
bounds-self-self c = omega (arith, c.requires, digits_least c.args.n)

pub returns-then-n-lt10 : goal.returns-then-n-lt10
returns-then-n-lt10 c =
    let self = c.args.self.now in
    let one = digits_one c.args.n c.if-n-lt10.true in
    let fits = rw one at c.requires in
    rw one (record { fits = fits; same = refl; puts = record { says = refl; leaves = put_one self.out.now self.at (48 + c.args.n) (omega arith) } })

pub loop-i-init : goal.loop-i-init
loop-i-init c =
    let self = c.args.self.now in
    let all : self.at + c.width.result - self.at ≡ length (digits c.args.n) = omega arith in
    record {
      same = refl;
      same_at = refl;
      same_length = refl;
      wide = omega arith;
      put_left = ap (put self.out.now self.at) (ap (λ (k : ℕ). lasts k c.args.n) all ∙ sym (digits_lasts c.args.n (omega arith)));
    }

pub loop-i-preserved : goal.loop-i-preserved
loop-i-preserved c =
    let kept = c.loop-i.invariant in
    let self = c.loop-i.self in
    record {
      same = kept.same;
      same_at = kept.same_at;
      same_length = simp length-set kept.same_length;
      wide = kept.wide;
      put_left = put_digit_at self.out.now self.at c.loop-i.i c.loop-i.v (omega arith) (omega arith) ∙ kept.put_left;
    }

pub returns : goal.returns
returns c =
    let kept = c.loop-i.invariant in
    let self = c.loop-i.self in
    let nothing : c.loop-i.i - self.at ≡ 0 = omega arith in
    record {
      fits = c.requires;
      same = kept.same;
      puts = record { says = omega arith; leaves = sym (put_none _ self.at _ c.loop-i.v nothing) ∙ kept.put_left ∙ ap (λ (k : ℕ). put c.args.self.now.out.now k (digits c.args.n)) kept.same_at };
    }
