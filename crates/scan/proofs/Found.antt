-- The promise of a scan leaves one outcome.
use Rattle.std.proofs.Common.{◌≡◌, ◌*◌, length, take, sym, ap, ◌∙◌, arith, Ok, Err}
use Rattle.std.proofs.Math.Seq.{length-take-le}
use Rattle.rules.specs.Text.{took, stop}
use Rattle.rules.proofs.Booleans.{impossible}
use Rattle.scan.specs.Scanned.{ScansOne}

-- one outcome
pub scans_one : ScansOne
scans_one due (Ok a) (Ok b) ws vs long_ws long_vs x y =
    let both : took (take (4 * a.0) ws) a.1.now ≡ took (take (4 * b.0) vs) b.1.now = sym x.says ∙ y.says in
    let same : take (4 * a.0) ws ≡ take (4 * b.0) vs = cc in
    let x_few = x.few in
    let y_few = y.few in
    let counts : a.0 ≡ b.0 = omega (arith, length-take-le (4 * a.0) ws (omega arith), length-take-le (4 * b.0) vs (omega arith), ap length same) in
    cc
scans_one due (Ok a) (Err r) ws vs long_ws long_vs x y = let both : took (take (4 * a.0) ws) a.1.now ≡ stop y.line = sym x.says ∙ y.says in impossible cc
scans_one due (Err r) (Ok b) ws vs long_ws long_vs x y = let both : stop x.line ≡ took (take (4 * b.0) vs) b.1.now = sym x.says ∙ y.says in impossible cc
scans_one due (Err r) (Err q) ws vs long_ws long_vs x y = let both : stop x.line ≡ stop y.line = sym x.says ∙ y.says in let one = x.refuses in let other = y.refuses in cc
