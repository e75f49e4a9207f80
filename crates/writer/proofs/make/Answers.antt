-- `writer::make`: a table that is refused, a buffer shorter than what is made of it, or that put at the buffer's start; each is a case of the call.
use Rattle.std.proofs.Common.{ℕ, List, ◌≡◌, ◌++◌, length, drop, ap, ◌∙◌, arith}
use Rattle.std.proofs.lemmas.Result.{err_from_is_err_and}
use Rattle.rules.proofs.Calls.{write_refused, write_short, write_made}
use Rattle.writer.proofs.make.Goals as goal
use Rattle.std.specs.Prelude.{Ok}

-- the table is refused
pub returns-in_err-tasks : goal.returns-in_err-tasks
returns-in_err-tasks g c =
    let p = err_from_is_err_and c.from_residual.result c.from_residual.ensures.1 in
    rw (p.1, p.2) (write_refused _ _ _ c.in_err-tasks.ensures)

-- the buffer is too short
pub returns-then-out-total : goal.returns-then-out-total
returns-then-out-total g c =
    let long = c.length_of-total.ensures.0 ∙ ap (λ (ws : List ℕ). length (g.F.Form.make ws)) c.in_ok-tasks.ensures.1 in
    write_short _ _ c.in_ok-tasks.ensures.0 (omega (arith, long))

-- it is put
pub returns : goal.returns
returns g c =
    let same = c.in_ok-tasks.ensures.1 in
    let long : c.length_of-total.result ≡ length (g.F.Form.make c.args.table.now) =
    c.length_of-total.ensures.0 ∙ ap (λ (ws : List ℕ). length (g.F.Form.make ws)) same
    in
    let outcome = write_made {make = g.F.Form.make} c.args.table.now c.args.out.now c.in_ok-tasks.ensures.0 (omega arith) in
    record {
      says = ap Ok long ∙ outcome.says;
      leaves = c.put.ensures ∙ ap (λ (ws : List ℕ). g.F.Form.make ws ++ drop (length (g.F.Form.make ws)) c.args.out.now) same ∙ outcome.leaves;
    }
