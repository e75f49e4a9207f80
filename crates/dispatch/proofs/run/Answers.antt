-- `dispatch::run`: before the first turn no row is written, each turn writes one row more, and after n of them the rows are the plan's.
use Rattle.std.proofs.Common.{ℕ, ◌+◌, refl, ap, ◌∙◌, arith}
use Rattle.rules.specs.declared.Task.{Task}
use Rattle.dispatch.proofs.Loop.{state_begin, found_of, some_left, state_more, state_end}
use Rattle.dispatch.proofs.run.Goals as goal

pub loop-k-init : goal.loop-k-init
loop-k-init c =
    record { words = refl; plan = refl; state = state_begin _ _ _ _ _ c.args.tasks.valid c.requires.n_value c.requires.n_in_bounds }

pub unwrap-turn-requires : goal.unwrap-turn-requires
unwrap-turn-requires c =
    some_left _ _ _ _ _ c.args.tasks.valid _ _ _ _ _ c.loop-k.invariant.state (omega arith) _
    (found_of _ _ _ _ _ _ _ c.loop-k.invariant.words c.loop-k.invariant.plan c.choose.ensures)

pub loop-k-preserved : goal.loop-k-preserved
loop-k-preserved c =
    let its_run = c.from-in-loop-k.ensures ∙ ap (λ (τ : Task). τ.C) c.task.ensures in
    record {
      words = c.loop-k.invariant.words;
      plan = c.loop-k.invariant.plan;
      state =
          state_more _ _ _ _ _ c.args.tasks.valid _ _ _ _ _ c.loop-k.invariant.state (omega arith) _
          (found_of _ _ _ _ _ _ _ c.loop-k.invariant.words c.loop-k.invariant.plan c.choose.ensures)
          _ c.unwrap-turn.ensures _ _ c.from.ensures (ap (λ (v : ℕ). c.unwrap-turn.result.start + v) its_run) _ c.noted-late.ensures _ c.put_row.ensures;
    }

pub returns : goal.returns
returns c = state_end _ _ _ _ _ c.args.tasks.valid _ _ _ _ _ c.loop-k.invariant.state (omega arith)
