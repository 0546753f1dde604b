use Rattle.std.proofs.Common.{sym}
use Rattle.dri_model.specs.Stacks.{changed, refusal, stack_after}
use Rattle.dri_journal.proofs.Unchanged.{refused_same, some_refusal, unrestacked}
use Rattle.dri_journal.proofs.windows.change_windows.Goals as goal

pub returns-clause-ok : goal.returns-clause-ok
returns-clause-ok g c = let ws = c.args.board.now.stack in
    unrestacked (stack_after c.args.change.now ws) c.args.board.now c.apply.new.self
    (refused_same (refusal c.args.change.now ws) ws (changed c.args.change.now ws)
    (some_refusal (refusal c.args.change.now ws) c.in-Err.fault c.in_ok-refused-in-Err.ensures.refused c.in-Err.ensures.no_window c.in-Err.ensures.out_of_range c.in-Err.ensures.already_mapped c.in-Err.ensures.not_mapped))
    c.in-Err.ensures.err

pub returns-clause-refused : goal.returns-clause-refused
returns-clause-refused g c = sym
    (some_refusal (refusal c.args.change.now c.args.board.now.stack) c.in-Err.fault c.in_ok-refused-in-Err.ensures.refused c.in-Err.ensures.no_window c.in-Err.ensures.out_of_range c.in-Err.ensures.already_mapped c.in-Err.ensures.not_mapped)
