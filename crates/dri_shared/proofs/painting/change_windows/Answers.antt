-- A change that is made, and one that is refused.
use Rattle.std.proofs.Common.{refl}
use Rattle.dri_model.specs.Stacks.{changed, moved_by, moves, refusal, stack_after}
use Rattle.dri_draw.proofs.Drawn.{screen_sides}
use Rattle.dri_shared.proofs.Painted.{can_carry, refused_by, restacked, stays, when_err, when_ok}
use Rattle.dri_shared.proofs.painting.change_windows.Goals as goal

pub show-requires-clause-carry : goal.show-requires-clause-carry
show-requires-clause-carry g c = let ws = c.args.board.now.stack in
    can_carry c.args.card.now c.args.board.now.width c.args.board.now.height ws (stack_after c.args.change.now ws) (moved_by c.args.change.now ws) c.in-Ok.touched.carry
    c.requires.width c.requires.height c.in-Ok.ensures.touched.carry

pub returns-in-Ok-clause-ok : goal.returns-in-Ok-clause-ok
returns-in-Ok-clause-ok g c = let ws = c.args.board.now.stack in
    restacked (stack_after c.args.change.now ws) (moved_by c.args.change.now ws) c.args.board.now c.apply.new.self c.args.card.now c.show.new.card c.in-Ok.touched
    c.in-Ok.ensures.ok c.in-Ok.ensures.touched (screen_sides c.args.card.now c.args.board.now.width c.args.board.now.height c.requires.screen.sides c.requires.width c.requires.height)
    c.show.ensures.shown c.show.ensures.held c.show.ensures.others c.show.ensures.sides

pub returns-clause-ok : goal.returns-clause-ok
returns-clause-ok g c = let ws = c.args.board.now.stack in let r = refusal c.args.change.now ws in
    when_ok c.refused.result _ _ (λ ne. stays r (changed c.args.change.now ws) (moves c.args.change.now) c.args.board.now c.apply.new.self c.args.card.now
    (refused_by r c.in-Err.fault ne c.in-Err.ensures.no_window c.in-Err.ensures.out_of_range c.in-Err.ensures.already_mapped c.in-Err.ensures.not_mapped) c.in-Err.ensures.err) c.refused.ensures.refused

pub returns-clause-err : goal.returns-clause-err
returns-clause-err g c = when_err c.refused.result _ (c.in-Err.ensures.err, refl)
