-- The windows that are unmapped.
use Rattle.std.proofs.Common.{None}
use Rattle.dri_model.specs.Stacks.{without_owner}
use Rattle.dri_draw.proofs.Drawn.{screen_sides}
use Rattle.dri_shared.proofs.Painted.{can_carry, restacked}
use Rattle.dri_shared.proofs.painting.unmap_windows.Goals as goal

pub show-requires-clause-carry : goal.show-requires-clause-carry
show-requires-clause-carry g c = let ws = c.args.board.now.stack in
    can_carry c.args.card.now c.args.board.now.width c.args.board.now.height ws (without_owner c.args.owner ws) None c.in_ok-touched.touched.carry
    c.requires.width c.requires.height c.in_ok-touched.ensures.touched.carry

pub returns-clause-ok : goal.returns-clause-ok
returns-clause-ok g c = let ws = c.args.board.now.stack in
    restacked (without_owner c.args.owner ws) None c.args.board.now c.unmap_owner.new.self c.args.card.now c.show.new.card c.in_ok-touched.touched
    c.in_ok-touched.ensures.ok c.in_ok-touched.ensures.touched (screen_sides c.args.card.now c.args.board.now.width c.args.board.now.height c.requires.screen.sides c.requires.width c.requires.height)
    c.show.ensures.shown c.show.ensures.held c.show.ensures.others c.show.ensures.sides
