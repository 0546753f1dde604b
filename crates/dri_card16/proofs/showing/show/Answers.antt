-- What comes along, and then the paints.
use Rattle.dri_card16.proofs.Made16.{carried_kept}
use Rattle.dri_card16.specs.Packing.{kept}
use Rattle.dri_draw.proofs.Drawn.{holds_shown, planes_shown, screen_kept}
use Rattle.dri_replay.proofs.Cards.{paints_kept}
use Rattle.dri_replay.specs.Makings.{carried_along}
use Rattle.dri_card16.proofs.showing.show.Goals as goal

pub paint-requires-clause-screen : goal.paint-requires-clause-screen
paint-requires-clause-screen g c = screen_kept c.args.card.now c.carry_along.new.card c.requires.screen c.carry_along.ensures.sides

pub paint-requires-clause-shown : goal.paint-requires-clause-shown
paint-requires-clause-shown g c = rw c.as_slice.ensures (paints_kept c.args.card.now c.carry_along.new.card c.args.touched.now.paints c.requires.screen c.carry_along.ensures.sides c.requires.can.paints)

pub returns-clause-shown : goal.returns-clause-shown
returns-clause-shown g c = rw (← c.as_slice.ensures) (λ front shows. c.paint.ensures.shown (carried_along c.args.touched.now.carry front) (carried_kept c.carry_along.new.card c.args.touched.now.carry front (c.carry_along.ensures.shown (λ x y. kept (front x y)) shows)))

pub returns-clause-held : goal.returns-clause-held
returns-clause-held g c = λ back holds. holds_shown c.carry_along.new.card c.paint.new.card (carried_along c.args.touched.now.carry back) c.paint.ensures.others (c.carry_along.ensures.held back holds)

pub returns-clause-others : goal.returns-clause-others
returns-clause-others g c = planes_shown c.args.card.now c.carry_along.new.card c.paint.new.card c.carry_along.ensures.others c.paint.ensures.others
