-- What is carried comes along, the paints are made, and a copy that was owed is counted.
use Rattle.std.proofs.Common.{◌∙◌, ap, length, is_some, nat_lt, not}
use Rattle.std.specs.Prelude.{◌&&◌}
use Rattle.dri_flip.specs.Follows.{has_change}
use Rattle.dri_flip.proofs.Counts.{draw_counted, show_owed}
use Rattle.dri_flip.proofs.Painting.{paints_kept, screen_kept}
use Rattle.dri_flip.proofs.counted.CountedCard.show.Goals as goal

pub paint-requires-clause-sides : goal.paint-requires-clause-sides
paint-requires-clause-sides g c = screen_kept c.args.self.now.card c.carry_along.new.card c.requires.sides c.carry_along.ensures.sides

pub paint-requires-clause-on : goal.paint-requires-clause-on
paint-requires-clause-on g c = rw c.as_slice.ensures (paints_kept c.args.self.now.card c.carry_along.new.card c.args.touched.now.paints c.requires.sides c.carry_along.ensures.sides c.requires.can.paints)

pub returns-clause-owes : goal.returns-clause-owes
returns-clause-owes g c =
    let touched = c.args.touched.now in
    draw_counted c.args.self.now c.count_copy.new.self c.paint.new.card (has_change touched) c.owed-found.result c.owed-found.ensures
    (show_owed c.args.self.now.card.owed c.carry_along.new.card.owed c.paint.new.card.owed (is_some touched.carry) (nat_lt 0 (length touched.paints)) c.carry_along.ensures.owed
    (c.paint.ensures.owed ∙ ap (λ ps. c.carry_along.new.card.owed && not (nat_lt 0 (length ps))) c.as_slice.ensures)) c.count_copy.ensures
