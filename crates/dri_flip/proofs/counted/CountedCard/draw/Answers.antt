-- A triangle is drawn, and a copy that was owed is counted.
use Rattle.std.proofs.Common.{sym, subst}
use Rattle.dri_flip.specs.Calls.{touch}
use Rattle.dri_flip.specs.Meanings.{HaveSides}
use Rattle.dri_flip.specs.declared.counted.CountedCard.{CountedCard}
use Rattle.dri_flip.proofs.Counts.{draw_counted}
use Rattle.dri_flip.proofs.counted.CountedCard.draw.Goals as goal

pub returns-clause-owes : goal.returns-clause-owes
returns-clause-owes g c =
    draw_counted c.args.self.now c.count_copy.new.self c.draw.new.self (touch c.args.self.now.card c.args.rects.now) c.owed-found.result c.owed-found.ensures c.draw.ensures.owed c.count_copy.ensures

pub returns-clause-sides : goal.returns-clause-sides
returns-clause-sides g c = λ width height sides. subst (λ (k : CountedCard). HaveSides k.card width height) (sym c.count_copy.ensures) (c.draw.ensures.sides width height sides)
