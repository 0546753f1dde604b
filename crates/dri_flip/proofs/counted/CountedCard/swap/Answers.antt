-- Back is shown, and a flip and a copy that was owed are counted.
use Rattle.std.proofs.Common.{◌∙◌, ◌+◌, ap, if◌then◌else◌}
use Rattle.dri_base.specs.Rectangles.{in_rects}
use Rattle.dri_flip.specs.Calls.{fill, touch}
use Rattle.dri_flip.specs.Follows.{counted}
use Rattle.dri_flip.proofs.Counts.{copies_where, copy_counted, fills_where, flip_counted}
use Rattle.dri_flip.proofs.Sets.{all_has}
use Rattle.dri_flip.proofs.counted.CountedCard.swap.Goals as goal

pub returns-in-Flipped-clause-owes : goal.returns-in-Flipped-clause-owes
returns-in-Flipped-clause-owes g c =
    let old = c.args.self.now in
    let all = fills_where (fill old.card c.args.rects.now) c.swap.result c.swap.ensures.answer c.in-Flipped.is in
    ap counted c.count_flip.ensures
    ∙ flip_counted old c.swap.new.self (touch old.card c.args.rects.now) (fill old.card c.args.rects.now) _ all
    (all_has old.card.front.width old.card.front.height (in_rects c.args.rects.now) c.requires.wide c.requires.high all) c.swap.ensures.owed (λ k. if c.owed-found.ensures k then old.copies + 1 else old.copies)

pub returns-in-Copied-clause-owes : goal.returns-in-Copied-clause-owes
returns-in-Copied-clause-owes g c =
    let old = c.args.self.now in
    let part = copies_where (fill old.card c.args.rects.now) c.swap.result c.swap.ensures.answer c.in-Copied.is in
    copy_counted old c.count_copy.new.self c.swap.new.self (touch old.card c.args.rects.now) (fill old.card c.args.rects.now) c.owed-found.result part c.owed-found.ensures c.swap.ensures.owed c.count_copy.ensures
