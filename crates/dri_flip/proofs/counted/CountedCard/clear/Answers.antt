-- The card is cleared, and a copy that was owed is counted.
use Rattle.std.proofs.Common.{◌∙◌, not}
use Rattle.std.specs.Prelude.{◌&&◌}
use Rattle.dri_flip.specs.Calls.{fill, touch}
use Rattle.dri_flip.proofs.Counts.{clear_counted}
use Rattle.dri_flip.proofs.counted.CountedCard.clear.Goals as goal

pub returns-clause-owes : goal.returns-clause-owes
returns-clause-owes g c =
    clear_counted c.args.self.now c.count_copy.new.self c.clear.new.self (touch c.args.self.now.card c.args.rects.now) (fill c.args.self.now.card c.args.rects.now) c.is_wanted.result
    (c.is_wanted.ensures ∙ (λ k. c.owed-owed.ensures k && not (c.covered_by-whole.ensures.fill k))) c.clear.ensures.owed c.count_copy.ensures
