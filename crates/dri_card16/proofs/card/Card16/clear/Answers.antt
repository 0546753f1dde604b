-- The target is cleared.
use Rattle.std.proofs.Common.{subst, sym}
use Rattle.dri_card.specs.Contents.{Holds}
use Rattle.dri_card16.proofs.card.Card16.clear.Goals as goal

pub returns-clause-ok : goal.returns-clause-ok
returns-clause-ok g c = λ f holds. c.clear.ensures.pairs f (subst (λ v. Holds v f) (sym c.self.view_is) holds)
