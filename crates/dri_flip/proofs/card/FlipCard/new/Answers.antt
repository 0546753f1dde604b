-- The card is behind a front of one colour.
use Rattle.std.proofs.lemmas.Result.{IfOk-weaker}
use Rattle.dri_flip.proofs.Meant.{fresh_front}
use Rattle.dri_flip.proofs.card.FlipCard.new.Goals as goal

pub returns : goal.returns
returns c =
    let front = c.in_ok-front.front in
    let made = c.in_ok-front.ensures in
    IfOk-weaker c.behind.result _ _ (λ card fresh. fresh_front front c.args.width c.args.height (λ x y. c.args.colour) card made.width made.height made.pixels fresh) c.behind.ensures
