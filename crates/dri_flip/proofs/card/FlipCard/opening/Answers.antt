-- The card is behind the front of the scene's opening.
use Rattle.std.proofs.lemmas.Result.{IfOk-weaker}
use Rattle.dri_model.specs.Stacks.{ground_colour, top}
use Rattle.dri_flip.proofs.Meant.{fresh_front}
use Rattle.dri_flip.proofs.card.FlipCard.opening.Goals as goal

pub returns : goal.returns
returns c =
    let front = c.in_ok-front.front in
    let made = c.in_ok-front.ensures in
    let s = c.args.scene.now in
    IfOk-weaker c.behind.result _ _ (λ card fresh. fresh_front front s.width s.height (λ x y. ground_colour s.root (top s.windows x y)) card made.width made.height (rw (made.width, made.height) at made.shown) fresh) c.behind.ensures
