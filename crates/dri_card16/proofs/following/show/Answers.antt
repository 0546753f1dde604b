-- What a new stack leaves.
use Rattle.dri_card16.proofs.Made16.{show_made}
use Rattle.dri_replay.proofs.Cards.{screen_of}
use Rattle.dri_card16.proofs.following.show.Goals as goal

pub show-requires-clause-screen : goal.show-requires-clause-screen
show-requires-clause-screen c = let s = c.args.replay.now.scene in let card = c.entries.ensures.in_range.card in screen_of c.args.card.now s.width s.height c.requires.sides card.wide.1 card.high.1

pub show-requires-clause-can : goal.show-requires-clause-can
show-requires-clause-can c = rw (c.requires.sides.front_width, c.requires.sides.front_height) c.requires.can

pub returns : goal.returns
returns c = show_made c.args.replay.now c.args.client c.args.touched.now c.args.card.now c.show.new.card c.show.ensures.shown c.show.ensures.held c.show.ensures.others c.show.ensures.sides
