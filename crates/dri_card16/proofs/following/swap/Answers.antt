-- In a client's clips.
use Rattle.dri_card16.proofs.Made16.{swap_made}
use Rattle.dri_replay.proofs.Cards.{clips_stay, screen_of}
use Rattle.dri_card16.proofs.following.swap.Goals as goal

pub swap_clips-requires-clause-screen : goal.swap_clips-requires-clause-screen
swap_clips-requires-clause-screen c = let s = c.args.replay.now.scene in let card = c.entries.ensures.in_range.card in screen_of c.args.card.now s.width s.height c.requires.sides card.wide.1 card.high.1

pub swap_clips-requires-clause-within : goal.swap_clips-requires-clause-within
swap_clips-requires-clause-within c = clips_stay c.args.replay.now c.args.client c.clips.result.now c.args.card.now c.clips.ensures c.requires.sides

pub returns : goal.returns
returns c = swap_made c.args.replay.now c.args.client c.clips.result.now c.args.card.now c.swap_clips.new.card c.clips.ensures c.swap_clips.ensures.shown c.swap_clips.ensures.others c.swap_clips.ensures.sides
