-- In a client's clips.
use Rattle.dri_card16.proofs.Made16.{clear_made}
use Rattle.dri_replay.proofs.Cards.{clips_stay, screen_of}
use Rattle.dri_card16.proofs.following.clear.Goals as goal

pub clear_clips-requires-clause-screen : goal.clear_clips-requires-clause-screen
clear_clips-requires-clause-screen c = let s = c.args.replay.now.scene in let card = c.entries.ensures.in_range.card in screen_of c.args.card.now s.width s.height c.requires.sides card.wide.1 card.high.1

pub clear_clips-requires-clause-within : goal.clear_clips-requires-clause-within
clear_clips-requires-clause-within c = clips_stay c.args.replay.now c.args.client c.clips.result.now c.args.card.now c.clips.ensures c.requires.sides

pub returns : goal.returns
returns c = clear_made c.args.replay.now c.args.client c.clips.result.now c.args.card.now c.clear_clips.new.card c.clips.ensures c.args.colour c.args.depth c.clear_clips.ensures.held c.clear_clips.ensures.others c.clear_clips.ensures.sides
