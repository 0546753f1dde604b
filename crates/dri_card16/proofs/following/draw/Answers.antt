-- A triangle is drawn in a client's window.
use Rattle.dri_card16.proofs.Made16.{draw_made}
use Rattle.dri_replay.proofs.Cards.{clips_stay, loaded_sides, screen_of}
use Rattle.dri_card16.proofs.following.draw.Goals as goal

pub draw_clips-requires-clause-screen : goal.draw_clips-requires-clause-screen
draw_clips-requires-clause-screen c =
    let s = c.args.replay.now.scene in let card = c.entries.ensures.in_range.card in
    screen_of c.load.new.card s.width s.height (loaded_sides c.args.card.now c.load.new.card c.load.ensures.others s.width s.height c.requires.sides) card.wide.1 card.high.1

pub draw_clips-requires-clause-within : goal.draw_clips-requires-clause-within
draw_clips-requires-clause-within c =
    let s = c.args.replay.now.scene in
    clips_stay c.args.replay.now c.args.client c.clips.result.now c.load.new.card c.clips.ensures (loaded_sides c.args.card.now c.load.new.card c.load.ensures.others s.width s.height c.requires.sides)

pub returns : goal.returns
returns c = draw_made c.args.replay.now c.args.client c.clips.result.now c.args.card.now c.draw_clips.new.card c.clips.ensures c.load.new.card c.origin.result c.args.triangle.now c.origin.ensures.corner c.load.ensures.others c.load.ensures.len c.load.ensures.draws c.draw_clips.ensures.held c.draw_clips.ensures.others c.draw_clips.ensures.sides
