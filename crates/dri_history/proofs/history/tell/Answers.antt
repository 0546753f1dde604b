-- What stood there before, the deed, and what stands there after it.
use Rattle.dri_history.proofs.Followed.{not_told}
use Rattle.dri_history.proofs.Told.{not_touching, touching}
use Rattle.dri_journal.specs.Replays.{world_of}
use Rattle.dri_replay.proofs.Cards.{aligned}
use Rattle.dri_replay.proofs.Lifted.{may}
use Rattle.dri_history.proofs.history.tell.Goals as goal

pub sample-before-requires-clause-sides : goal.sample-before-requires-clause-sides
sample-before-requires-clause-sides c = aligned c.args.card.now c.args.replay.now.scene.width c.args.replay.now.scene.height c.requires.follows.sides

pub sample-before-requires-clause-column : goal.sample-before-requires-clause-column
sample-before-requires-clause-column c = rw c.requires.follows.sides.front_width c.requires.column

pub sample-before-requires-clause-row : goal.sample-before-requires-clause-row
sample-before-requires-clause-row c = rw c.requires.follows.sides.front_height c.requires.row

pub sample-after-requires-clause-sides : goal.sample-after-requires-clause-sides
sample-after-requires-clause-sides c = let got = c.in-Ok.ensures in aligned c.follow.new.card c.follow.new.replay.scene.width c.follow.new.replay.scene.height got.3.sides

pub sample-after-requires-clause-column : goal.sample-after-requires-clause-column
sample-after-requires-clause-column c = let got = c.in-Ok.ensures in rw (got.3.sides.front_width, got.1.scene) c.requires.column

pub sample-after-requires-clause-row : goal.sample-after-requires-clause-row
sample-after-requires-clause-row c = let got = c.in-Ok.ensures in rw (got.3.sides.front_height, got.1.scene) c.requires.row

pub way_of-requires : goal.way_of-requires
way_of-requires c =
    let got = c.in-Ok.ensures in
    may c.args.replay.now c.follow.new.replay c.args.entry.now c.in-Ok.deed c.client_of-client.result c.entries.ensures.in_range c.entries.ensures.run got.0 got.1 got.2 c.client_of-client.ensures

pub returns-in-Err : goal.returns-in-Err
returns-in-Err c = not_told c.args.replay.now c.follow.new.replay c.args.entry.now c.follow.new.card c.args.number c.args.x c.args.y c.in-Err.fault c.in-Err.ensures

pub returns-in_default : goal.returns-in_default
returns-in_default c =
    let got = c.in-Ok.ensures in
    (got.0, got.1, got.3, not_touching c.args.replay.now c.follow.new.replay c.args.entry.now c.in-Ok.deed c.client_of-client.result c.args.x c.args.y c.entries.ensures.in_range c.entries.ensures.run c.requires.column c.requires.row got.0 got.1 got.2 c.client_of-client.ensures c.in_default.ensures)

pub returns : goal.returns
returns c =
    let got = c.in-Ok.ensures in
    let w = world_of c.args.replay.now in
    let u = world_of c.follow.new.replay in (
      got.0,
      got.1,
      got.3,
      touching c.args.replay.now c.follow.new.replay c.args.entry.now c.in-Ok.deed c.client_of-client.result c.args.x c.args.y c.entries.ensures.in_range c.entries.ensures.run c.requires.column c.requires.row got.0 got.1 got.2 c.client_of-client.ensures
          c.args.number c.in-Some.way c.sample-before.result c.sample-after.result c.in-Some.ensures
          (c.sample-before.ensures w.back w.front c.requires.follows.held c.requires.follows.shown) (c.sample-after.ensures u.back u.front got.3.held got.3.shown),
    )
