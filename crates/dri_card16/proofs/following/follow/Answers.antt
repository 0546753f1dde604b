-- The entry is taken, and made on the card.
use Rattle.dri_card16.proofs.Followed16.{follows, not_followed, sides}
use Rattle.dri_replay.proofs.Lifted.{may}
use Rattle.dri_card16.proofs.following.follow.Goals as goal

pub returns-in-Err : goal.returns-in-Err
returns-in-Err c = not_followed (Unit {0}) c.args.replay.now c.step.new.self c.args.entry.now c.args.card.now c.in-Err.fault c.in-Err.ensures

pub make-requires-clause-may : goal.make-requires-clause-may
make-requires-clause-may c =
    let got = c.in-Ok.ensures in
    may c.args.replay.now c.step.new.self c.args.entry.now c.in-Ok.deed c.client_of.result c.entries.ensures.in_range c.entries.ensures.run got.0 got.1 got.2 c.client_of.ensures

pub make-requires-clause-sides : goal.make-requires-clause-sides
make-requires-clause-sides c =
    let got = c.in-Ok.ensures in
    sides c.args.replay.now c.step.new.self c.args.entry.now c.in-Ok.deed c.client_of.result c.entries.ensures.in_range c.entries.ensures.run got.0 got.1 got.2 c.client_of.ensures c.args.card.now c.requires

pub make-requires-clause-bytes : goal.make-requires-clause-bytes
make-requires-clause-bytes c = let got = c.in-Ok.ensures in rw got.1.scene c.requires.bytes

pub returns : goal.returns
returns c =
    let got = c.in-Ok.ensures in
    (got.0, got.1, follows c.args.replay.now c.step.new.self c.args.entry.now c.in-Ok.deed c.client_of.result c.entries.ensures.in_range c.entries.ensures.run got.0 got.1 got.2 c.client_of.ensures c.args.card.now c.make.new.card c.requires c.make.ensures)
