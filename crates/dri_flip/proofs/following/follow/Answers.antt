-- The entry is taken, and made on the card.
use Rattle.std.proofs.Common.{arith}
use Rattle.dri_flip.proofs.Followed.{few_copies, few_flips, follows, not_followed, sides}
use Rattle.dri_replay.proofs.Lifted.{may}
use Rattle.dri_flip.proofs.following.follow.Goals as goal

pub returns-in-Err : goal.returns-in-Err
returns-in-Err g c = not_followed (Unit {0}) c.args.replay.now c.step.new.self c.args.entry.now c.args.counted.now c.in-Err.fault c.in-Err.ensures

pub make-requires-clause-may : goal.make-requires-clause-may
make-requires-clause-may g c =
    let got = c.in-Ok.ensures in
    may c.args.replay.now c.step.new.self c.args.entry.now c.in-Ok.deed c.client_of.result c.entries.ensures.in_range c.entries.ensures.run got.0 got.1 got.2 c.client_of.ensures

pub make-requires-clause-sides : goal.make-requires-clause-sides
make-requires-clause-sides g c =
    let got = c.in-Ok.ensures in
    sides c.args.replay.now c.step.new.self c.args.entry.now c.in-Ok.deed c.client_of.result c.entries.ensures.in_range c.entries.ensures.run got.0 got.1 got.2 c.client_of.ensures c.args.counted.now c.requires.after

pub make-requires-clause-few_flips : goal.make-requires-clause-few_flips
make-requires-clause-few_flips g c = omega (arith, few_flips c.args.replay.now c.args.counted.now c.requires.after, c.requires.few)

pub make-requires-clause-few : goal.make-requires-clause-few
make-requires-clause-few g c = omega (arith, few_copies c.args.replay.now c.args.counted.now c.requires.after, c.requires.few)

pub returns-in-Ok-make : goal.returns-in-Ok-make
returns-in-Ok-make g c =
    let got = c.in-Ok.ensures in
    (got.0, got.1, follows c.args.replay.now c.step.new.self c.args.entry.now c.in-Ok.deed c.client_of.result c.entries.ensures.in_range c.entries.ensures.run got.0 got.1 got.2 c.client_of.ensures c.args.counted.now c.make.new.counted c.requires.after c.in-Ok-make.ensures)
