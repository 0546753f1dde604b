-- The entry is taken, waited for, and put or made.
use Rattle.std.proofs.Common.{arith}
use Rattle.dri_journal.specs.Replays.{world_of}
use Rattle.dri_ring.proofs.Counting.{finds_idle}
use Rattle.dri_ring.proofs.Followed.{few_idles, few_puts, follows, scene_kept}
use Rattle.dri_replay.proofs.Lifted.{may}
use Rattle.dri_ring.proofs.following.follow.Goals as goal

pub wait_for-requires : goal.wait_for-requires
wait_for-requires c = record { few = omega (arith, few_idles c.args.replay.now c.args.ring.now.engine.room c.args.ring.now c.requires.after, c.requires.few) }

pub make-requires-clause-may : goal.make-requires-clause-may
make-requires-clause-may c =
    let got = c.in-Ok.ensures in
    may c.args.replay.now c.step.new.self c.args.entry.now c.in-Ok.deed c.client_of.result c.entries.ensures.in_range c.entries.ensures.run got.0 got.1 got.2 c.client_of.ensures

pub make-requires-clause-idle : goal.make-requires-clause-idle
make-requires-clause-idle c =
    let got = c.in-Ok.ensures in
    finds_idle c.args.replay.now.scene (world_of c.args.replay.now) c.args.ring.now.engine.room c.args.entry.now c.in-Ok.deed c.wait_for.new.ring.engine got.2 c.wait_for.ensures.empty

pub make-requires-clause-scene : goal.make-requires-clause-scene
make-requires-clause-scene c =
    let got = c.in-Ok.ensures in
    scene_kept c.args.replay.now c.step.new.self c.args.entry.now c.in-Ok.deed c.client_of.result c.entries.ensures.in_range c.entries.ensures.run got.0 got.1 got.2 c.client_of.ensures
    c.args.ring.now.engine.room c.args.ring.now c.wait_for.new.ring c.requires.after c.wait_for.ensures.others

pub make-requires-clause-few : goal.make-requires-clause-few
make-requires-clause-few c = omega (arith, few_puts c.args.replay.now c.args.ring.now.engine.room c.args.ring.now c.wait_for.new.ring c.args.entry.now c.requires.after c.wait_for.ensures.counts, c.requires.few)

pub returns-in-Ok-make : goal.returns-in-Ok-make
returns-in-Ok-make c =
    let got = c.in-Ok.ensures in (
      got.0,
      got.1,
      follows c.args.replay.now c.step.new.self c.args.entry.now c.in-Ok.deed c.client_of.result c.entries.ensures.in_range c.entries.ensures.run got.0 got.1 got.2 c.client_of.ensures
          c.args.ring.now.engine.room c.args.ring.now c.wait_for.new.ring c.make.new.ring c.requires.after c.wait_for.ensures.others c.wait_for.ensures.settled c.wait_for.ensures.counts c.in-Ok-make.ensures,
    )
