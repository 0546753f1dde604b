-- The ring of the opening, and the two ways to say which entry is named.
use Rattle.std.proofs.Common.{subst}
use Rattle.std.specs.Arc.{arc_value}
use Rattle.dri_ring.specs.Replays.{Replays}
use Rattle.dri_ring.proofs.Followed.{names_bad, never_bad, opened}
use Rattle.dri_ring.proofs.replay.replay_ring.Goals as goal

pub drawn-requires-clause-opening : goal.drawn-requires-clause-opening
drawn-requires-clause-opening c = rw c.deref.ensures (opened (arc_value c.args.scene.now) c.args.room c.in_ok-ring.ring c.in_ok-ring.ensures.engine c.in_ok-ring.ensures.counts)

pub returns-clause-replays : goal.returns-clause-replays
returns-clause-replays c = subst (λ n. Replays (arc_value c.args.scene.now) c.args.entries.now n c.drawn.result) c.in_ok-ring.ensures.engine.room (rw c.deref.ensures at c.drawn.ensures)

pub returns-clause-refuses : goal.returns-clause-refuses
returns-clause-refuses c entry is = names_bad (arc_value c.args.scene.now) c.args.entries.now c.in_ok-ring.ring.engine.room c.drawn.result entry (rw c.deref.ensures at c.drawn.ensures) is

pub returns-clause-takes : goal.returns-clause-takes
returns-clause-takes c run entry is = never_bad (arc_value c.args.scene.now) c.args.entries.now c.in_ok-ring.ring.engine.room c.drawn.result entry (rw c.deref.ensures at c.drawn.ensures) run is
