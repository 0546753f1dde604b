-- The opening.
use Rattle.std.proofs.Common.{arith}
use Rattle.std.specs.Arc.{arc_value}
use Rattle.std.proofs.lemmas.List.Elements.{All-nil}
use Rattle.dri_ring.specs.Cards.{IsReady}
use Rattle.dri_ring.proofs.Ran.{opened}
use Rattle.dri_ring.proofs.engine.Engine.new.Goals as goal

pub invariant_of-result : goal.invariant_of-result
invariant_of-result c = record {
  scene = c.requires.scene;
  card = opened (arc_value c.args.scene) c.in_ok-card.card (rw c.deref.ensures at c.in_ok-card.ensures);
  room = c.requires.room;
  few = rw c.in_ok-pending.ensures.items (omega arith);
  kept = c.in_ok-pending.ensures.capacity;
  ready = rw c.in_ok-pending.ensures.items (All-nil (IsReady (arc_value c.args.scene)));
}
