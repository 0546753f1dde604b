-- No more changes are made than there are.
use Rattle.std.specs.Arc.{arc_value}
use Rattle.dri_core.proofs.Bounds.{made_bounded}
use Rattle.dri_shared.proofs.server_side.ServerSide.changes_left.Goals as goal

pub overflow_sub-result : goal.overflow_sub-result
overflow_sub-result c = rw (c.len.ensures, c.deref.ensures, c.shared.invariant.world.made)
    (made_bounded (arc_value c.shared.inside.scene) c.shared.inside.journal.items c.shared.invariant.scene c.shared.invariant.run)
