use Rattle.std.proofs.Common.{◌≡◌, [], rules}
use Rattle.std.specs.Arc.{arc_value}
use Rattle.dri_world.proofs.Held.{held_open}
use Rattle.dri_world.proofs.world.World.new.Goals as goal

pub invariant_of-result : goal.invariant_of-result
invariant_of-result c =
    let scene : c.in_ok-shared.shared.scene ≡ arc_value c.args.scene = search rules in
    let none : c.new-3.result.items ≡ [] = search rules in
    rw none (held_open _ _ _ c.requires scene c.in_ok-shared.ensures.journal c.left_by.ensures c.new-2.ensures c.in_ok-clients.ensures)
