-- The line tells the core after the item.
use Rattle.std.proofs.Common.{ap}
use Rattle.dri_core.specs.Turns.{item_event}
use Rattle.dri_scene.proofs.Joins.{adds_same}
use Rattle.dri_world.specs.Courses.{core_of}
use Rattle.dri_lab_run.proofs.Items.{core_one}
use Rattle.dri_lab_run.specs.EventLines.{line_of_item}
use Rattle.dri_lab_run.proofs.events.take_item.Goals as goal

pub returns-clause-line : goal.returns-clause-line
returns-clause-line c =
    let old = c.args.world.now in
    let made = item_event old.scene (core_of old) c.args.item in
    adds_same (c.in_ok-push_item_line.ensures made c.in_ok-made.ensures.told) (ap (line_of_item c.args.item made) (core_one old c.take.new.self made c.in_ok-made.ensures.made))
