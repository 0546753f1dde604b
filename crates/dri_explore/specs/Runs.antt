-- Runs as items make them, and what may come next in one.
use Rattle.std.specs.Prelude.{Bool, true, false, List, ◌++◌}
use Rattle.std.specs.List.{filter}
use Rattle.dri_base.specs.declared.command.Item.{Item}
use Rattle.dri_base.specs.declared.command.Item.TheVariants.{Kill, Turn}
use Rattle.dri_base.specs.declared.journal.Event.{Event}
use Rattle.dri_base.specs.declared.scene.Scene.{Scene}
use Rattle.dri_core.specs.CoreRuns.{after_events}
use Rattle.dri_core.specs.Cores.{Core, opening_core}
use Rattle.dri_core.specs.Turns.{played, round}
use Rattle.dri_world.specs.Courses.{Course}

-- the item is a kill
abbrev pub is_kill : Item → Bool
is_kill (Turn a) = false
is_kill (Kill c) = true

-- a turn of each actor, and each kill of the schedule
abbrev pub choices : Scene → List Item
choices s = round s ++ filter is_kill s.turns

-- the events that the items make from the opening
abbrev pub run_by : Scene → List Item → List Event
run_by s items = played s (opening_core s) items

-- the core that they leave
abbrev pub core_by : Scene → List Item → Core
core_by s items = after_events s (opening_core s) (run_by s items)

-- the scene with these events made
abbrev pub course_of : Scene → List Item → Course
course_of s items = record { scene = s; events = run_by s items }
