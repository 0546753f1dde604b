-- What a new stack of windows gives: stamps, and what the planes have.
use Rattle.std.specs.Prelude.{Bool, List, None, Option, Some, slice_get, ℕ, ◌+◌}
use Rattle.dri_base.specs.declared.colour.Pixel.{Pixel}
use Rattle.dri_base.specs.declared.colour.Rgb.{Rgb}
use Rattle.dri_base.specs.declared.command.Change.{Change}
use Rattle.dri_base.specs.declared.scene.Scene.{Scene}
use Rattle.dri_base.specs.declared.scene.Window.{Window}
use Rattle.dri_core.specs.Worlds.{World}
use Rattle.dri_model.specs.Stacks.{carried, carried_from, is_touched, moved_by, painted, restamped, stack_after, touches}

-- the stack after a change, where there is one
abbrev pub change_stack : List Window → Option Change → List Window
change_stack ws None = ws
change_stack ws (Some change) = stack_after change ws

-- a new stack touches the window: its clips or its origin differ afterwards
abbrev pub touched_by : Scene → World → List Window → ℕ → Bool
touched_by s w new = is_touched s.width s.height w.stack new

-- the stamps after a new stack: in rising window number, each touched window gets one above the counter before
abbrev pub stamps_after : Scene → World → List Window → ℕ → ℕ
stamps_after s w new = restamped s.width s.height w.stack new w.counter w.stamps

-- the counter after a new stack: it rises by the number of touched windows
abbrev pub counter_after : Scene → World → List Window → ℕ
counter_after s w new = w.counter + touches s.width s.height w.stack new

-- front after a new stack: carried with the moved window, if there is one, and painted elsewhere
abbrev pub front_restacked : Scene → World → Option ℕ → List Window → ℕ → ℕ → Rgb
front_restacked s w moved new x y = carried (carried_from s.width s.height w.stack new moved x y) w.front (painted s.root moved w.stack new w.front x y)

-- back, with its depth, after a new stack: carried with the moved window, if there is one
abbrev pub back_restacked : Scene → World → Option ℕ → List Window → ℕ → ℕ → Pixel
back_restacked s w moved new x y = carried (carried_from s.width s.height w.stack new moved x y) w.back (w.back x y)

-- the world with a new stack, in which a window may be moved
abbrev pub restacked : Scene → World → Option ℕ → List Window → World
restacked s w moved new = record w {
  stack = new;
  stamps = stamps_after s w new;
  counter = counter_after s w new;
  front = front_restacked s w moved new;
  back = back_restacked s w moved new;
}

-- the window that a change moves, where there is one
abbrev pub change_moved : List Window → Option Change → Option ℕ
change_moved ws None = None
change_moved ws (Some change) = moved_by change ws

-- the window that the next change moves
abbrev pub next_moved : Scene → World → Option ℕ
next_moved s w = change_moved w.stack (slice_get s.changes w.made)

-- the stack after the next change
abbrev pub next_stack : Scene → World → List Window
next_stack s w = change_stack w.stack (slice_get s.changes w.made)
