-- Scenes with moves that were worked by hand, and their journals.
use Rattle.std.specs.Prelude.{ℕ, length, List, [], ◌∷◌, ◌++◌, pos, neg_ℤ, false}
use Rattle.dri_base.specs.declared.command.Change.TheVariants.{Map, Move, Resize, Raise}
use Rattle.dri_base.specs.declared.command.Change.{Change}
use Rattle.dri_base.specs.declared.command.Command.TheVariants.{Set, Clear, Swap, Yield}
use Rattle.dri_base.specs.declared.journal.Entry.{Entry}
use Rattle.dri_base.specs.declared.scene.Scene.{Scene}
use Rattle.dri_base.specs.declared.scene.Window.{Window}
use Rattle.dri_base.specs.declared.state.DepthFunc.TheVariants.{Less}
use Rattle.dri_base.specs.declared.state.Setting.TheVariants.{DepthFunc}
use Rattle.dri_core.specs.ExampleParts.{rgb, rgba, corner_triangle, window, script, scene, turns_of}
use Rattle.dri_meaning.specs.ExampleRuns.{first_hold}
use Rattle.dri_meaning.specs.ExampleScenes.{yielding}
use Rattle.dri_base.specs.declared.journal.Entry.TheVariants as Entry_is

-- a window of two pixels on a screen of four, changed between its client's clear and its swap
abbrev pub changed_window : List Change → Scene
changed_window changes = scene 4 1
    (window 1 (pos 0) (pos 0) 2 1 (rgb 0x11 0x11 0x11) 1 ∷ [])
    yielding
    changes (turns_of 8 1 ++ turns_of (length changes) 0)

-- it is moved by its width
abbrev pub moved_whole : Scene
moved_whole = changed_window (Move 1 (pos 2) (pos 0) ∷ [])

-- it is moved by one pixel, onto one of its own
abbrev pub moved_over_itself : Scene
moved_over_itself = changed_window (Move 1 (pos 1) (pos 0) ∷ [])

-- it is moved partly off the screen
abbrev pub moved_off : Scene
moved_off = changed_window (Move 1 (pos 3) (pos 0) ∷ [])

-- and back again
abbrev pub moved_off_and_back : Scene
moved_off_and_back = changed_window (Move 1 (pos 3) (pos 0) ∷ Move 1 (pos 0) (pos 0) ∷ [])

-- it is moved to where it is
abbrev pub moved_nowhere : Scene
moved_nowhere = changed_window (Move 1 (pos 0) (pos 0) ∷ [])

-- a move of it is refused
abbrev pub not_moved : Scene
not_moved = changed_window (Move 1 (pos 1025) (pos 0) ∷ [])

-- it is unmapped at first, moved, and then mapped
abbrev pub moved_unmapped : Scene
moved_unmapped = record (changed_window (Move 1 (pos 2) (pos 0) ∷ Map 1 ∷ [])) {
  windows = record (window 1 (pos 0) (pos 0) 2 1 (rgb 0x11 0x11 0x11) 1) { mapped = false } ∷ [];
}

-- it is moved by its width, and resized
abbrev pub moved_and_resized : ℕ → Scene
moved_and_resized width = changed_window (Move 1 (pos 2) (pos 0) ∷ Resize 1 width 1 ∷ [])

-- a window of one pixel, where another goes
abbrev pub one_pixel : List Window
one_pixel = window 2 (pos 3) (pos 0) 1 1 (rgb 0x22 0x22 0x22) 0 ∷ []

-- it is moved by its width, half of it under another window, and then raised
abbrev pub moved_and_raised : List Change → Scene
moved_and_raised later = let plain = changed_window (Move 1 (pos 2) (pos 0) ∷ later) in record plain { windows = one_pixel ++ plain.windows }

-- a window whose frame is shown is moved by one pixel
abbrev pub shown_and_moved : Scene
shown_and_moved = record moved_over_itself { clients = script 1 [] (Clear (rgb 0xff 0 0) 65535 ∷ Swap ∷ []) ∷ [] }

-- or partly off the screen and back
abbrev pub shown_off_and_back : Scene
shown_off_and_back = record moved_off_and_back { clients = shown_and_moved.clients }

-- or under another window, and then raised
abbrev pub shown_and_raised : Scene
shown_and_raised = record (moved_and_raised (Raise 1 ∷ [])) { clients = shown_and_moved.clients }

-- a window is moved by its width between a clear to depth 0 and a triangle that no such depth lets through
abbrev pub moved_with_depth : Scene
moved_with_depth = record moved_whole {
  clients = script 1 []
      (Clear (rgb 0xff 0 0) 0 ∷ Set (DepthFunc Less) ∷ Yield ∷ corner_triangle 64 (rgba 0 0 0xff 0xff) ∷ Swap ∷ []) ∷ [];
  turns = turns_of 9 1 ++ turns_of 1 0;
}

-- another window beside the client's is moved over one of its pixels
abbrev pub moved_onto : Scene
moved_onto = record (changed_window (Move 2 (pos 1) (pos 0) ∷ [])) {
  windows = window 2 (pos 2) (pos 0) 2 1 (rgb 0x22 0x22 0x22) 0 ∷ window 1 (pos 0) (pos 0) 2 1 (rgb 0x11 0x11 0x11) 1 ∷ [];
}

-- half off the screen, moved to where another window covers what came onto it
abbrev pub half_off : Scene
half_off = record (changed_window (Move 1 (pos 1) (pos 0) ∷ [])) {
  windows = window 2 (pos 1) (pos 0) 1 1 (rgb 0x22 0x22 0x22) 0 ∷ window 1 (neg_ℤ (pos 1)) (pos 0) 2 1 (rgb 0x11 0x11 0x11) 1 ∷ [];
}

-- up to the first change
abbrev pub until_change : List Entry
until_change = first_hold 1 1 ++ Entry_is.Run 1 1 ∷ Entry_is.Run 1 2 ∷ Entry_is.Leave 1 ∷ Entry_is.Change 1 ∷ []

-- and up to the second
abbrev pub until_second : List Entry
until_second = until_change ++ Entry_is.Change 2 ∷ []

-- the stamp is old after one change
abbrev pub moved_journal : List Entry
moved_journal = until_change ++ first_hold 1 1 ++ Entry_is.Run 1 3 ∷ Entry_is.Leave 1 ∷ []

-- and after two
abbrev pub moved_again_journal : List Entry
moved_again_journal = until_second ++ first_hold 1 1 ++ Entry_is.Run 1 3 ∷ Entry_is.Leave 1 ∷ []

-- the stamp stood at one change
abbrev pub unmoved_journal : List Entry
unmoved_journal = until_change ++ Entry_is.Kernel 1 1 ∷ Entry_is.Run 1 3 ∷ Entry_is.Leave 1 ∷ []

-- with a setting before the yield, and a triangle before the swap
abbrev pub moved_with_depth_journal : List Entry
moved_with_depth_journal =
    first_hold 1 1 ++ Entry_is.Run 1 1 ∷ Entry_is.Run 1 2 ∷ Entry_is.Run 1 3 ∷ Entry_is.Leave 1 ∷ Entry_is.Change 1 ∷
    (first_hold 1 1 ++ Entry_is.Emit 1 127 ∷ Entry_is.Run 1 4 ∷ Entry_is.Run 1 5 ∷ Entry_is.Leave 1 ∷ [])
