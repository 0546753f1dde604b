-- Scenes that were worked by hand.
use Rattle.std.specs.Prelude.{List, [], map, pos, ℕ, ◌++◌, ◌+◌, ◌∷◌}
use Rattle.dri_base.specs.declared.command.Command.TheVariants.{Clear, Set, Swap, Triangle}
use Rattle.dri_base.specs.declared.journal.Entry.TheVariants.{Emit, Info, Kernel, Leave, Run, Stale}
use Rattle.dri_base.specs.declared.journal.Entry.{Entry}
use Rattle.dri_base.specs.declared.scene.ClientScript.{ClientScript}
use Rattle.dri_base.specs.declared.scene.Scene.{Scene}
use Rattle.dri_base.specs.declared.state.Blend.TheVariants.{Add}
use Rattle.dri_base.specs.declared.state.Setting.TheVariants.{Blend}
use Rattle.dri_base.specs.declared.state.Setting.{Setting}
use Rattle.dri_core.specs.ExampleParts.{corner, corner_triangle, rgb, rgba, scene, script, window}

-- a screen of one pixel, with a root that isn't a word's colour
abbrev pub one_pixel : Scene
one_pixel = record (scene 1 1 [] [] [] []) { root = rgb 0 0 0x40 }

-- a client that adds 1 to each channel of a clear's 7, 3 and 7
abbrev pub adding : ClientScript
adding = script 1 [] (Clear (rgb 7 3 7) 65535 ∷ Set (Blend Add) ∷ corner_triangle 64 (rgba 1 1 1 0xff) ∷ Swap ∷ [])

-- on a window of one pixel
abbrev pub added : Scene
added = scene 1 1 (window 1 (pos 0) (pos 0) 1 1 (rgb 0 0 0) 1 ∷ []) (adding ∷ []) [] []

-- its journal
abbrev pub added_journal : List Entry
added_journal = Kernel 1 1 ∷ Stale 1 ∷ Leave 1 ∷ Info 1 ∷ Kernel 1 1 ∷ Run 1 1 ∷ Run 1 2 ∷ Emit 1 127 ∷ Run 1 3 ∷ Run 1 4 ∷ Leave 1 ∷ []

-- a line from red to green, four pixels across and so many sixteenths down, drawn on black with these settings
abbrev pub red_to_green : List Setting → ℕ → ClientScript
red_to_green settings down =
    let end = corner 64 (8 + down) (rgba 0 0xff 0 0xff) in
    script 1 [] (map Set settings ++ Clear (rgb 0 0 0) 65535 ∷ Triangle (record { a = corner 0 8 (rgba 0xff 0 0 0xff); b = end; c = end }) ∷ Swap ∷ [])
