-- Scenes that were worked by hand.
use Rattle.std.specs.Prelude.{[], ◌∷◌}
use Rattle.dri_base.specs.declared.command.Command.TheVariants.{Clear, Swap}
use Rattle.dri_base.specs.declared.scene.Scene.{Scene}
use Rattle.dri_core.specs.ExampleParts.{rgb, script}
use Rattle.dri_meaning.specs.ExampleScenes.{two_frames}

-- one frame that is swapped twice, in a window that fills the screen
abbrev pub swapped_twice : Scene
swapped_twice = record two_frames { clients = script 1 [] (Clear (rgb 0xff 0 0) 65535 ∷ Swap ∷ Swap ∷ []) ∷ [] }
