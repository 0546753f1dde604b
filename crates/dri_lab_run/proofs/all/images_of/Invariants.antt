-- The images so far.
use Rattle.std.proofs.Common.{[], take}
use Rattle.std.specs.List.{flat_map}
use Rattle.dri_ppm.specs.Ppm.{ppm}
use Rattle.dri_scene.specs.Texts.{Adds}
use Rattle.dri_lab_run.proofs.all.images_of.Given as goal

abbrev pub invariant-loop-screen : goal.invariant-loop-screen
invariant-loop-screen l = Adds [] (flat_map (ppm l.scene.width l.scene.height) (take l.screen-index l.screens)) l.images.items
