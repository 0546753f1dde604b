-- The scripts so far aren't the client's.
use Rattle.std.proofs.Common.{◌≡◌, drop}
use Rattle.dri_base.specs.Scenes.{script_in}
use Rattle.dri_draw.proofs.scripts.script_in.Given as goal

abbrev pub invariant-loop-script : goal.invariant-loop-script
invariant-loop-script l = script_in (drop l.script-index l.scripts) l.client ≡ script_in l.scripts l.client
