-- The client is one of a scene in range.
use Rattle.dri_meaning.proofs.ScriptRanges.{script_in_range}
use Rattle.dri_world_tests.proofs.meaning.script.Goals as goal

pub returns : goal.returns
returns c = script_in_range c.args.scene.now 0 _ c.requires.range c.get.ensures
