-- One more frame at each turn.
use Rattle.dri_scene.specs.Generator.{first_settings, frame_commands}
use Rattle.dri_scene.proofs.Generated.{one_more_list}
use Rattle.dri_scene.proofs.generator.script_commands.Goals as goal

pub loop-k-preserved : goal.loop-k-preserved
loop-k-preserved c = one_more_list (frame_commands c.args.c) c.loop-k.k first_settings c.loop-k.commands c.push_frame.new.commands c.loop-k.invariant c.in_ok-push_frame.ensures
