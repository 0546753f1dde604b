use Rattle.std.proofs.Common.{◌≡◌, ◌≤◌, ◌-◌, length}
use Rattle.dri_core.specs.Runs.{after}
use Rattle.dri_hwlock.specs.Tokens.{pass_token, IsSuccessor}
use Rattle.dri_threads.proofs.actor.run_server.Given as goal

abbrev pub invariant-loop-made : goal.invariant-loop-made
invariant-loop-made g l =
    IsSuccessor (pass_token l.fn.pass) (pass_token l.pass) × ((after l.fn.stage.scene.now (pass_token l.pass).seen).made ≡ l.made) × (l.made ≤ length l.fn.stage.scene.now.changes)

abbrev pub decreases-loop-made : goal.decreases-loop-made
decreases-loop-made g l = length l.fn.stage.scene.now.changes - l.made
