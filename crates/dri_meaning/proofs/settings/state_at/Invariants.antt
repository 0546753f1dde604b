-- What is left before the place leads to its state.
use Rattle.std.proofs.Common.{◌≡◌, drop}
use Rattle.dri_base.specs.States.{state_at, states}
use Rattle.dri_meaning.proofs.settings.state_at.Given as goal

abbrev pub invariant-loop-command : goal.invariant-loop-command
invariant-loop-command l = states l.state (drop l.command-index l.before) ≡ state_at l.commands l.fn.place
