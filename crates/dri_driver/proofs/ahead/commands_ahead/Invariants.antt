use Rattle.std.proofs.Common.{◌≡◌, ◌+◌, drop}
use Rattle.dri_driver.specs.Needs.{count_ahead}
use Rattle.dri_driver.proofs.ahead.commands_ahead.Given as goal

abbrev pub invariant-loop-command : goal.invariant-loop-command
invariant-loop-command l = record {
  counted : l.count ≡ l.command-index;
  same : l.count + count_ahead (drop l.command-index l.commands) ≡ count_ahead l.commands;
}
