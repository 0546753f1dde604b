use Rattle.std.proofs.Common.{◌≤◌}
use Rattle.dri_shared.specs.Sides.{value_at}
use Rattle.dri_driver.specs.Acts.{IsActing}
use Rattle.dri_driver.specs.Needs.{entries_left}
use Rattle.dri_threads.specs.Sessions.{WorksIn}
use Rattle.dri_threads.proofs.session.act_on.Given as goal

abbrev pub invariant-loop : goal.invariant-loop
invariant-loop l = record {
  works : WorksIn l.initial.side l.side l.initial.client l.client;
  acting : IsActing l.client;
  room : entries_left l.client ≤ (value_at l.side).spare;
}

abbrev pub decreases-loop : goal.decreases-loop
decreases-loop l = entries_left l.client
