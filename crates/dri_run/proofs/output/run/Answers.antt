-- The schedule, then rounds until nothing is left, and what holds of each world's events.
use Rattle.std.proofs.Common.{◌≡◌, ap, []}
use Rattle.dri_run.proofs.Schedules.{turns_of}
use Rattle.dri_run.proofs.output.run.Goals as goal

pub returns-clause-run : goal.returns-clause-run
returns-clause-run c =
    let none : c.in_ok-world.world.events ≡ [] = ap (λ w. w.events) c.in_ok-world.ensures in
    record {
      turns = turns_of c.in_ok-world.world c.run_schedule.new.self c.finish.new.self none c.in_ok-run_schedule.ensures.played c.in_ok-finish.ensures.played;
      holds = record {
        confined = c.events-events.ensures.confined;
        own = c.events-events.ensures.own;
        solo_left = c.events-events.ensures.solo;
        whole = c.in_ok-finish.ensures.whole;
      };
    }
