-- The scene ran in its groups, without its schedule.
use Rattle.std.proofs.Common.{◌∙◌, subst, sym}
use Rattle.dri_base.specs.declared.scene.Scene.{Scene}
use Rattle.dri_many.specs.Groupings.{AreGroupings}
use Rattle.dri_run.proofs.Groups.{grouped_gives, plain_groups}
use Rattle.dri_run.proofs.grouped.InGroupsRunning.output_of.Goals as goal

pub run_groups-requires-clause-accepted : goal.run_groups-requires-clause-accepted
run_groups-requires-clause-accepted c =
    let grouped = c.args.input in
    subst (λ (s : Scene). AreGroupings s grouped.groups) (sym (c.in_ok-scene.ensures.ok ∙ c.plain.ensures)) (plain_groups grouped.scene grouped.groups c.requires.known)

pub returns : goal.returns
returns c =
    let w = c.in_ok-world.world in
    let ran = c.in_ok-world.ensures in
    let front = c.front.result.now in
    let kept = c.events-events.ensures in
    grouped_gives c.args.input w.scene w.events c.journal.result.now front.width front.height front.pixels c.in_ok-output.output.picture c.in_ok-output.output.notes
    (ran.scene ∙ c.in_ok-scene.ensures.ok ∙ c.plain.ensures)
    record {
      run = ran.run;
      rounds = ran.rounds;
      segments = ran.segments;
      holds = record { confined = kept.confined; own = kept.own; solo_left = kept.solo; whole = ran.whole };
    }
    c.front.ensures.width c.front.ensures.height c.front.ensures.pixels c.in_ok-output.ensures.picture c.journal.ensures.same c.in_ok-output.ensures.notes
