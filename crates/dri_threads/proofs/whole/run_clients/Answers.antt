use Rattle.std.proofs.Common.{◌∙◌, ◌≡◌, subst}
use Rattle.std.specs.Arc.{arc_value}
use Rattle.dri_base.specs.declared.scene.Scene.{Scene}
use Rattle.dri_core.specs.Frames.{Own, SoloLeft}
use Rattle.dri_core.specs.Runs.{HoldRun}
use Rattle.dri_threads.proofs.Wholes.{whole_end}
use Rattle.dri_threads.proofs.whole.run_clients.Goals as goal

pub close-shared-requires-clause-own : goal.close-shared-requires-clause-own
close-shared-requires-clause-own g c = λ k p at. (c.run_actors-passes.ensures.served.each k p at).of

pub returns-clause-own : goal.returns-clause-own
returns-clause-own g c =
    let base : c.close-shared.result.scene ≡ arc_value c.args.scene.now = c.close-shared.ensures.base ∙ c.in_ok-hw.ensures.base in
    subst (λ (s : Scene). Own s c.close-shared.result.journal) base c.journal-journal.ensures.own

pub returns-clause-solo : goal.returns-clause-solo
returns-clause-solo g c =
    let base : c.close-shared.result.scene ≡ arc_value c.args.scene.now = c.close-shared.ensures.base ∙ c.in_ok-hw.ensures.base in
    subst (λ (s : Scene). SoloLeft s c.close-shared.result.journal) base c.journal-journal.ensures.solo

pub returns-clause-whole : goal.returns-clause-whole
returns-clause-whole g c = λ short.
    let s = arc_value c.args.scene.now in
    let base : c.close-shared.result.scene ≡ s = c.close-shared.ensures.base ∙ c.in_ok-hw.ensures.base in
    let run = subst (λ (t : Scene). HoldRun t c.close-shared.result.journal) base c.journal-journal.ensures.run in
    whole_end s _ _ _ _ _ c.requires c.run_actors-passes.ensures.served short c.in_ok-hw.ensures.enough c.close-shared.ensures.entries run
