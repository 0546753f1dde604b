use Rattle.std.proofs.Common.{ap, ◌∙◌}
use Rattle.dri_core.specs.Worlds.{opening}
use Rattle.dri_core.specs.Runs.{after, since}
use Rattle.dri_core.proofs.Laws.{foreign_entries, after_entries-append}
use Rattle.dri_core.proofs.hold_runs.foreign.Goals as goal

pub returns : goal.returns
returns c =
    ap (λ j. (after c.args.scene.now j).client c.args.client) c.requires.begins ∙
    ap (λ w. w.client c.args.client) (after_entries-append c.args.scene.now (opening c.args.scene.now) c.args.seen.now (since c.args.seen.now c.args.now.now)) ∙
    foreign_entries c.args.scene.now (after c.args.scene.now c.args.seen.now) (since c.args.seen.now c.args.now.now) c.args.client c.requires.others
