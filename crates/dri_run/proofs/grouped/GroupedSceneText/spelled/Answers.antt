-- The groups stand behind the scene's part.
use Rattle.std.proofs.Common.{Err, arith, subst, sym}
use Rattle.dri_run.proofs.Behind.{part_fits}
use Rattle.dri_run.proofs.Groups.{both_read, groups_refused, lines_fit, scene_refused}
use Rattle.dri_run.specs.GroupedRun.{grouped_of}
use Rattle.dri_run.specs.Readings.{Spells}
use Rattle.dri_run.proofs.grouped.GroupedSceneText.spelled.Goals as goal

pub returns-in-Err-clause-value : goal.returns-in-Err-clause-value
returns-in-Err-clause-value c = subst (λ status. Spells (Err status) (grouped_of c.args.bytes.now)) (sym c.refusal.ensures) (scene_refused c.args.bytes.now c.in-Err.fault c.in-Err.ensures.value)

pub split_at-requires : goal.split_at-requires
split_at-requires c = (part_fits c.args.bytes.now _ _ c.in-Ok.ensures.value).within

pub read_groups-requires : goal.read_groups-requires
read_groups-requires c = lines_fit c.args.bytes.now c.split_at.result.1.now c.in-Ok.begun c.requires c.in-Ok.ensures.value c.split_at.ensures.back

pub returns-in-Ok-read_groups-clause-value : goal.returns-in-Ok-read_groups-clause-value
returns-in-Ok-read_groups-clause-value c = both_read c.args.bytes.now c.split_at.result.1.now c.in-Ok.begun c.in-Ok-read_groups.groups c.in-Ok.ensures.value c.split_at.ensures.back c.in-Ok-read_groups.ensures.gives

pub returns-in-Err-read_groups-clause-value : goal.returns-in-Err-read_groups-clause-value
returns-in-Err-read_groups-clause-value c =
    subst (λ status. Spells (Err status) (grouped_of c.args.bytes.now)) (sym c.refusal_of_groups.ensures)
    (groups_refused c.args.bytes.now c.split_at.result.1.now c.in-Ok.begun c.in-Err-read_groups.fault c.in-Ok.ensures.value c.split_at.ensures.back c.in-Err-read_groups.ensures.gives)

pub overflow_add-part : goal.overflow_add-part
overflow_add-part c = let part = part_fits c.args.bytes.now _ _ c.in-Ok.ensures.value in omega (arith, part.within, part.short, c.requires)
