use Rattle.std.proofs.lemmas.Result.{IfOk-weaker}
use Rattle.dri_clips.specs.Areas.{names}
use Rattle.dri_clips.proofs.Areas.{both_named}
use Rattle.dri_clips.proofs.area.area_of.Goals as goal

pub returns-clause-region : goal.returns-clause-region
returns-clause-region g c = IfOk-weaker c.add_named-2.result _ _ (λ region e. both_named (names c.args.cause.now) c.args.screen.now c.args.old.now c.args.new.now _ c.in_ok-area.area region c.empty.ensures.region c.in_ok-area.ensures.region e) c.add_named-2.ensures.region
