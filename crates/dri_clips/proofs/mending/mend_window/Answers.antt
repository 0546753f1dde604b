use Rattle.std.proofs.Common.{◌∙◌, sym}
use Rattle.std.proofs.lemmas.Result.{IfOk-weaker}
use Rattle.dri_clips.specs.Areas.{names}
use Rattle.dri_clips.proofs.Lists.{left_kept, part_given, unmet_bare}
use Rattle.dri_clips.proofs.mending.mend_window.Goals as goal

pub returns-then-is_met-clause-list : goal.returns-then-is_met-clause-list
returns-then-is_met-clause-list g c = IfOk-weaker c.mend_met.result _ _ (λ list e. part_given (names c.args.cause.now) c.names.result c.args.area.now c.args.left.now c.args.old.now c.in_ok-part.part c.args.window.now list c.names.ensures (sym c.is_met.ensures ∙ c.if-is_met.true) c.in_ok-part.ensures.part e) c.mend_met.ensures.list

pub returns-then-names-clause-list : goal.returns-then-names-clause-list
returns-then-names-clause-list g c = unmet_bare (names c.args.cause.now) c.args.area.now c.args.left.now c.args.old.now c.args.window.now _ (sym c.names-2.ensures ∙ c.if-names.true) (sym c.is_met.ensures ∙ c.if-is_met.false) c.empty.ensures.region c.empty-then-names.ensures.region

pub returns-clause-left : goal.returns-clause-left
returns-clause-left g c = left_kept (names c.args.cause.now) c.args.area.now c.args.left.now c.args.window.now c.requires.within (sym c.names-2.ensures ∙ c.if-names.false) (sym c.is_met.ensures ∙ c.if-is_met.false)
