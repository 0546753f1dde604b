use Rattle.std.proofs.Common.{sym, subst, ◌∙◌}
use Rattle.std.specs.Prelude.{Option, not}
use Rattle.dri_model.specs.Stacks.{same_origin}
use Rattle.dri_clips.specs.declared.mending.Patch.{Patch}
use Rattle.dri_clips.specs.Mends.{IsMended, IsNew}
use Rattle.dri_clips.proofs.Comparing.{differs_touched, moved_touched, same_clips, stands_untouched}
use Rattle.dri_clips.proofs.Lists.{clips_by, none_by}
use Rattle.dri_clips.proofs.stamps.is_touched.Goals as goal

pub returns-in_default : goal.returns-in_default
returns-in_default c = stands_untouched c.args.old.now.width c.args.old.now.height c.args.number c.args.old.now.stack c.args.new.now
    (subst (λ (o : Option Patch). IsMended c.args.old.now.width c.args.old.now.height c.args.old.now.stack c.args.new.now c.args.number o) (none_by c.args.list.now c.in_default.not-Some) c.requires.mended)

pub returns-then-not-same_region : goal.returns-then-not-same_region
returns-then-not-same_region c =
    let new : IsNew c.args.old.now.width c.args.old.now.height c.args.old.now.stack c.args.new.now c.args.number c.in-Some.patch =
    subst (λ (o : Option Patch). IsMended c.args.old.now.width c.args.old.now.height c.args.old.now.stack c.args.new.now c.args.number o) c.in-Some.is c.requires.mended in
    differs_touched c.args.old.now.width c.args.old.now.height c.args.number c.args.old.now.stack c.args.new.now
    (sym c.if-not-same_region.true ∙ same_clips c.args.old.now.width c.args.old.now.height c.args.number c.args.old.now.stack c.args.new.now c.index-was.result.now c.in-Some.patch.clips c.same_region.result
    (clips_by c.args.old.now c.args.number c.index-was.result.now c.requires.layout c.requires.number c.index-was.ensures) new.clips c.canonical.ensures c.same_region.ensures)

pub returns : goal.returns
returns c =
    let new : IsNew c.args.old.now.width c.args.old.now.height c.args.old.now.stack c.args.new.now c.args.number c.in-Some.patch =
    subst (λ (o : Option Patch). IsMended c.args.old.now.width c.args.old.now.height c.args.old.now.stack c.args.new.now c.args.number o) c.in-Some.is c.requires.mended in
    moved_touched c.args.old.now.width c.args.old.now.height c.args.number c.args.old.now.stack c.args.new.now c.ne.result
    (sym c.if-not-same_region.false ∙ same_clips c.args.old.now.width c.args.old.now.height c.args.number c.args.old.now.stack c.args.new.now c.index-was.result.now c.in-Some.patch.clips c.same_region.result
    (clips_by c.args.old.now c.args.number c.index-was.result.now c.requires.layout c.requires.number c.index-was.ensures) new.clips c.canonical.ensures c.same_region.ensures)
    (c.ne.ensures ∙ (λ i. not (same_origin (c.origin.ensures i) (c.origin-2.ensures i))))
