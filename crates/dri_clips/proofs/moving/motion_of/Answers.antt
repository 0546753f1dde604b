use Rattle.std.proofs.Common.{ap}
use Rattle.std.specs.Prelude.{ℤ}
use Rattle.std.proofs.lemmas.Result.{IfOk-weaker}
use Rattle.dri_clips.proofs.Carrying.{list_on, motion_is, new_shown}
use Rattle.dri_clips.proofs.Gaining.{larger}
use Rattle.dri_clips.proofs.Lists.{clips_by}
use Rattle.dri_clips.proofs.moving.motion_of.Goals as goal

pub along-requires-clause-was : goal.along-requires-clause-was
along-requires-clause-was g c = larger c.args.old.now.width c.args.old.now.height c.index-was.result.now c.requires.layout.wide.1 c.requires.layout.high.1
    (list_on c.args.old.now.width c.args.old.now.height c.args.old.now.stack c.args.window c.index-was.result.now (clips_by c.args.old.now c.args.window c.index-was.result.now c.requires.layout c.requires.window c.index-was.ensures))

pub along-requires-clause-now : goal.along-requires-clause-now
along-requires-clause-now g c = larger c.args.old.now.width c.args.old.now.height c.list_of-now.result.now c.requires.layout.wide.1 c.requires.layout.high.1
    (list_on c.args.old.now.width c.args.old.now.height c.args.new.now c.args.window c.list_of-now.result.now
    (new_shown c.args.old.now c.args.new.now c.args.window c.args.mended.now c.index-was.result.now c.list_of-now.result.now c.index.result.now c.requires.window c.requires.mended (clips_by c.args.old.now c.args.window c.index-was.result.now c.requires.layout c.requires.window c.index-was.ensures) c.index.ensures c.list_of-now.ensures))

pub returns-clause-motion : goal.returns-clause-motion
returns-clause-motion g c =
    let was = clips_by c.args.old.now c.args.window c.index-was.result.now c.requires.layout c.requires.window c.index-was.ensures in
    let now = new_shown c.args.old.now c.args.new.now c.args.window c.args.mended.now c.index-was.result.now c.list_of-now.result.now c.index.result.now c.requires.window c.requires.mended was c.index.ensures c.list_of-now.ensures in
    IfOk-weaker c.along.result _ _ (λ motion is. motion_is c.args.old.now.width c.args.old.now.height c.args.old.now.stack c.args.new.now c.args.window c.way-way.result.x c.way-way.result.y c.index-was.result.now c.list_of-now.result.now motion was now
    (ap (λ (p : ℤ × ℤ). p.0) c.way-way.ensures.way) (ap (λ (p : ℤ × ℤ). p.1) c.way-way.ensures.way) c.way-way.ensures.across c.way-way.ensures.down is) c.along.ensures.along

pub returns-clause-window : goal.returns-clause-window
returns-clause-window g c = IfOk-weaker c.along.result _ _ (λ motion is. is.is) c.along.ensures.along
