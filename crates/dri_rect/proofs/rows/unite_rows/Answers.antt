use Rattle.std.proofs.Common.{w32, rules}
use Rattle.std.proofs.lemmas.Int.{to_z-of_z}
use mir.Val.{SFits}
use Rattle.dri_rect.proofs.Uniting.{unite_start, unite_step, unite_end}
use Rattle.dri_rect.proofs.rows.unite_rows.Goals as goal

pub loop-next-init : goal.loop-next-init
loop-next-init c = rw (to_z-of_z w32 c.args.top c.ranges.top, to_z-of_z w32 c.args.bottom c.ranges.bottom) (unite_start c.args.first.now c.args.second.now c.args.into.now.items c.args.top c.args.bottom c.requires.first c.requires.second)

pub loop-next-preserved : goal.loop-next-preserved
loop-next-preserved c = unite_step _ _ _ _ _ _ _ _ _ _ c.loop-next.invariant _ _ _ _ c.in-Some.ensures _ c.in_ok-begun.ensures.items _ _ c.in_ok-begun.ensures.x1 c.in_ok-begun.ensures.x2

pub returns : goal.returns
returns c =
    let fo : SFits w32 c.loop-next.begun.x1 = search rules in
    let fe : SFits w32 c.loop-next.begun.x2 = search rules in
    unite_end _ _ _ _ _ _ _ _ _ _ c.loop-next.invariant c.in_default.ensures _ _ _ _ _ (to_z-of_z w32 c.args.top c.ranges.top) (to_z-of_z w32 c.args.bottom c.ranges.bottom) (to_z-of_z w32 _ fo) (to_z-of_z w32 _ fe) c.in_ok-put.ensures
