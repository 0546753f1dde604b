use Rattle.std.proofs.Common.{◌≡◌, length, sym, subst, ◌∙◌, w32, rules, arith}
use Rattle.std.specs.Prelude.{ℤ, false, true}
use Rattle.std.proofs.lemmas.Int.{to_z-of_z}
use mir.Val.{SFits}
use Rattle.dri_rect.specs.Walk.{IsStart, is_done}
use Rattle.dri_rect.proofs.RowWalks.{done_open}
use Rattle.dri_rect.proofs.BandWalks.{placing_start, placing_start_in, placing_step, placing_done, placing_rest, band_smaller, done_whole, reaches_line, reaches_line_too, over_whole}
use Rattle.dri_rect.proofs.Regions.{bands}
use Rattle.dri_rect.proofs.bands.combine.Goals as goal

pub loop-above-init : goal.loop-above-init
loop-above-init c =
    let f : SFits w32 c.first_line-y.result = search rules in
    record {
      walk = rw c.in_ok-out.ensures.items (placing_start c.args.operation c.args.first.now c.args.second.now _ _ _ _ _ _ _ (subst (λ (m : ℤ). IsStart c.args.operation c.args.first.now c.args.second.now m) (sym (to_z-of_z w32 c.first_line-y.result f)) c.first_line-y.ensures) c.skip.ensures c.skip-2.ensures c.bands_of-above.ensures c.bands_of-below.ensures);
      cut_above = c.bands_of-above.ensures.cuts;
      cut_below = c.bands_of-below.ensures.cuts;
    }

pub settle-start-requires-clause-start : goal.settle-start-requires-clause-start
settle-start-requires-clause-start c = omega (arith, c.len-fresh.ensures, (placing_start_in _ _ _ _ _ _ _ _ _ _ _ _ c.loop-above.invariant.walk c.in_ok-combine_rows.ensures).0)

pub settle-start-requires-clause-fresh : goal.settle-start-requires-clause-fresh
settle-start-requires-clause-fresh c = omega (arith, c.len-fresh.ensures, (placing_start_in _ _ _ _ _ _ _ _ _ _ _ _ c.loop-above.invariant.walk c.in_ok-combine_rows.ensures).1)

pub pass-above-requires-clause-reaches : goal.pass-above-requires-clause-reaches
pass-above-requires-clause-reaches c =
    let fe : SFits w32 c.row_at-one_end.result.1 = search rules in
    let fm : SFits w32 c.lesser-bottom.result = search rules in
    rw (to_z-of_z w32 c.lesser-bottom.result fm) (reaches_line c.loop-above.above.first.now c.loop-above.above.below.now _ _ _ _ c.loop-above.invariant.cut_above c.row_at-one_end.ensures.reaches (to_z-of_z w32 _ fe) c.lesser-bottom.ensures.lesser)

pub pass-below-requires-clause-reaches : goal.pass-below-requires-clause-reaches
pass-below-requires-clause-reaches c =
    let ff : SFits w32 c.row_at-other_end.result.1 = search rules in
    let fm : SFits w32 c.lesser-bottom.result = search rules in
    rw (to_z-of_z w32 c.lesser-bottom.result fm) (reaches_line_too c.loop-above.below.first.now c.loop-above.below.below.now _ _ _ _ c.loop-above.invariant.cut_below c.row_at-other_end.ensures.reaches (to_z-of_z w32 _ ff) c.lesser-bottom.ensures.lesser)

pub loop-above-smaller : goal.loop-above-smaller
loop-above-smaller c =
    let fe : SFits w32 c.row_at-one_end.result.1 = search rules in
    let ff : SFits w32 c.row_at-other_end.result.1 = search rules in
    let fm : SFits w32 c.lesser-bottom.result = search rules in
    let t : is_done c.args.operation c.loop-above.above.first.now c.loop-above.below.first.now ≡ false = cc in
    let over = sym (over_whole _ _ _ _ c.loop-above.invariant.cut_above c.loop-above.invariant.cut_below) ∙ done_open c.args.operation _ _ t in
    band_smaller _ _ _ _ _ _ _ _ _ _ _ c.row_at-one_end.ensures c.row_at-other_end.ensures over c.lesser-bottom.ensures.lesser (to_z-of_z w32 _ fe) (to_z-of_z w32 _ ff) (to_z-of_z w32 _ fm)

pub loop-above-preserved : goal.loop-above-preserved
loop-above-preserved c =
    let fe : SFits w32 c.row_at-one_end.result.1 = search rules in
    let ff : SFits w32 c.row_at-other_end.result.1 = search rules in
    let fm : SFits w32 c.lesser-bottom.result = search rules in
    let t : is_done c.args.operation c.loop-above.above.first.now c.loop-above.below.first.now ≡ false = cc in
    let over = sym (over_whole _ _ _ _ c.loop-above.invariant.cut_above c.loop-above.invariant.cut_below) ∙ done_open c.args.operation _ _ t in
    let el : c.len-fresh.result ≡ length c.loop-above.out.items = omega (arith, c.len-fresh.ensures) in
    record {
      walk = placing_step _ _ _ _ _ _ _ _ c.loop-above.invariant.walk _ _ _ _ _ _ _ _ c.row_at-one_end.ensures c.row_at-other_end.ensures over c.lesser-bottom.ensures.lesser (to_z-of_z w32 _ fe) (to_z-of_z w32 _ ff) (to_z-of_z w32 _ fm)
          _ _ c.pass-above.ensures.later c.pass-below.ensures.later _ _ _ _ c.in_ok-combine_rows.ensures el c.settle-start.ensures.items c.settle-start.ensures.start;
      cut_above = c.pass-above.ensures.cut;
      cut_below = c.pass-below.ensures.cut;
    }

pub returns : goal.returns
returns c =
    let t : is_done c.args.operation c.loop-above.above.first.now c.loop-above.below.first.now ≡ true = cc in
    let over = sym (done_whole c.args.operation _ _ _ _ c.loop-above.invariant.cut_above c.loop-above.invariant.cut_below) ∙ t in
    placing_done _ _ _ _ _ _ _ _ c.loop-above.invariant.walk over

pub first_line-y-requires-clause-first : goal.first_line-y-requires-clause-first
first_line-y-requires-clause-first c = bands _ c.requires.first

pub first_line-y-requires-clause-second : goal.first_line-y-requires-clause-second
first_line-y-requires-clause-second c = bands _ c.requires.second

pub skip-requires : goal.skip-requires
skip-requires c = bands _ c.requires.first

pub skip-requires-2 : goal.skip-requires-2
skip-requires-2 c = bands _ c.requires.second

pub returns-in-Some : goal.returns-in-Some
returns-in-Some c =
    let t : is_done c.args.operation c.loop-above.above.first.now c.loop-above.below.first.now ≡ false = cc in
    let over = sym (done_whole c.args.operation _ _ _ _ c.loop-above.invariant.cut_above c.loop-above.invariant.cut_below) ∙ t in
    rw c.in_ok-put_bands.ensures (placing_rest _ _ _ _ _ _ _ _ c.loop-above.invariant.walk c.requires.first c.requires.second over _ c.in-Some.ensures)
