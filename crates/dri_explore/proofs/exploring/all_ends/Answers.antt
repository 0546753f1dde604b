use Rattle.std.proofs.Common.{◌≡◌, [], arith, inl, inr, refl}
use Rattle.std.specs.Prelude.{◌⊎◌}
use Rattle.std.specs.Arc.{arc_value}
use Rattle.dri_explore.proofs.Finding.{found_all}
use Rattle.dri_explore.proofs.exploring.all_ends.Goals.{then-loop-level-test+else-not-is_empty, else-loop-level-test}
use Rattle.dri_explore.proofs.exploring.all_ends.Goals as goal

pub returns : goal.returns
returns c = let level = c.loop-level.level in
    let last : (level.made ≡ c.args.most) ⊎ (level.nodes ≡ []) = elim c.loop-level-test.branch [
      | then-loop-level-test+else-not-is_empty w ↦ inr (w.is_empty.ensures.0 w.if-not-is_empty.false)
      | else-loop-level-test w ↦ inl (omega (arith, w.loop-level-test.false, c.loop-level.invariant.within))
    ] in
    found_all (arc_value c.args.scene.now) c.args.most level c.gather-2.new.found _ c.in_ok-found.field-0 c.loop-level.invariant.level c.loop-level.invariant.within last c.in_ok-found.ensures.found c.in_ok-found.ensures.cut refl
