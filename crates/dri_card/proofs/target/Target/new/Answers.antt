-- Both planes have one value at each place.
use Rattle.std.proofs.Common.{◌≡◌}
use Rattle.dri_base.specs.Planes.{plane}
use Rattle.dri_plane.proofs.Shown.{shown_even}
use Rattle.dri_card.proofs.target.Target.new.Goals as goal

pub returns-clause-pairs : goal.returns-clause-pairs
returns-clause-pairs g c =
    let F = g.F.ColourFormat in
    let back = c.in_ok-back.back in
    let depth = c.in_ok-depth.depth in
    let kept : back.pixels ≡ plane back.width back.height (λ x y. F.kept (record { r = 0; g = 0; b = 0 })) =
    rw (c.in_ok-back.ensures.width, c.in_ok-back.ensures.height, ← c.kept.ensures) c.in_ok-back.ensures.pixels in
    record {
      colours = shown_even F.all_shown F.shown g.met.F.ColourFormat.each_shown back (F.kept (record { r = 0; g = 0; b = 0 })) kept;
      depths = rw (c.in_ok-depth.ensures.width, c.in_ok-depth.ensures.height) c.in_ok-depth.ensures.pixels;
    }
