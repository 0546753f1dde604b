-- The columns before x are packed.
use Rattle.std.proofs.Common.{◌≡◌, ℕ, ◌==◌, ◌&&◌, nat_lt, if◌then◌else◌}
use Rattle.dri_base.specs.Planes.{plane}
use Rattle.dri_base.specs.declared.colour.Rgb.{Rgb}
use Rattle.dri_card16.specs.Packing.{pack}
use Rattle.dri_card16.proofs.opening.pack_row.Given as goal
use Rattle.dri_plane.specs.Grids.{Becomes}

abbrev pub invariant-loop-x : goal.invariant-loop-x
invariant-loop-x g l = record {
  width : l.words.width ≡ l.fn.words.width;
  height : l.words.height ≡ l.fn.words.height;
  pixels : (f : ℕ → ℕ → Rgb) → l.colours.pixels ≡ plane l.colours.width l.colours.height f → Becomes l.fn.words l.words (λ g a b. if (b == l.y) && nat_lt a l.x then pack (f a b) else g a b);
}
