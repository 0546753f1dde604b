-- The rows before y are packed.
use Rattle.std.proofs.Common.{◌≡◌, ℕ, nat_lt, if◌then◌else◌}
use Rattle.dri_base.specs.Planes.{plane}
use Rattle.dri_base.specs.declared.colour.Rgb.{Rgb}
use Rattle.dri_card16.specs.Packing.{pack}
use Rattle.dri_card16.proofs.opening.packed.Given as goal

abbrev pub invariant-loop-y : goal.invariant-loop-y
invariant-loop-y g l = record {
  width : l.words.width ≡ l.colours.width;
  height : l.words.height ≡ l.colours.height;
  pixels : (f : ℕ → ℕ → Rgb) → l.colours.pixels ≡ plane l.colours.width l.colours.height f → l.words.pixels ≡ plane l.colours.width l.colours.height (λ a b. if nat_lt b l.y then pack (f a b) else 0);
}
