-- A channel of a triangle at a pixel.
use Rattle.std.specs.Prelude.{ℤ}
use Rattle.dri_base.specs.declared.shape.Triangle.{Triangle}
use Rattle.dri_raster.specs.declared.channel.Channel.{Channel}

-- where a runner stands
pub record Standing : Type 0 where
  pub triangle : Triangle
  pub channel : Channel
  pub x : ℤ
  pub y : ℤ
