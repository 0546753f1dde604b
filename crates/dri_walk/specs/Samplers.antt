-- What a sampler keeps.
use Rattle.std.specs.Prelude.{◌≡◌, Some, length}
use Rattle.dri_model.specs.Words.{IsBoundInRange}
use Rattle.dri_walk.specs.declared.sampler.Sampler.TheInside.{Inside}
use Rattle.dri_walk.specs.Samplings.{IsImageWithin, Sampling}

abbrev pub sampling : Inside → Sampling
sampling s = record { memory = s.memory.now; bound = s.bound; wrap = s.wrap }

-- the image's sides are 1 to 256, it lies in the memory, and its two sides are ready for columns and rows
pub record IsSampler (s : Inside) : Type 0 where
  pub bound : IsBoundInRange (Some s.bound)
  pub within : IsImageWithin (length s.memory.now) (Some s.bound)
  pub columns : s.columns ≡ record { wrap = s.wrap; side = s.bound.shape.width }
  pub rows : s.rows ≡ record { wrap = s.wrap; side = s.bound.shape.height }
