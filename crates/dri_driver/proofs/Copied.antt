-- Copies of clips.
use Rattle.std.proofs.Common.{◌≡◌, ℕ, pos, negsuc, List, [], refl}
use Rattle.dri_base.specs.declared.shape.Rect.{Rect}
use Rattle.std.specs.Prelude.{Bool}
use Rattle.dri_shared.specs.Copies.{IsCopyOf}
use Rattle.dri_driver.specs.Clients.{copy_of}

-- the set that rectangles are a copy of is their own pixels
pub copy_is : (clips : List Rect) (set : ℕ → ℕ → Bool) → IsCopyOf clips set → copy_of clips ≡ set
copy_is clips set copy = λ i x y. copy (pos x) (pos y) i

-- a copy of any set of screen pixels is a copy of its own pixels
pub copied : (clips : List Rect) (set : ℕ → ℕ → Bool) → IsCopyOf clips set → IsCopyOf clips (copy_of clips)
copied clips set copy (pos x) (pos y) = refl
copied clips set copy (pos x) (negsuc y) = copy (pos x) (negsuc y)
copied clips set copy (negsuc x) y = copy (negsuc x) y

-- no rectangle is a copy of no pixel
pub copied_none : IsCopyOf [] (copy_of [])
copied_none (pos x) (pos y) = refl
copied_none (pos x) (negsuc y) = refl
copied_none (negsuc x) y = refl
