-- Windows that are painted over those below them.
use Rattle.std.proofs.Common.{◌≡◌, ℕ, List, ◌∷◌, Bool, true, false, if◌then◌else◌, refl, ap, ◌∙◌}
use Rattle.dri_base.specs.declared.colour.Rgb.{Rgb}
use Rattle.dri_base.specs.declared.scene.Window.{Window}
use Rattle.dri_base.specs.declared.shape.ClipRect.{ClipRect}
use Rattle.dri_model.specs.Stacks.{ground_colour, window_has, top}
use Rattle.dri_base.specs.Planes.{in_rect}
use Rattle.dri_plane.specs.Grids.{Grid, Becomes}
use Rattle.dri_base.proofs.PlaneLists.{plane_same}
use Rattle.dri_card.specs.Openings.{IsCut, ShowsStack}

-- the topmost window of one on others
over : (root : Rgb) (w : Window) (ws : List Window) (x y : ℕ) (b : Bool) → w.mapped ≡ true → window_has w x y ≡ b
    → (if b then w.background else ground_colour root (top ws x y)) ≡ ground_colour root (top (w ∷ ws) x y)
over root w ws x y true mapped here = rw (mapped, here) refl
over root w ws x y false mapped here = rw (mapped, here) refl

-- a mapped window is painted
pub window_painted : (root : Rgb) (w : Window) (ws : List Window) (old new : Grid Rgb) (rect : ClipRect) → w.mapped ≡ true → new.width ≡ old.width → new.height ≡ old.height
    → IsCut w old.width old.height rect → Becomes old new (λ f x y. if in_rect rect x y then w.background else f x y)
    → ShowsStack root ws old → ShowsStack root (w ∷ ws) new
window_painted root w ws old new rect mapped wide high cut becomes shows =
    rw (wide, high) (becomes (λ x y. ground_colour root (top ws x y)) shows ∙ plane_same old.width old.height _ _ (λ x y lx ly.
    ap (λ b. if b then w.background else ground_colour root (top ws x y)) (cut x y lx ly) ∙ over root w ws x y (window_has w x y) mapped refl))
