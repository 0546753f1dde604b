-- What a new stack leaves on an idle engine's planes.
use Rattle.std.proofs.Common.{◌≡◌, ◌≤◌, ◌<◌, ℕ, List, length, take, slice_index_or, All, ◌∙◌, ap, subst, arith}
use Rattle.std.proofs.lemmas.List.{take_all}
use Rattle.dri_base.specs.declared.colour.Rgb.{Rgb}
use Rattle.dri_clips.specs.Paints.{IsOnScreen, filled}
use Rattle.dri_clips.specs.declared.touched.Paint.{Paint}
use Rattle.dri_plane.specs.Grids.{IsInside}
use Rattle.dri_ring.specs.Rings.{OnlyShown, Ring, Shows}

-- a paint of the screen lies on it
pub paint_inside : (v w : Ring) (ps : List Paint) (i : ℕ) (d : Paint) → i < length ps → OnlyShown v w → All (λ p. IsOnScreen v.scene.width v.scene.height p.rect) ps → IsInside (slice_index_or ps i d).rect w.scene.width w.scene.height
paint_inside v w ps i d lt only on =
    let at = on i d lt in
    rw (ap (λ (u : Ring). u.scene) only) (record { columns = omega (arith, at.across); right = at.right; rows = omega (arith, at.down); bottom = at.bottom })

-- what stays, over two steps
pub only_shown : (a b c : Ring) → OnlyShown a b → OnlyShown b c → OnlyShown a c
only_shown a b c p q = q ∙ ap {A = Ring} (λ v. record v { front = c.front }) p

pub shows_same : (v : Ring) (f g : ℕ → ℕ → Rgb) → ((x y : ℕ) → f x y ≡ g x y) → Shows v f → Shows v g
shows_same v f g e is = subst (Shows v) (λ i x y. e x y i) is

-- all paints
pub painted_all : (v : Ring) (ps : List Paint) (n : ℕ) (shown : ℕ → ℕ → Rgb) → length ps ≤ n → Shows v (filled (take n ps) shown) → Shows v (filled ps shown)
painted_all v ps n shown le is = subst (λ qs. Shows v (filled qs shown)) (take_all n ps le) is
