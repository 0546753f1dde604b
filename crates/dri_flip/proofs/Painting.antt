-- Paints on the card, one after the other, and what is owed after them.
use Rattle.std.proofs.Common.{All, ◌≡◌, ◌<◌, ◌≤◌, ℕ, zero, suc, ◌+◌, List, [], ◌∷◌, take, length, Bool, true, false, not, nat_lt, slice_index_or, refl, ◌∙◌, sym, ap, subst, arith}
use Rattle.std.specs.Prelude.{◌&&◌}
use Rattle.std.proofs.lemmas.Bool.Decides.{nat_tests}
use Rattle.std.proofs.lemmas.List.{take_all}
use Rattle.dri_base.specs.declared.colour.Rgb.{Rgb}
use Rattle.dri_base.specs.declared.shape.ClipRect.{ClipRect}
use Rattle.dri_clips.specs.Paints.{IsOnScreen, filled}
use Rattle.dri_clips.specs.declared.touched.Paint.{Paint}
use Rattle.dri_flip.proofs.Changed.{rects_touch}
use Rattle.dri_flip.specs.Calls.{OnlyShown, owed_after, touch}
use Rattle.dri_flip.specs.Follows.{IsScreen}
use Rattle.dri_flip.specs.Meanings.{IsOnCard, KeepSides, Meaning, Shows}
use Rattle.dri_plane.specs.Grids.{IsInside}

pub shows_same : (v : Meaning) (f g : ℕ → ℕ → Rgb) → ((x y : ℕ) → f x y ≡ g x y) → Shows v f → Shows v g
shows_same v f g e h = subst (Shows v) (λ i x y. e x y i) h

pub only_shown : (a b c : Meaning) → OnlyShown a b → OnlyShown b c → OnlyShown a c
only_shown a b c p q = q ∙ ap {A = Meaning} (λ v. record v { front = c.front; owed = c.owed }) p

-- where the sides stay a paint of the screen stays on it
on_screen : (a b : Meaning) (ps : List Paint) (i : ℕ) (d : Paint) → i < length ps → IsScreen a → KeepSides a b → All (λ p. IsOnScreen a.front.width a.front.height p.rect) ps → IsOnScreen b.front.width b.front.height (slice_index_or ps i d).rect
on_screen a b ps i d lt screen keep on = let s = keep a.front.width a.front.height screen in rw (s.front_width, s.front_height) (on i d lt)

within : (width height : ℕ) (r : ClipRect) → IsOnScreen width height r → IsInside r width height
within width height r on = record { columns = omega (arith, on.across); right = on.right; rows = omega (arith, on.down); bottom = on.bottom }

pub on_card : (a b : Meaning) (ps : List Paint) (i : ℕ) (d : Paint) → i < length ps → IsScreen a → KeepSides a b → All (λ p. IsOnScreen a.front.width a.front.height p.rect) ps → IsOnCard b (slice_index_or ps i d).rect
on_card a b ps i d lt screen keep on = within b.front.width b.front.height (slice_index_or ps i d).rect (on_screen a b ps i d lt screen keep on)

All-one : (P : ClipRect → Type 0) (r : ClipRect) → P r → All P (r ∷ [])
All-one P r p zero d below = p
All-one P r p (suc k) d below = absurd (omega arith)

pub no_paint : (b : Bool) → b ≡ (b && not (nat_lt 0 0))
no_paint true = refl
no_paint false = refl

-- what is owed after one paint more
pub one_paint_owed : (a b c : Meaning) (ps : List Paint) (i : ℕ) (d : Paint) → i < length ps → IsScreen a → KeepSides a b → All (λ p. IsOnScreen a.front.width a.front.height p.rect) ps →
    b.owed ≡ (a.owed && not (nat_lt 0 i)) → c.owed ≡ owed_after b (touch b ((slice_index_or ps i d).rect ∷ [])) → c.owed ≡ (a.owed && not (nat_lt 0 (i + 1)))
one_paint_owed a b c ps i d lt screen keep on before now =
    now ∙ ap (λ t. b.owed && not t) (rects_touch b.front.width b.front.height ((slice_index_or ps i d).rect ∷ []) (omega arith) one) ∙ ends b.owed a.owed ∙ ap (λ t. a.owed && not t) some
  where
    one : All (IsOnScreen b.front.width b.front.height) ((slice_index_or ps i d).rect ∷ [])
    one = All-one (IsOnScreen b.front.width b.front.height) (slice_index_or ps i d).rect (on_screen a b ps i d lt screen keep on)

    ends : (p q : Bool) → (p && not true) ≡ (q && not true)
    ends true true = refl
    ends true false = refl
    ends false true = refl
    ends false false = refl

    some : true ≡ nat_lt 0 (i + 1)
    some = grind (arith, nat_tests)

-- all paints
pub painted_all : (v : Meaning) (ps : List Paint) (n : ℕ) (shown : ℕ → ℕ → Rgb) → length ps ≤ n → Shows v (filled (take n ps) shown) → Shows v (filled ps shown)
painted_all v ps n shown le is = subst (λ qs. Shows v (filled qs shown)) (take_all n ps le) is

-- where the sides stay, the planes have the same sides still, and paints of the screen stay on it
pub screen_kept : (a b : Meaning) → IsScreen a → KeepSides a b → IsScreen b
screen_kept a b screen keep =
    let s = keep a.front.width a.front.height screen in
    record {
      front_width = refl;
      front_height = refl;
      back_width = s.back_width ∙ sym s.front_width;
      back_height = s.back_height ∙ sym s.front_height;
      depth_width = s.depth_width ∙ sym s.front_width;
      depth_height = s.depth_height ∙ sym s.front_height;
    }

pub paints_kept : (a b : Meaning) (ps : List Paint) → IsScreen a → KeepSides a b → All (λ p. IsOnScreen a.front.width a.front.height p.rect) ps → All (λ p. IsOnScreen b.front.width b.front.height p.rect) ps
paints_kept a b ps screen keep on = let s = keep a.front.width a.front.height screen in rw (s.front_width, s.front_height) on
