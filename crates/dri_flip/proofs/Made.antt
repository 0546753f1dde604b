-- What the card's calls in a client's clips make, in the words of the replay.
use Rattle.std.proofs.Common.{◌≡◌, ℕ, ℤ, pos, ◌-ℤ◌, List, false, if◌then◌else◌, Option, Some, None, IfSome, refl, ◌∙◌, sym, ap, subst}
use Rattle.dri_base.specs.Fragments.{fragment, rules_of, with_texel}
use Rattle.dri_base.specs.Planes.{plane}
use Rattle.dri_base.specs.Scenes.{textures_of, window_of}
use Rattle.dri_base.specs.Texels.{given_image, own_image, texture_bound}
use Rattle.dri_base.specs.declared.colour.Pixel.{Pixel}
use Rattle.dri_base.specs.declared.colour.Rgb.{Rgb}
use Rattle.dri_base.specs.declared.colour.Rgba.{Rgba}
use Rattle.dri_base.specs.declared.shape.ClipRect.{ClipRect}
use Rattle.dri_base.specs.declared.shape.Point.{Point}
use Rattle.dri_base.specs.declared.shape.Triangle.{Triangle}
use Rattle.dri_base.specs.declared.state.State.{State}
use Rattle.dri_base.specs.declared.state.TexMode.{TexMode}
use Rattle.dri_base.specs.declared.state.TexMode.TheVariants as Mode_is
use Rattle.dri_base.specs.declared.state.Wrap.{Wrap}
use Rattle.dri_base.specs.declared.texture.Texture.{Texture}
use Rattle.dri_core.proofs.Draws.{fragment_same}
use Rattle.dri_core.specs.Privates.{texture_used, textured_with}
use Rattle.dri_flip.proofs.Sets.{fill_is, touch_is}
use Rattle.dri_flip.specs.Calls.{IsImage, OnlyDrawn, OnlyShown, cleared_in, drawn_in, fill, swapped_in, touch}
use Rattle.dri_clips.specs.Paints.{filled as filled_by}
use Rattle.dri_clips.specs.declared.touched.Touched.{Touched}
use Rattle.dri_flip.specs.Follows.{AreRectsOf, IsMade, IsScreen, counted, has_change}
use Rattle.dri_flip.specs.Meanings.{HaveSides, Holds, KeepSides, Meaning, Shows}
use Rattle.dri_flip.specs.Owings.{flipped_where, paid_where}
use Rattle.dri_flip.specs.Places.{has_all, has_some}
use Rattle.dri_flip.specs.declared.counted.CountedCard.{CountedCard}
use Rattle.dri_journal.specs.Replays.{ReplayState, world_of}
use Rattle.dri_journal.specs.declared.deed.Deed.TheVariants as Deed_is
use Rattle.dri_meaning.specs.Scripts.{HasTexels}
use Rattle.dri_model.specs.Stacks.{origin}
use Rattle.dri_plane.specs.Grids.{Grid}
use Rattle.dri_plane.specs.Runs.{HoldPairs}
use Rattle.dri_replay.specs.Makings.{back_made, carried_along, clips_now, state_now}

-- where only back was drawn, front shows what it showed; where only front was, back and depth hold what they held
front_left : (old new : Meaning) (shown : ℕ → ℕ → Rgb) → OnlyDrawn old new → Shows old shown → Shows new shown
front_left old new shown only is = subst (λ (g : Grid Rgb). g.pixels ≡ plane g.width g.height shown) (sym (ap (λ (v : Meaning). v.front) only)) is

back_left : (old new : Meaning) (f : ℕ → ℕ → Pixel) → OnlyShown old new → Holds old f → Holds new f
back_left old new f only is = subst (λ (v : Meaning). HoldPairs v.back v.depth f) (sym only) is

-- a texture with texels is an image
pub image_is : (o : Option Texture) → IfSome o HasTexels → IsImage o
image_is None whole = tt
image_is (Some t) whole = whole

-- nothing is done
pub nothing_made : (v : ReplayState) (c : ℕ) (card : CountedCard) → IsMade v c Deed_is.Nothing card card
nothing_made v c card = record { sides = λ w h s. s; held = λ f is. is; shown = λ f shown is shows. shows; owes = refl }

-- what a new stack leaves is shown
pub show_made : (v : ReplayState) (c : ℕ) (touched : Touched) (old new : CountedCard) → ((shown : ℕ → ℕ → Rgb) → Shows old.card shown → Shows new.card (filled_by touched.paints (carried_along touched.carry shown))) →
    ((f : ℕ → ℕ → Pixel) → Holds old.card f → Holds new.card (carried_along touched.carry f)) → KeepSides old.card new.card → counted new ≡ paid_where (has_change touched) false (counted old) → IsMade v c (Deed_is.Touched touched) old new
show_made v c touched old new shows held keep owes = record { sides = keep; held = held; shown = λ f shown is was. shows shown was; owes = owes }

-- planes of the sides of the screen
pub screen_of : (v : Meaning) (width height : ℕ) → HaveSides v width height → IsScreen v
screen_of v width height s = record {
  front_width = refl;
  front_height = refl;
  back_width = s.back_width ∙ sym s.front_width;
  back_height = s.back_height ∙ sym s.front_height;
  depth_width = s.depth_width ∙ sym s.front_width;
  depth_height = s.depth_height ∙ sym s.front_height;
}

module _ (v : ReplayState) (c : ℕ) (rects : List ClipRect) (old new : CountedCard) (sides : HaveSides old.card v.scene.width v.scene.height) (are : AreRectsOf v.scene.width v.scene.height (clips_now v c) rects) where
  touched : touch old.card rects ≡ has_some v.scene.width v.scene.height (clips_now v c)
  touched = touch_is old.card v.scene.width v.scene.height (clips_now v c) rects sides are.has

  filled : fill old.card rects ≡ has_all v.scene.width v.scene.height (clips_now v c)
  filled = fill_is old.card v.scene.width v.scene.height (clips_now v c) rects sides are.has

  pub clear_made : (colour : Rgb) (depth : ℕ) → ((f : ℕ → ℕ → Pixel) → Holds old.card f → Holds new.card (cleared_in rects colour depth f)) → OnlyDrawn old.card new.card → KeepSides old.card new.card →
      counted new ≡ paid_where (touch old.card rects) (fill old.card rects) (counted old) → IsMade v c (Deed_is.Clear colour depth) old new
  clear_made colour depth held others keep owes = record {
    sides = keep;
    held = λ f is. subst (Holds new.card) (λ k x y. if are.has x y k then record { colour = colour; depth = depth } else f x y) (held f is);
    shown = λ f shown is shows. front_left old.card new.card shown others shows;
    owes = owes ∙ (λ k. paid_where (touched k) (filled k) (counted old));
  }

  pub swap_made : ((f : ℕ → ℕ → Pixel) (shown : ℕ → ℕ → Rgb) → Holds old.card f → Shows old.card shown → Shows new.card (swapped_in rects f shown)) → OnlyShown old.card new.card → KeepSides old.card new.card →
      counted new ≡ flipped_where (fill old.card rects) (paid_where (touch old.card rects) false (counted old)) → IsMade v c Deed_is.Swap old new
  swap_made shows others keep owes = record {
    sides = keep;
    held = λ f is. back_left old.card new.card f others is;
    shown = λ f shown is was. subst (Shows new.card) (λ k x y. if are.has x y k then (f x y).colour else shown x y) (shows f shown is was);
    owes = owes ∙ (λ k. flipped_where (filled k) (paid_where (touched k) false (counted old)));
  }

  -- the texture that is used draws as the one that is bound does
  used_same : (mode : TexMode) (wrap : Wrap) (textures : List Texture) (bound : Option ℕ) (t : Triangle) (x y : ℤ) (colour : Rgba) →
      with_texel mode (given_image (texture_bound textures (texture_used mode bound))) wrap t x y colour ≡ with_texel mode (own_image textures bound) wrap t x y colour
  used_same Mode_is.Off wrap textures bound t x y colour = refl
  used_same Mode_is.Replace wrap textures bound t x y colour = refl
  used_same Mode_is.Modulate wrap textures bound t x y colour = refl

  pub draw_made : (corner : Point) (state : State) (image : Option Texture) (t : Triangle) → (corner.x, corner.y) ≡ origin (world_of v).stack (window_of v.scene c) → state ≡ state_now v c → image ≡ texture_bound (textures_of v.scene c) (textured_with (state_now v c)) →
      ((f : ℕ → ℕ → Pixel) → Holds old.card f → Holds new.card (drawn_in rects corner (rules_of state) (given_image image) t f)) → OnlyDrawn old.card new.card → KeepSides old.card new.card →
      counted new ≡ paid_where (touch old.card rects) false (counted old) → IsMade v c (Deed_is.Triangle t) old new
  draw_made corner state image t stands is found held others keep owes = record {
    sides = keep;
    held = λ f holds. subst (Holds new.card) (λ k x y. same f x y k) (held f holds);
    shown = λ f shown holds shows. front_left old.card new.card shown others shows;
    owes = owes ∙ (λ k. paid_where (touched k) false (counted old));
  }
    where
      drawn : (x y : ℕ) (under : Pixel) → fragment (rules_of state) (given_image image) t (pos x -ℤ corner.x) (pos y -ℤ corner.y) under ≡ fragment (rules_of (state_now v c)) (own_image (textures_of v.scene c) (state_now v c).bound) t (pos x -ℤ (origin (world_of v).stack (window_of v.scene c)).0) (pos y -ℤ (origin (world_of v).stack (window_of v.scene c)).1) under
      drawn x y under =
          (λ k. fragment (rules_of (is k)) (given_image (found k)) t (pos x -ℤ (stands k).0) (pos y -ℤ (stands k).1) under)
          ∙ fragment_same (rules_of (state_now v c)) (given_image (texture_bound (textures_of v.scene c) (textured_with (state_now v c)))) (own_image (textures_of v.scene c) (state_now v c).bound) t (pos x -ℤ (origin (world_of v).stack (window_of v.scene c)).0) (pos y -ℤ (origin (world_of v).stack (window_of v.scene c)).1) under
          (used_same (state_now v c).tex_mode (state_now v c).wrap (textures_of v.scene c) (state_now v c).bound t (pos x -ℤ (origin (world_of v).stack (window_of v.scene c)).0) (pos y -ℤ (origin (world_of v).stack (window_of v.scene c)).1))

      same : (f : ℕ → ℕ → Pixel) (x y : ℕ) → drawn_in rects corner (rules_of state) (given_image image) t f x y ≡ back_made v c (Deed_is.Triangle t) f x y
      same f x y = λ k. if are.has x y k then drawn x y (f x y) k else f x y
