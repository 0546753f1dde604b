-- What each deed makes of a card, in the words of the replay.
use Rattle.std.proofs.Common.{◌≡◌, ◌-ℤ◌, ℕ, ℤ, pos, List, length, if◌then◌else◌, refl, ◌∙◌, ap, subst}
use Rattle.dri_base.specs.Fragments.{fragment, rules_of}
use Rattle.dri_base.specs.Scenes.{textures_of, window_of}
use Rattle.dri_base.specs.Texels.{own_image}
use Rattle.dri_base.specs.declared.colour.Pixel.{Pixel}
use Rattle.dri_base.specs.declared.colour.Rgb.{Rgb}
use Rattle.dri_base.specs.declared.shape.Point.{Point}
use Rattle.dri_base.specs.declared.shape.Rect.{Rect}
use Rattle.dri_base.specs.declared.shape.Triangle.{Triangle}
use Rattle.dri_card.specs.Contents.{Contents, Holds, KeepSides, Shows}
use Rattle.dri_card.specs.Drawing.{OnlyCarried, OnlyDrawn, OnlyShown, drawn}
use Rattle.dri_clips.specs.Paints.{filled}
use Rattle.dri_clips.specs.declared.touched.Touched.{Touched}
use Rattle.dri_draw.proofs.Drawn.{holds_same, holds_shown}
use Rattle.dri_draw.specs.Drawing.{OnlyDrawnOn, cleared_in, drawn_in, in_clips, swapped_in}
use Rattle.dri_history.specs.Follows.{IsMade}
use Rattle.dri_journal.specs.Replays.{AreCurrentClips, ReplayState, world_of}
use Rattle.dri_journal.specs.declared.deed.Deed.TheVariants as Deed_is
use Rattle.dri_model.specs.Stacks.{origin}
use Rattle.dri_replay.proofs.Cards.{front_left, loaded_sides}
use Rattle.dri_replay.specs.Cards.{OnlyLoaded}
use Rattle.dri_replay.specs.Makings.{back_made, carried_along, clips_now, state_now}

-- nothing is done
pub nothing_made : (v : ReplayState) (c : ℕ) (card : Contents) → IsMade v c Deed_is.Nothing card card
nothing_made v c card = record { sides = λ w h s. s; bytes = refl; held = λ f is. is; shown = λ f shown is shows. shows }

module _ (v : ReplayState) (c : ℕ) (clips : List Rect) (old new : Contents) (are : AreCurrentClips v c clips) where
  -- the clips at a place of the screen
  has : (x y : ℕ) → in_clips clips x y ≡ clips_now v c x y
  has x y = are (pos x) (pos y)

  pub clear_made : (colour : Rgb) (depth : ℕ) → ((f : ℕ → ℕ → Pixel) → Holds old f → Holds new (cleared_in clips colour depth f)) → OnlyDrawn old new → KeepSides old new → IsMade v c (Deed_is.Clear colour depth) old new
  clear_made colour depth held others keep = record {
    sides = keep;
    bytes = ap (λ (k : Contents). length k.memory) others;
    held = λ f is. subst (Holds new) (λ k x y. if has x y k then record { colour = colour; depth = depth } else f x y) (held f is);
    shown = λ f shown is shows. front_left old new shown (ap (λ (k : Contents). k.front) others) shows;
  }

  pub swap_made : ((f : ℕ → ℕ → Pixel) (shown : ℕ → ℕ → Rgb) → Holds old f → Shows old shown → Shows new (swapped_in clips f shown)) → OnlyShown old new → KeepSides old new → IsMade v c Deed_is.Swap old new
  swap_made shows others keep = record {
    sides = keep;
    bytes = ap (λ (k : Contents). length k.memory) others;
    held = λ f is. holds_shown old new f others is;
    shown = λ f shown is was. subst (Shows new) (λ k x y. if has x y k then (f x y).colour else shown x y) (shows f shown is was);
  }

  pub draw_made : (mid : Contents) (corner : Point) (t : Triangle) → (corner.x, corner.y) ≡ origin (world_of v).stack (window_of v.scene c) → OnlyLoaded old mid → length mid.memory ≡ length old.memory →
      ((t : Triangle) (x y : ℤ) (under : Pixel) → drawn mid t x y under ≡ fragment (rules_of (state_now v c)) (own_image (textures_of v.scene c) (state_now v c).bound) t x y under) →
      ((f : ℕ → ℕ → Pixel) → Holds mid f → Holds new (drawn_in mid corner t clips f)) → OnlyDrawnOn mid new → KeepSides mid new → IsMade v c (Deed_is.Triangle t) old new
  draw_made mid corner t stands loads len draws held others keep = record {
    sides = λ w h s. keep w h (loaded_sides old mid loads w h s);
    bytes = ap (λ (k : Contents). length k.memory) others ∙ len;
    held = λ f is. holds_same new (drawn_in mid corner t clips f) (back_made v c (Deed_is.Triangle t) f) (same f) (held f (kept f is));
    shown = λ f shown is shows. front_left old new shown (ap (λ (k : Contents). k.front) others ∙ ap (λ (k : Contents). k.front) loads) shows;
  }
    where
      kept : (f : ℕ → ℕ → Pixel) → Holds old f → Holds mid f
      kept f is = record { colours = rw (ap (λ (k : Contents). k.back) loads) is.colours; depths = rw (ap (λ (k : Contents). k.depth) loads) is.depths }

      at_place : (x y : ℕ) (under : Pixel) → drawn mid t (pos x -ℤ corner.x) (pos y -ℤ corner.y) under ≡ fragment (rules_of (state_now v c)) (own_image (textures_of v.scene c) (state_now v c).bound) t (pos x -ℤ (origin (world_of v).stack (window_of v.scene c)).0) (pos y -ℤ (origin (world_of v).stack (window_of v.scene c)).1) under
      at_place x y under = draws t (pos x -ℤ corner.x) (pos y -ℤ corner.y) under ∙ (λ k. fragment (rules_of (state_now v c)) (own_image (textures_of v.scene c) (state_now v c).bound) t (pos x -ℤ (stands k).0) (pos y -ℤ (stands k).1) under)

      same : (f : ℕ → ℕ → Pixel) (x y : ℕ) → drawn_in mid corner t clips f x y ≡ back_made v c (Deed_is.Triangle t) f x y
      same f x y = λ k. if has x y k then at_place x y (f x y) k else f x y

-- what a new stack leaves is shown
pub show_made : (v : ReplayState) (c : ℕ) (touched : Touched) (old new : Contents) → ((shown : ℕ → ℕ → Rgb) → Shows old shown → Shows new (filled touched.paints (carried_along touched.carry shown))) →
    ((f : ℕ → ℕ → Pixel) → Holds old f → Holds new (carried_along touched.carry f)) → OnlyCarried old new → KeepSides old new → IsMade v c (Deed_is.Touched touched) old new
show_made v c touched old new shows held others keep = record {
  sides = keep;
  bytes = ap (λ (k : Contents). length k.memory) others;
  held = held;
  shown = λ f shown is was. shows shown was;
}
