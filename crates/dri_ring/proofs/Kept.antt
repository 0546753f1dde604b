-- Planes as functions of their places: what a plane shows, read back; and planes that are the same on a screen.
use Rattle.std.proofs.Common.{◌≡◌, ◌<◌, ◌+◌, ◌*◌, ℕ, pos, List, [], Bool, true, false, refl, sym, ◌∙◌, ap, arith, subst}
use Rattle.std.proofs.lemmas.Bool.Decides.{nat_tests}
use Rattle.std.proofs.lemmas.Option.{get_or_from_slice_get}
use Rattle.dri_base.specs.declared.colour.Pixel.{Pixel}
use Rattle.dri_base.specs.declared.colour.Rgb.{Rgb}
use Rattle.dri_base.specs.declared.scene.Scene.{Scene}
use Rattle.dri_base.specs.declared.shape.Rect.{Rect}
use Rattle.dri_base.specs.Planes.{plane}
use Rattle.dri_base.proofs.PlaneLists.{plane_at, plane_same}
use Rattle.dri_card.specs.Contents.{blank}
use Rattle.dri_draw.specs.Drawing.{in_clips}
use Rattle.dri_plane.specs.Grids.{Grid}
use Rattle.dri_ring.specs.Jobs.{AreWithin, IsGood, Planes, effect, on_screen}
use Rattle.dri_ring.specs.Rings.{Agree, HaveSides, Show, pixel_of, read}
use Rattle.dri_ring.specs.declared.job.Job.{Job}
use Rattle.dri_ring.specs.declared.job.Job.TheVariants as Job_is

-- a place that is tested so
below : (width height x y : ℕ) → on_screen width height x y ≡ true → (x < width) × (y < height)
below width height x y e = (grind (arith, nat_tests), grind (arith, nat_tests))

test : (width height x y : ℕ) → x < width → y < height → on_screen width height x y ≡ true
test width height x y lx ly = grind (arith, nat_tests)

-- a plane's pixel, where the plane shows this
pub pixel_is : {A : Type 0} (other : A) (g : Grid A) (f : ℕ → ℕ → A) (x y : ℕ) → g.pixels ≡ plane g.width g.height f → x < g.width → y < g.height → pixel_of other g x y ≡ f x y
pixel_is other g f x y is lx ly = rw (test g.width g.height x y lx ly)
    (get_or_from_slice_get g.pixels (y * g.width + x) (f x y) other (rw is (plane_at g.width g.height f x y lx ly)))

-- and beyond its sides
pub pixel_off : {A : Type 0} (other : A) (g : Grid A) (x y : ℕ) → on_screen g.width g.height x y ≡ false → pixel_of other g x y ≡ other
pixel_off other g x y e = rw e refl

-- a plane shows its own pixels
pub grid_shows : {A : Type 0} (other : A) (g : Grid A) (f : ℕ → ℕ → A) → g.pixels ≡ plane g.width g.height f → g.pixels ≡ plane g.width g.height (pixel_of other g)
grid_shows other g f is = is ∙ plane_same g.width g.height f (pixel_of other g) (λ x y lx ly. sym (pixel_is other g f x y is lx ly))

-- three planes show what is read of them
pub shows_own : (front back : Grid Rgb) (depth : Grid ℕ) (p : Planes) → Show front back depth p → Show front back depth (read front back depth)
shows_own front back depth p is = record {
  shown = grid_shows blank.colour front p.front is.shown;
  held = record {
    colours = grid_shows blank.colour back (λ x y. (p.back x y).colour) is.held.colours;
    depths = grid_shows blank.depth depth (λ x y. (p.back x y).depth) is.held.depths;
  };
}

-- beyond a screen there is nothing
pub record IsBlankBeyond (width height : ℕ) (p : Planes) : Type 0 where
  pub front : (x y : ℕ) → on_screen width height x y ≡ false → p.front x y ≡ blank.colour
  pub back : (x y : ℕ) → on_screen width height x y ≡ false → p.back x y ≡ blank

pub read_blank : (front back : Grid Rgb) (depth : Grid ℕ) (width height : ℕ) → HaveSides front back depth width height → IsBlankBeyond width height (read front back depth)
read_blank front back depth width height sides = record {
  front = λ x y e. pixel_off blank.colour front x y (rw (sides.front_width, sides.front_height) e);
  back = λ x y e. λ k. record {
    colour = pixel_off blank.colour back x y (rw (sides.back_width, sides.back_height) e) k;
    depth = pixel_off blank.depth depth x y (rw (sides.depth_width, sides.depth_height) e) k;
  };
}

-- planes that show this, and nothing beyond the screen, are read so
pub read_is : (front back : Grid Rgb) (depth : Grid ℕ) (width height : ℕ) (p : Planes) → HaveSides front back depth width height → Show front back depth p → IsBlankBeyond width height p → read front back depth ≡ p
read_is front back depth width height p sides is off = λ k. record {
  front = λ x y. in_front x y (on_screen width height x y) refl k;
  back = λ x y. behind x y (on_screen width height x y) refl k;
}
  where
    in_front : (x y : ℕ) (b : Bool) → on_screen width height x y ≡ b → pixel_of blank.colour front x y ≡ p.front x y
    in_front x y true e = let l = below width height x y e in pixel_is blank.colour front p.front x y is.shown (rw sides.front_width l.0) (rw sides.front_height l.1)
    in_front x y false e = (read_blank front back depth width height sides).front x y e ∙ sym (off.front x y e)

    behind : (x y : ℕ) (b : Bool) → on_screen width height x y ≡ b → (read front back depth).back x y ≡ p.back x y
    behind x y true e = let l = below width height x y e in λ k. record {
      colour = pixel_is blank.colour back (λ a b. (p.back a b).colour) x y is.held.colours (rw sides.back_width l.0) (rw sides.back_height l.1) k;
      depth = pixel_is blank.depth depth (λ a b. (p.back a b).depth) x y is.held.depths (rw sides.depth_width l.0) (rw sides.depth_height l.1) k;
    }
    behind x y false e = (read_blank front back depth width height sides).back x y e ∙ sym (off.back x y e)

-- clips within the screen have no place beyond it
clips_off : (width height : ℕ) (clips : List Rect) (x y : ℕ) → AreWithin width height clips → on_screen width height x y ≡ false → in_clips clips x y ≡ false
clips_off width height clips x y within e = by (in_clips clips x y) refl
  where
    by : (b : Bool) → in_clips clips x y ≡ b → b ≡ false
    by false is = refl
    by true is = sym (within (pos x) (pos y) is) ∙ e

-- a good job changes nothing beyond the screen
pub effect_blank : (s : Scene) (job : Job) (p : Planes) → IsGood s job → IsBlankBeyond s.width s.height p → IsBlankBeyond s.width s.height (effect s p job)
effect_blank s (Job_is.Clear clips colour depth) p good off = record {
  front = off.front;
  back = λ x y e. rw (clips_off s.width s.height clips x y good e) (off.back x y e);
}
effect_blank s (Job_is.Draw clips origin words client texture t) p good off = record {
  front = off.front;
  back = λ x y e. rw (clips_off s.width s.height clips x y good.0 e) (off.back x y e);
}
effect_blank s (Job_is.Swap clips) p good off = record {
  front = λ x y e. rw (clips_off s.width s.height clips x y good e) (off.front x y e);
  back = off.back;
}

-- what is read of planes is what they show
pub read_agrees : (front back : Grid Rgb) (depth : Grid ℕ) (width height : ℕ) (p : Planes) → HaveSides front back depth width height → Show front back depth p → Agree width height (read front back depth) p
read_agrees front back depth width height p sides is = record {
  front = λ x y lx ly. pixel_is blank.colour front p.front x y is.shown (rw sides.front_width lx) (rw sides.front_height ly);
  back = λ x y lx ly. λ k. record {
    colour = pixel_is blank.colour back (λ a b. (p.back a b).colour) x y is.held.colours (rw sides.back_width lx) (rw sides.back_height ly) k;
    depth = pixel_is blank.depth depth (λ a b. (p.back a b).depth) x y is.held.depths (rw sides.depth_width lx) (rw sides.depth_height ly) k;
  };
}

-- planes show what agrees with what they show
pub shows_agreeing : (front back : Grid Rgb) (depth : Grid ℕ) (width height : ℕ) (p q : Planes) → HaveSides front back depth width height → Agree width height p q → Show front back depth p → Show front back depth q
shows_agreeing front back depth width height p q sides agree is = record {
  shown = is.shown ∙ plane_same front.width front.height p.front q.front (λ x y lx ly. agree.front x y (subst (λ n. x < n) sides.front_width lx) (subst (λ n. y < n) sides.front_height ly));
  held = record {
    colours = is.held.colours ∙ plane_same back.width back.height _ _ (λ x y lx ly. ap (λ (u : Pixel). u.colour) (agree.back x y (subst (λ n. x < n) sides.back_width lx) (subst (λ n. y < n) sides.back_height ly)));
    depths = is.held.depths ∙ plane_same depth.width depth.height _ _ (λ x y lx ly. ap (λ (u : Pixel). u.depth) (agree.back x y (subst (λ n. x < n) sides.depth_width lx) (subst (λ n. y < n) sides.depth_height ly)));
  };
}

-- a job makes the same of planes that agree
pub effect_agrees : (s : Scene) (width height : ℕ) (job : Job) (p q : Planes) → Agree width height p q → Agree width height (effect s p job) (effect s q job)
effect_agrees s width height (Job_is.Clear clips colour depth) p q agree = record { front = agree.front; back = λ x y lx ly. rw (agree.back x y lx ly) refl }
effect_agrees s width height (Job_is.Draw clips origin words client texture t) p q agree = record { front = agree.front; back = λ x y lx ly. rw (agree.back x y lx ly) refl }
effect_agrees s width height (Job_is.Swap clips) p q agree = record { front = λ x y lx ly. rw (agree.front x y lx ly, agree.back x y lx ly) refl; back = agree.back }
