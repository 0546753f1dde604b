-- What the planes are, and what the card means.
use Rattle.std.proofs.Common.{◌≡◌, ℕ, ◌-◌, ◌*◌, List, Bool, true, false, ◌&&◌, if◌then◌else◌, refl, sym, ◌∙◌, ap, arith}
use Rattle.dri_base.specs.declared.colour.Rgb.{Rgb}
use Rattle.dri_base.specs.declared.colour.Pixel.{Pixel}
use Rattle.dri_base.specs.Planes.{plane}
use Rattle.dri_base.proofs.PlaneLists.{plane_same}
use Rattle.dri_base.specs.Rectangles.{in_rects}
use Rattle.dri_plane.specs.Grids.{ClipRect, Grid, pixel_count}
use Rattle.dri_plane.specs.Runs.{HoldPairs}
use Rattle.dri_flip.specs.Calls.{OnlyShown, cleared_in, copy_steps, swapped_in}
use Rattle.dri_flip.specs.Invariants.{IsFlipCard, meaning}
use Rattle.dri_flip.specs.Meanings.{HaveSides, Holds, IsFresh, KeepSides, Meaning, Shows}
use Rattle.dri_flip.specs.Places.{has_all}
use Rattle.dri_flip.specs.declared.card.FlipCard.TheInside.{Inside}
use Rattle.dri_flip.proofs.Pixels.{pairs_within}
use Rattle.dri_flip.proofs.Rects.{has_each}

-- pairs of planes that are others
pairs_in : (back back' : Grid Rgb) (depth depth' : Grid ℕ) (f : ℕ → ℕ → Pixel) → back ≡ back' → depth ≡ depth' → HoldPairs back' depth' f → HoldPairs back depth f
pairs_in back back' depth depth' f b d holds = rw (b, d) holds

-- back, where nothing is owed, and where a copy is
pub unowed : (front back : Grid Rgb) (b : Bool) → b ≡ false → (if b then front else back) ≡ back
unowed front back b e = rw e refl

pub owing : (front back : Grid Rgb) (b : Bool) → b ≡ true → (if b then front else back) ≡ front
owing front back b e = rw e refl

-- what a card holds inside once nothing is owed
module _ (c : Inside) (old v : Meaning) (view : meaning c ≡ v) (paid : v ≡ record old { owed = false }) where
  pub owed_inside : c.owed ≡ false
  owed_inside = ap (λ (m : Meaning). m.owed) view ∙ ap (λ (m : Meaning). m.owed) paid

  pub front_inside : c.front ≡ old.front
  front_inside = ap (λ (m : Meaning). m.front) view ∙ ap (λ (m : Meaning). m.front) paid

  pub back_inside : c.target.back ≡ old.back
  back_inside = sym (unowed c.front c.target.back c.owed owed_inside) ∙ (ap (λ (m : Meaning). m.back) view ∙ ap (λ (m : Meaning). m.back) paid)

  pub depth_inside : c.target.depth ≡ old.depth
  depth_inside = ap (λ (m : Meaning). m.depth) view ∙ ap (λ (m : Meaning). m.depth) paid

  pub held_inside : (f : ℕ → ℕ → Pixel) → Holds old f → HoldPairs c.target.back c.target.depth f
  held_inside f holds = pairs_in c.target.back old.back c.target.depth old.depth f back_inside depth_inside holds

  pub shown_inside : (shown : ℕ → ℕ → Rgb) → Shows old shown → c.front.pixels ≡ plane c.front.width c.front.height shown
  shown_inside shown shows = rw front_inside shows

  -- another front, other drawn planes, and the card that means them
  pub front_alone : (front : Grid Rgb) → ◌≡◌ {A = Meaning} (record { front = front; back = if c.owed then front else c.target.back; depth = c.target.depth; owed = c.owed }) (record old { front = front; owed = c.owed })
  front_alone front = λ i. record { front = front; back = (unowed front c.target.back c.owed owed_inside ∙ back_inside) i; depth = depth_inside i; owed = c.owed }

  pub drawn_alone : (back : Grid Rgb) (depth : Grid ℕ) → ◌≡◌ {A = Meaning} (record { front = c.front; back = if c.owed then c.front else back; depth = depth; owed = c.owed }) (record old { back = if c.owed then c.front else back; depth = depth; owed = c.owed })
  drawn_alone back depth = λ i. record { front = front_inside i; back = if c.owed then c.front else back; depth = depth; owed = c.owed }

  pub held_outside : (front back : Grid Rgb) (depth : Grid ℕ) (f : ℕ → ℕ → Pixel) → HoldPairs back depth f → HoldPairs (if c.owed then front else back) depth f
  held_outside front back depth f holds = pairs_in (if c.owed then front else back) back depth depth f (unowed front back c.owed owed_inside) refl holds

-- a copy that was owed is made
pub paid_meaning : (c : Inside) (v : Meaning) (new : Grid Rgb) → meaning c ≡ v → c.owed ≡ true → new ≡ c.front → ◌≡◌ {A = Meaning} (record { front = c.front; back = new; depth = c.target.depth; owed = false }) (record v { owed = false })
paid_meaning c v new view owed is = (λ i. record { front = c.front; back = (is ∙ sym (owing c.front c.target.back c.owed owed)) i; depth = c.target.depth; owed = false }) ∙ ap (λ (m : Meaning). record m { owed = false }) view

-- none was owed
pub unpaid_meaning : (c : Inside) (v : Meaning) → meaning c ≡ v → c.owed ≡ false → meaning c ≡ record v { owed = false }
unpaid_meaning c v view owed = (λ i. record { front = c.front; back = if c.owed then c.front else c.target.back; depth = c.target.depth; owed = owed i }) ∙ ap (λ (m : Meaning). record m { owed = false }) view

-- the steps of the copy
whole_count : (width height : ℕ) → (width - 0) * (height - 0) ≡ width * height
whole_count width height = let w : width - 0 ≡ width = omega arith in let h : height - 0 ≡ height = omega arith in rw (w, h) refl

pub paid_steps : (c : Inside) (v : Meaning) (rect : ClipRect) → meaning c ≡ v → c.owed ≡ true → rect ≡ record { x1 = 0; y1 = 0; x2 = c.front.width; y2 = c.front.height } → 2 * pixel_count rect ≡ copy_steps v true
paid_steps c v rect view owed is =
    ap (λ (r : ClipRect). 2 * pixel_count r) is ∙ (ap (λ (n : ℕ). 2 * n) (whole_count c.front.width c.front.height)
    ∙ (sym (ap (λ (b : Bool). if b && true then 2 * (c.front.width * c.front.height) else 0) owed) ∙ ap (λ (m : Meaning). copy_steps m true) view))

pub unpaid_steps : (c : Inside) (v : Meaning) → meaning c ≡ v → c.owed ≡ false → copy_steps v true ≡ 0
unpaid_steps c v view owed = sym (ap (λ (m : Meaning). copy_steps m true) view) ∙ ap (λ (b : Bool). if b && true then 2 * (c.front.width * c.front.height) else 0) owed

-- the planes are exchanged
pub flipped_meaning : (c : Inside) (v : Meaning) (new : Grid Rgb) → meaning c ≡ v → v.owed ≡ false → new ≡ c.target.back → ◌≡◌ {A = Meaning} (record { front = new; back = new; depth = c.target.depth; owed = true }) (record v { front = v.back; owed = true })
flipped_meaning c v new view owed is = λ i. record { front = front i; back = front i; depth = ap (λ (m : Meaning). m.depth) view i; owed = true } where
  front : new ≡ v.back
  front = is ∙ (sym (unowed c.front c.target.back c.owed (ap (λ (m : Meaning). m.owed) view ∙ owed)) ∙ ap (λ (m : Meaning). m.back) view)

pub flip_of_paid : (old mid new : Meaning) → mid ≡ record old { owed = false } → new ≡ record mid { front = mid.back; owed = true } → new ≡ record old { front = old.back; owed = true }
flip_of_paid old mid new paid is = is ∙ ap (λ (m : Meaning). record m { front = m.back; owed = true }) paid

pub flip_shows : (old new : Meaning) (width height : ℕ) (rects : List ClipRect) (f : ℕ → ℕ → Pixel) (shown : ℕ → ℕ → Rgb) → HaveSides old width height → new ≡ record old { front = old.back; owed = true } → has_all width height (in_rects rects) ≡ true → Holds old f → Shows new (swapped_in rects f shown)
flip_shows old new width height rects f shown sides is has holds =
    rw is (holds.colours ∙ plane_same old.back.width old.back.height _ _ (λ x y lx ly. each x y (has_each width height (in_rects rects) x y has (rw (← sides.back_width) lx) (rw (← sides.back_height) ly))))
  where
    each : (x y : ℕ) → in_rects rects x y ≡ true → (f x y).colour ≡ (if in_rects rects x y then (f x y).colour else shown x y)
    each x y e = rw e refl

pub flip_sides : (old new : Meaning) → new ≡ record old { front = old.back; owed = true } → KeepSides old new
flip_sides old new is width height sides = rw is (record {
  front_width = sides.back_width;
  front_height = sides.back_height;
  back_width = sides.back_width;
  back_height = sides.back_height;
  depth_width = sides.depth_width;
  depth_height = sides.depth_height;
})

pub flip_alone : (old new : Meaning) → new ≡ record old { front = old.back; owed = true } → OnlyShown old new
flip_alone old new is = is ∙ ap (λ (m : Meaning). record old { front = m.front; owed = m.owed }) (sym is)

-- the sides of a card are those of its planes
pub sides_inside : (c : Inside) → IsFlipCard c → HaveSides (meaning c) c.front.width c.front.height
sides_inside c fits = record {
  front_width = refl;
  front_height = refl;
  back_width = wide c.owed;
  back_height = high c.owed;
  depth_width = fits.depth_width;
  depth_height = fits.depth_height;
} where
  wide : (b : Bool) → (if b then c.front else c.target.back).width ≡ c.front.width
  wide true = refl
  wide false = fits.back_width

  high : (b : Bool) → (if b then c.front else c.target.back).height ≡ c.front.height
  high true = refl
  high false = fits.back_height

pub aligned : (c : Inside) (v : Meaning) → meaning c ≡ v → IsFlipCard c → HaveSides v v.front.width v.front.height
aligned c v view fits = rw (← view) (sides_inside c fits)

-- a card of which front alone, or the drawn planes alone, are others
pub keep_shown : (old new : Meaning) → OnlyShown old new → new.front.width ≡ old.front.width → new.front.height ≡ old.front.height → KeepSides old new
keep_shown old new only wide high width height sides = record {
  front_width = wide ∙ sides.front_width;
  front_height = high ∙ sides.front_height;
  back_width = ap (λ (m : Meaning). m.back.width) only ∙ sides.back_width;
  back_height = ap (λ (m : Meaning). m.back.height) only ∙ sides.back_height;
  depth_width = ap (λ (m : Meaning). m.depth.width) only ∙ sides.depth_width;
  depth_height = ap (λ (m : Meaning). m.depth.height) only ∙ sides.depth_height;
}

-- a clear of the whole card, whatever was owed
pub whole_held : (c : Inside) (v : Meaning) (back : Grid Rgb) (depth : Grid ℕ) (rects : List ClipRect) (colour : Rgb) (z : ℕ) (f g : ℕ → ℕ → Pixel) → meaning c ≡ v → IsFlipCard c → back.width ≡ c.target.back.width → back.height ≡ c.target.back.height → depth.width ≡ back.width → depth.height ≡ back.height
    → has_all v.front.width v.front.height (in_rects rects) ≡ true → HoldPairs back depth (cleared_in rects colour z g) → HoldPairs back depth (cleared_in rects colour z f)
whole_held c v back depth rects colour z f g view fits wide high deep_wide deep_high has = pairs_within back depth _ _ deep_wide deep_high (λ x y lx ly. each x y
    (has_each v.front.width v.front.height (in_rects rects) x y has (rw (← width) lx) (rw (← height) ly)))
  where
    width : back.width ≡ v.front.width
    width = wide ∙ (fits.back_width ∙ ap (λ (m : Meaning). m.front.width) view)

    height : back.height ≡ v.front.height
    height = high ∙ (fits.back_height ∙ ap (λ (m : Meaning). m.front.height) view)

    each : (x y : ℕ) → in_rects rects x y ≡ true → cleared_in rects colour z g x y ≡ cleared_in rects colour z f x y
    each x y e = rw e refl

pub whole_alone : (c : Inside) (v : Meaning) (back : Grid Rgb) (depth : Grid ℕ) → meaning c ≡ v → ◌≡◌ {A = Meaning} (record { front = c.front; back = back; depth = depth; owed = false }) (record v { back = back; depth = depth; owed = false })
whole_alone c v back depth view = λ i. record { front = (view i).front; back = back; depth = depth; owed = false }

-- the sides of what a card means once its planes are others with the same sides
pub sides_after : (c : Inside) (old v : Meaning) (front back : Grid Rgb) (depth : Grid ℕ) → meaning c ≡ v → v ≡ record old { owed = false } → IsFlipCard c → front.width ≡ c.front.width → front.height ≡ c.front.height → back.width ≡ c.target.back.width → back.height ≡ c.target.back.height
    → depth.width ≡ back.width → depth.height ≡ back.height → KeepSides old (record { front = front; back = if c.owed then front else back; depth = depth; owed = c.owed })
sides_after c old v front back depth view paid fits fw fh bw bh dw dh width height sides = record {
  front_width = fw ∙ across;
  front_height = fh ∙ down;
  back_width = ap (λ (g : Grid Rgb). g.width) drawn ∙ (bw ∙ (fits.back_width ∙ across));
  back_height = ap (λ (g : Grid Rgb). g.height) drawn ∙ (bh ∙ (fits.back_height ∙ down));
  depth_width = dw ∙ (bw ∙ (fits.back_width ∙ across));
  depth_height = dh ∙ (bh ∙ (fits.back_height ∙ down));
}
  where
    drawn : (if c.owed then front else back) ≡ back
    drawn = unowed front back c.owed (owed_inside c old v view paid)

    across : c.front.width ≡ width
    across = ap (λ (g : Grid Rgb). g.width) (front_inside c old v view paid) ∙ sides.front_width

    down : c.front.height ≡ height
    down = ap (λ (g : Grid Rgb). g.height) (front_inside c old v view paid) ∙ sides.front_height

-- and after a clear of the whole card
pub whole_sides : (c : Inside) (v : Meaning) (back : Grid Rgb) (depth : Grid ℕ) → meaning c ≡ v → IsFlipCard c → back.width ≡ c.target.back.width → back.height ≡ c.target.back.height → depth.width ≡ back.width → depth.height ≡ back.height
    → KeepSides v (record { front = c.front; back = back; depth = depth; owed = false })
whole_sides c v back depth view fits bw bh dw dh width height sides = record {
  front_width = across;
  front_height = down;
  back_width = bw ∙ (fits.back_width ∙ across);
  back_height = bh ∙ (fits.back_height ∙ down);
  depth_width = dw ∙ (bw ∙ (fits.back_width ∙ across));
  depth_height = dh ∙ (bh ∙ (fits.back_height ∙ down));
}
  where
    across : c.front.width ≡ width
    across = ap (λ (m : Meaning). m.front.width) view ∙ sides.front_width

    down : c.front.height ≡ height
    down = ap (λ (m : Meaning). m.front.height) view ∙ sides.front_height

-- a card that is fresh behind a front with these sides
pub fresh_front : (front : Grid Rgb) (width height : ℕ) (shown : ℕ → ℕ → Rgb) (v : Meaning) → front.width ≡ width → front.height ≡ height → front.pixels ≡ plane width height shown
    → ((g : ℕ → ℕ → Rgb) → front.pixels ≡ plane front.width front.height g → IsFresh front.width front.height g v) → IsFresh width height shown v
fresh_front front width height shown v wide high has fresh = rw (← wide, ← high) (fresh shown (rw (wide, high) has))
