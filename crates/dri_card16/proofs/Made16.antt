-- What the card's calls in a client's clips make, in the words of the replay.
use Rattle.std.proofs.Common.{◌≡◌, ◌<◌, ◌+◌, ◌-ℤ◌, ℕ, ℤ, pos, List, length, take, slice_index_or, Bool, true, false, if◌then◌else◌, Option, Some, None, refl, ◌∙◌, sym, ap}
use Rattle.dri_base.specs.Fragments.{Rules, draws, rules_of, shaded, with_texel, written}
use Rattle.dri_base.specs.Coverage.{quantity}
use Rattle.dri_base.specs.Planes.{in_rect}
use Rattle.dri_base.specs.Rectangles.{in_rects}
use Rattle.dri_base.specs.Scenes.{textures_of, window_of}
use Rattle.dri_base.specs.Texels.{Image, given_image, own_image, texture_bound}
use Rattle.dri_base.specs.declared.colour.Pixel.{Pixel}
use Rattle.dri_base.specs.declared.colour.Rgb.{Rgb}
use Rattle.dri_base.specs.declared.colour.Rgba.{Rgba}
use Rattle.dri_base.specs.declared.shape.Point.{Point}
use Rattle.dri_base.specs.declared.shape.Rect.{Rect}
use Rattle.dri_base.specs.declared.shape.Triangle.{Triangle}
use Rattle.dri_base.specs.declared.state.Registers.{Registers}
use Rattle.dri_base.specs.declared.state.State.{State}
use Rattle.dri_base.specs.declared.texture.Texture.{Texture}
use Rattle.dri_card.specs.Contents.{Contents, Holds, KeepSides, Shows, memory_of}
use Rattle.dri_card.specs.Drawing.{OnlyCarried, OnlyDrawn, OnlyShown, painted}
use Rattle.dri_card16.proofs.Making.{pair_kept}
use Rattle.dri_card16.specs.Calls.{drawn16}
use Rattle.dri_card16.specs.Following.{AreKept, IsMade16, ShowsKept, back_made_with, drawn16_in}
use Rattle.dri_card16.specs.declared.line.Line.{Line}
use Rattle.dri_card16.specs.Lines.{along, colour_in, draws_on, is_line, line_of, value_in}
use Rattle.dri_card16.specs.Packing.{kept}
use Rattle.dri_card16.specs.PixelRules.{kept_pair}
use Rattle.dri_card16.specs.Sixteen.{fragment16, rule16}
use Rattle.dri_clips.specs.Paints.{filled}
use Rattle.dri_clips.specs.declared.touched.Carry.{Carry}
use Rattle.dri_clips.specs.declared.touched.Paint.{Paint}
use Rattle.dri_clips.specs.declared.touched.Touched.{Touched}
use Rattle.dri_draw.proofs.Drawn.{holds_same, holds_shown, shows_same}
use Rattle.dri_draw.specs.Drawing.{OnlyDrawnOn, cleared_in, in_clips, swapped_in}
use Rattle.dri_journal.specs.Replays.{AreCurrentClips, ReplayState, world_of}
use Rattle.dri_journal.specs.declared.deed.Deed.TheVariants as Deed_is
use Rattle.dri_meaning.specs.Canvases.{bound_first}
use Rattle.dri_model.specs.Stacks.{carried, origin, pixel_in}
use Rattle.dri_model.specs.Words.{card_image, rules_in}
use Rattle.dri_replay.proofs.Cards.{front_left, loaded_sides}
use Rattle.dri_replay.proofs.Loading.{HasLoaded, texel_given, used_given}
use Rattle.dri_replay.proofs.Stacked.{filled_next}
use Rattle.dri_replay.specs.Cards.{OnlyLoaded}
use Rattle.dri_replay.specs.Makings.{carried_along, clips_now, front_made, state_now}
use Rattle.dri_texel.specs.Pixels.{coloured, texel_used}

-- images that give the same texels draw the same
fragment16_same : (r : Rules) (a b : Option Image) (t : Triangle) (x y : ℤ) (under : Pixel) → ((c : Rgba) → with_texel r.tex_mode a r.wrap t x y c ≡ with_texel r.tex_mode b r.wrap t x y c) →
    ((u v : ℕ) → texel_used r.tex_mode a r.wrap u v ≡ texel_used r.tex_mode b r.wrap u v) → fragment16 r a t x y under ≡ fragment16 r b t x y under
fragment16_same r a b t x y under given used = λ k.
    if is_line t then
    (if draws_on r l x y under.depth then kept_pair kept (written r (coloured r.tex_mode (used (value_in l (λ v. v.s) n) (value_in l (λ v. v.t) n) k) (colour_in r.shade l n)) (value_in l (λ v. v.z) n) under) else under)
    else (if draws r t x y under.depth then kept_pair kept (written r (given (shaded r.shade t x y) k) (quantity t (λ v. v.z) x y) under) else under)
  where
    l : Line
    l = line_of t

    n : ℤ
    n = along l x y

-- once a client's state and image are loaded, the card draws by them
pub draws16_own : (v : ReplayState) (c : ℕ) (state : State) (image : Option Texture) (card : Contents) → image ≡ texture_bound (textures_of v.scene c) state.bound → state ≡ state_now v c → HasLoaded state image card →
    (t : Triangle) (x y : ℤ) (under : Pixel) → drawn16 card t x y under ≡ fragment16 (rules_of (state_now v c)) (own_image (textures_of v.scene c) (state_now v c).bound) t x y under
draws16_own v c state image card found own has t x y under =
    ap (λ (r : Registers). fragment16 (rules_in r) (card_image (memory_of card) r.bound) t x y under) has.registers
    ∙ fragment16_same (rules_of state) (card_image (memory_of card) (bound_first image)) (given_image image) t x y under
    (λ k. texel_given (memory_of card) (rules_of state).tex_mode (rules_of state).wrap image t x y k has.bytes has.whole)
    (λ a b. used_given (memory_of card) (rules_of state).tex_mode (rules_of state).wrap image a b has.bytes has.whole)
    ∙ (λ k. fragment16 (rules_of (own k)) (given_image ((found ∙ ap (λ (st : State). texture_bound (textures_of v.scene c) st.bound) own) k)) t x y under)

-- one paint more
pub painted_kept : (old new : Contents) (ps : List Paint) (i : ℕ) (d : Paint) (front : ℕ → ℕ → Rgb) → i < length ps →
    ((shown : ℕ → ℕ → Rgb) → Shows old shown → Shows new (painted (slice_index_or ps i d).rect (kept (slice_index_or ps i d).colour) shown)) → ShowsKept old (filled (take i ps) front) → ShowsKept new (filled (take (i + 1) ps) front)
painted_kept old new ps i d front lt paints shows =
    shows_same new _ (λ x y. kept (filled (take (i + 1) ps) front x y)) (λ x y. by (in_rect (slice_index_or ps i d).rect x y) (slice_index_or ps i d).colour (filled (take i ps) front x y) ∙ ap kept (filled_next ps i d front lt x y))
    (paints (λ x y. kept (filled (take i ps) front x y)) shows)
  where
    by : (b : Bool) (p q : Rgb) → (if b then kept p else kept q) ≡ kept (if b then p else q)
    by true p q = refl
    by false p q = refl

-- what is carried is kept as what it was
along_kept : {A B : Type 0} (keep : A → B) (carry : Option Carry) (f : ℕ → ℕ → A) (x y : ℕ) → carried_along carry (λ a b. keep (f a b)) x y ≡ keep (carried_along carry f x y)
along_kept keep None f x y = refl
along_kept keep (Some carry) f x y = by (pixel_in (in_rects carry.rects) (pos x -ℤ carry.dx) (pos y -ℤ carry.dy))
  where
    by : (from : Option (ℕ × ℕ)) → carried from (λ a b. keep (f a b)) (keep (f x y)) ≡ keep (carried from f (f x y))
    by None = refl
    by (Some p) = refl

pub carried_kept : (card : Contents) (carry : Option Carry) (front : ℕ → ℕ → Rgb) → Shows card (carried_along carry (λ x y. kept (front x y))) → ShowsKept card (carried_along carry front)
carried_kept card carry front shows = shows_same card _ (λ x y. kept (carried_along carry front x y)) (along_kept kept carry front) shows

-- nothing is done
pub nothing_made : (v : ReplayState) (c : ℕ) (card : Contents) → IsMade16 v c Deed_is.Nothing card card
nothing_made v c card = record {
  sides = λ w h s. s;
  bytes = refl;
  held = λ f are is. holds_same card f (back_made_with rule16 v c Deed_is.Nothing f) (λ x y. sym (pair_kept rule16 (f x y) (are x y))) is;
  shown = λ f shown are good is shows. shows_same card shown (λ x y. kept (shown x y)) (λ x y. sym (good x y)) shows;
}

module _ (v : ReplayState) (c : ℕ) (clips : List Rect) (old new : Contents) (are : AreCurrentClips v c clips) where
  -- the clips at a place of the screen
  has : (x y : ℕ) → in_clips clips x y ≡ clips_now v c x y
  has x y = are (pos x) (pos y)

  pub clear_made : (colour : Rgb) (depth : ℕ) → ((f : ℕ → ℕ → Pixel) → Holds old f → Holds new (cleared_in clips (kept colour) depth f)) → OnlyDrawn old new → KeepSides old new → IsMade16 v c (Deed_is.Clear colour depth) old new
  clear_made colour depth held others keep = record {
    sides = keep;
    bytes = ap (λ (k : Contents). length k.memory) others;
    held = λ f kept_f is. holds_same new _ (back_made_with rule16 v c (Deed_is.Clear colour depth) f) (λ x y. by f x y (kept_f x y) (clips_now v c x y) (has x y)) (held f is);
    shown = λ f shown kept_f good is shows. shows_same new shown (λ x y. kept (shown x y)) (λ x y. sym (good x y)) (front_left old new shown (ap (λ (k : Contents). k.front) others) shows);
  }
    where
      by : (f : ℕ → ℕ → Pixel) (x y : ℕ) → kept (f x y).colour ≡ (f x y).colour → (b : Bool) → in_clips clips x y ≡ b →
          (if in_clips clips x y then record { colour = kept colour; depth = depth } else f x y) ≡ kept_pair kept (if b then record { colour = colour; depth = depth } else f x y)
      by f x y are_kept true e = rw e refl
      by f x y are_kept false e = rw e (sym (pair_kept rule16 (f x y) are_kept))

  pub swap_made : ((f : ℕ → ℕ → Pixel) (shown : ℕ → ℕ → Rgb) → Holds old f → Shows old shown → Shows new (swapped_in clips f shown)) → OnlyShown old new → KeepSides old new → IsMade16 v c Deed_is.Swap old new
  swap_made shows others keep = record {
    sides = keep;
    bytes = ap (λ (k : Contents). length k.memory) others;
    held = λ f kept_f is. holds_same new f (back_made_with rule16 v c Deed_is.Swap f) (λ x y. sym (pair_kept rule16 (f x y) (kept_f x y))) (holds_shown old new f others is);
    shown = λ f shown kept_f good is was. shows_same new _ (λ x y. kept (front_made v c Deed_is.Swap f shown x y)) (λ x y. by (f x y).colour (shown x y) (kept_f x y) (good x y) (in_clips clips x y) (clips_now v c x y) (has x y)) (shows f shown is was);
  }
    where
      by : (p q : Rgb) → kept p ≡ p → kept q ≡ q → (a b : Bool) → a ≡ b → (if a then p else q) ≡ kept (if b then p else q)
      by p q one other a true same = ap (λ (e : Bool). if e then p else q) same ∙ sym one
      by p q one other a false same = ap (λ (e : Bool). if e then p else q) same ∙ sym other

  pub draw_made : (mid : Contents) (corner : Point) (t : Triangle) → (corner.x, corner.y) ≡ origin (world_of v).stack (window_of v.scene c) → OnlyLoaded old mid → length mid.memory ≡ length old.memory →
      ((t : Triangle) (x y : ℤ) (under : Pixel) → drawn16 mid t x y under ≡ fragment16 (rules_of (state_now v c)) (own_image (textures_of v.scene c) (state_now v c).bound) t x y under) →
      ((f : ℕ → ℕ → Pixel) → Holds mid f → Holds new (drawn16_in mid corner t clips f)) → OnlyDrawnOn mid new → KeepSides mid new → IsMade16 v c (Deed_is.Triangle t) old new
  draw_made mid corner t stands loads len draws held others keep = record {
    sides = λ w h s. keep w h (loaded_sides old mid loads w h s);
    bytes = ap (λ (k : Contents). length k.memory) others ∙ len;
    held = λ f kept_f is. holds_same new (drawn16_in mid corner t clips f) (back_made_with rule16 v c (Deed_is.Triangle t) f) (same f) (held f (on_mid f is));
    shown = λ f shown kept_f good is shows. shows_same new shown (λ x y. kept (shown x y)) (λ x y. sym (good x y)) (front_left old new shown (ap (λ (k : Contents). k.front) others ∙ ap (λ (k : Contents). k.front) loads) shows);
  }
    where
      on_mid : (f : ℕ → ℕ → Pixel) → Holds old f → Holds mid f
      on_mid f is = record { colours = rw (ap (λ (k : Contents). k.back) loads) is.colours; depths = rw (ap (λ (k : Contents). k.depth) loads) is.depths }

      at_place : (x y : ℕ) (under : Pixel) → drawn16 mid t (pos x -ℤ corner.x) (pos y -ℤ corner.y) under ≡ fragment16 (rules_of (state_now v c)) (own_image (textures_of v.scene c) (state_now v c).bound) t (pos x -ℤ (origin (world_of v).stack (window_of v.scene c)).0) (pos y -ℤ (origin (world_of v).stack (window_of v.scene c)).1) under
      at_place x y under = draws t (pos x -ℤ corner.x) (pos y -ℤ corner.y) under ∙ (λ k. fragment16 (rules_of (state_now v c)) (own_image (textures_of v.scene c) (state_now v c).bound) t (pos x -ℤ (stands k).0) (pos y -ℤ (stands k).1) under)

      same : (f : ℕ → ℕ → Pixel) (x y : ℕ) → drawn16_in mid corner t clips f x y ≡ back_made_with rule16 v c (Deed_is.Triangle t) f x y
      same f x y = λ k. if has x y k then at_place x y (f x y) k else f x y

-- what a new stack leaves is shown
pub show_made : (v : ReplayState) (c : ℕ) (touched : Touched) (old new : Contents) → ((shown : ℕ → ℕ → Rgb) → ShowsKept old shown → ShowsKept new (filled touched.paints (carried_along touched.carry shown))) →
    ((f : ℕ → ℕ → Pixel) → Holds old f → Holds new (carried_along touched.carry f)) → OnlyCarried old new → KeepSides old new → IsMade16 v c (Deed_is.Touched touched) old new
show_made v c touched old new shows held others keep = record {
  sides = keep;
  bytes = ap (λ (k : Contents). length k.memory) others;
  held = λ f kept_f is. holds_same new _ (back_made_with rule16 v c (Deed_is.Touched touched) f) (λ x y. stays f kept_f x y) (held f is);
  shown = λ f shown kept_f good is was. shows shown (shows_same old shown (λ x y. kept (shown x y)) (λ x y. sym (good x y)) was);
}
  where
    stays : (f : ℕ → ℕ → Pixel) → AreKept (λ x y. (f x y).colour) → (x y : ℕ) → carried_along touched.carry f x y ≡ kept_pair kept (carried_along touched.carry f x y)
    stays f kept_f x y = sym (λ k. carried_along touched.carry (λ a b. pair_kept rule16 (f a b) (kept_f a b) k) x y) ∙ along_kept (kept_pair kept) touched.carry f x y
