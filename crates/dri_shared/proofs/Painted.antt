-- Paints one after the other, and what a new stack leaves on the card.
use Rattle.std.proofs.Common.{All, ◌≡◌, ◌≢◌, ◌<◌, ◌↔◌, ℕ, zero, suc, ◌+◌, ℤ, pos, ◌-ℤ◌, List, [], ◌∷◌, take, length, Bool, true, false, ◌&&◌, if◌then◌else◌, Option, Some, None, IfSome, slice_index_or, refl, ◌∙◌, sym, ap, subst, arith, AllPairs, Result, Ok, Err, OnOk, OnErr}
use Rattle.std.proofs.lemmas.Bool.Decides.{nat_tests}
use Rattle.std.proofs.lemmas.List.Sums.{sum_by_more}
use Rattle.std.specs.Option.{unwrap_or}
use Rattle.dri_base.specs.declared.colour.Pixel.{Pixel}
use Rattle.dri_base.specs.declared.colour.Rgb.{Rgb}
use Rattle.dri_base.specs.declared.scene.Window.{Window}
use Rattle.dri_base.specs.Planes.{in_rect}
use Rattle.dri_base.proofs.PlaneLists.{plane_same}
use Rattle.dri_card.specs.Contents.{Contents, HaveSides, Holds, KeepSides, Shows}
use Rattle.dri_card.specs.Drawing.{OnlyCarried, painted as painted_in}
use Rattle.dri_base.specs.declared.shape.ClipRect.{ClipRect}
use Rattle.dri_clips.specs.Boards.{IsRestacked, Screen, stamps_of}
use Rattle.dri_base.specs.Rectangles.{AreApart, in_rects}
use Rattle.dri_clips.specs.Paints.{ArePaints, IsCarried, IsOnScreen, StaysOnScreen, IsTouched, filled, paint_at}
use Rattle.dri_clips.specs.declared.change.ChangeFault.{ChangeFault}
use Rattle.dri_clips.specs.declared.change.ChangeFault.TheVariants.{NoWindow, OutOfRange, AlreadyMapped, NotMapped, OutOfMemory}
use Rattle.dri_clips.specs.declared.touched.Carry.{Carry}
use Rattle.dri_clips.specs.declared.touched.Paint.{Paint}
use Rattle.dri_clips.specs.declared.touched.Touched.{Touched}
use Rattle.dri_core.proofs.Stamps.{none_touched, unstamped, untouched}
use Rattle.dri_model.specs.Stacks.{Refusal, carried, carried_from, is_displaced, is_touched, moves_unless, painted, pixel_in, same_top, top, unless_refused}
use Rattle.dri_model.proofs.Moves.{carry_is, carry_then_paint}
use Rattle.dri_plane.specs.Grids.{pixel_count}
use Rattle.dri_plane.specs.Moves.{StaysInside}
use Rattle.dri_draw.specs.Drawing.{IsScreen}
use Rattle.dri_shared.specs.Drawing.{CanCarry, carried_along, painted_pixels}
use Rattle.dri_shared.specs.Holdings.{IsRestackedOn, carried_on}
use Rattle.dri_draw.proofs.Drawn.{holds_same, shows_same}

-- one paint more
pub filled_more : (ps : List Paint) (i : ℕ) (d : Paint) (front : ℕ → ℕ → Rgb) (x y : ℕ) → i < length ps →
    painted_in (slice_index_or ps i d).rect (slice_index_or ps i d).colour (filled (take i ps) front) x y ≡ filled (take (suc i) ps) front x y
filled_more [] i d front x y lt = absurd (omega arith)
filled_more (p ∷ ps) zero d front x y lt = refl
filled_more (p ∷ ps) (suc i) d front x y lt = filled_more ps i d (λ a b. if in_rect p.rect a b then p.colour else front a b) x y (omega arith)

pub filled_next : (ps : List Paint) (i : ℕ) (d : Paint) (front : ℕ → ℕ → Rgb) → i < length ps →
    (x y : ℕ) → painted_in (slice_index_or ps i d).rect (slice_index_or ps i d).colour (filled (take i ps) front) x y ≡ filled (take (i + 1) ps) front x y
filled_next ps i d front lt x y = subst (λ n. painted_in (slice_index_or ps i d).rect (slice_index_or ps i d).colour (filled (take i ps) front) x y ≡ filled (take n ps) front x y) (next i) (filled_more ps i d front x y lt)
  where
    next : (n : ℕ) → suc n ≡ n + 1
    next n = omega arith

-- where the sides stay, paints of the screen stay on it
pub paints_kept : (a b : Contents) (ps : List Paint) → IsScreen a → KeepSides a b → All (λ p. IsOnScreen a.front.width a.front.height p.rect) ps → All (λ p. IsOnScreen b.front.width b.front.height p.rect) ps
paints_kept a b ps screen keep on = rw (s.front_width, s.front_height) on
  where
    s : HaveSides b a.front.width a.front.height
    s = keep a.front.width a.front.height screen.sides

-- one paint more, and as many pixels
pub painted_more : (ps : List Paint) (i : ℕ) (d : Paint) (before now after : ℕ) → i < length ps → now ≡ before + painted_pixels (take i ps) → after ≡ now + pixel_count (slice_index_or ps i d).rect →
    after ≡ before + painted_pixels (take (i + 1) ps)
painted_more ps i d before now after lt so one = let more = sum_by_more (λ (p : Paint). pixel_count p.rect) ps i d lt in omega (arith, more)

-- where no paint has the pixel it isn't painted
unpainted : (ps : List Paint) (x y : ℕ) → ((k : ℕ) (d : Paint) → k < length ps → in_rect (slice_index_or ps k d).rect x y ≡ false) → paint_at ps x y ≡ None
unpainted [] x y none = refl
unpainted (p ∷ ps) x y none = rw (none 0 p (omega arith)) (unpainted ps x y (λ k d lt. none (suc k) d (omega arith)))

-- the colour that was painted, or the one before
filled_at : (ps : List Paint) (front : ℕ → ℕ → Rgb) (x y : ℕ) → AllPairs (λ p q. AreApart p.rect q.rect) ps → filled ps front x y ≡ unwrap_or (paint_at ps x y) (front x y)
filled_at [] front x y apart = refl
filled_at (p ∷ ps) front x y apart = filled_at ps (λ a b. if in_rect p.rect a b then p.colour else front a b) x y (λ i j d lt below. apart (suc i) (suc j) d (omega arith) (omega arith)) ∙ here (in_rect p.rect x y) refl
  where
    others : in_rect p.rect x y ≡ true → (k : ℕ) (d : Paint) → k < length ps → in_rect (slice_index_or ps k d).rect x y ≡ false
    others h k d lt = let both = apart 0 (suc k) d (omega arith) (omega arith) x y in second (in_rect p.rect x y) (in_rect (slice_index_or ps k d).rect x y) h both
      where
        second : (a b : Bool) → a ≡ true → (a && b) ≡ false → b ≡ false
        second true b e h = h
        second false b e h = grind (arith, nat_tests)

    here : (b : Bool) → in_rect p.rect x y ≡ b → unwrap_or (paint_at ps x y) (if in_rect p.rect x y then p.colour else front x y) ≡ unwrap_or (if in_rect p.rect x y then Some p.colour else paint_at ps x y) (front x y)
    here true h = rw (h, unpainted ps x y (others h)) refl
    here false h = rw h refl

-- what came along is what is carried
along_is : {A : Type 0} (width height : ℕ) (old new : List Window) (moved : Option ℕ) (carry : Option Carry) (f : ℕ → ℕ → A) → IsCarried width height old new moved carry →
    (x y : ℕ) → carried_along carry f x y ≡ carried (carried_from width height old new moved x y) f (f x y)
along_is width height old new moved None f is x y = rw (is x y) refl
along_is width height old new None (Some carry) f is x y = absurd is
along_is width height old new (Some n) (Some carry) f is x y =
    subst (λ (d : ℤ × ℤ). carried (pixel_in (in_rects carry.rects) (pos x -ℤ d.0) (pos y -ℤ d.1)) f (f x y) ≡ carried (carried_from width height old new (Some n) x y) f (f x y)) (sym is.way)
    (ap (λ (o : Option (ℕ × ℕ)). carried o f (f x y)) (carry_is width height old new n (in_rects carry.rects) is.pixels x y))

-- the paints of a new stack, made after the carrying, leave in front what it gives
filled_is : (width height : ℕ) (root : Rgb) (old new : List Window) (moved : Option ℕ) (touched : Touched) (front : ℕ → ℕ → Rgb) →
    IsCarried width height old new moved touched.carry → ArePaints width height root old new moved touched.paints →
    (x y : ℕ) → x < width → y < height → filled touched.paints (carried_along touched.carry front) x y ≡ carried (carried_from width height old new moved x y) front (painted root moved old new front x y)
filled_is width height root old new moved touched front along are x y lx ly =
    filled_at touched.paints (carried_along touched.carry front) x y are.apart ∙
    rw (are.right x y lx ly, along_is width height old new moved touched.carry front along x y) (carry_then_paint width height root old new moved front x y)

-- the pixels of the screen are enough
pub shows_on : (v : Contents) (width height : ℕ) (f g : ℕ → ℕ → Rgb) → v.front.width ≡ width → v.front.height ≡ height → ((x y : ℕ) → x < width → y < height → f x y ≡ g x y) → Shows v f → Shows v g
shows_on v width height f g w h same shows = shows ∙ plane_same v.front.width v.front.height f g (λ x y lx ly. same x y (subst (λ n. x < n) w lx) (subst (λ n. y < n) h ly))

-- what a new stack carries the card can carry
stays_inside : (dx dy : ℤ) (width height : ℕ) (r : ClipRect) → StaysOnScreen dx dy width height r → StaysInside dx dy width height r
stays_inside dx dy width height r stays = record {
  inside = record { columns = omega (arith, stays.before.across); right = stays.before.right; rows = omega (arith, stays.before.down); bottom = stays.before.bottom };
  left = stays.left;
  right = stays.right;
  top = stays.top;
  bottom = stays.bottom;
}

pub can_carry : (v : Contents) (width height : ℕ) (old new : List Window) (moved : Option ℕ) (carry : Option Carry) → v.front.width ≡ width → v.front.height ≡ height →
    IsCarried width height old new moved carry → IfSome carry (CanCarry v)
can_carry v width height old new moved None w h is = tt
can_carry v width height old new None (Some carry) w h is = absurd is
can_carry v width height old new (Some n) (Some carry) w h is = record {
  each = λ k r lt. rw (w, h) (stays_inside carry.dx carry.dy width height (slice_index_or carry.rects k r) (is.each k r lt));
  apart = is.apart;
  across = is.across;
  down = is.down;
}

-- a new stack on the card
pub restacked : (stack : List Window) (moved : Option ℕ) (board board' : Screen) (card card' : Contents) (touched : Touched) → IsRestacked stack board board' → IsTouched board stack moved touched →
    HaveSides card board.width board.height → ((front : ℕ → ℕ → Rgb) → Shows card front → Shows card' (filled touched.paints (carried_along touched.carry front))) →
    ((back : ℕ → ℕ → Pixel) → Holds card back → Holds card' (carried_along touched.carry back)) → OnlyCarried card card' → KeepSides card card' → IsRestackedOn stack moved board board' card card'
restacked stack moved board board' card card' touched is touches sides shown held others keep = record {
  windows = is;
  shown = λ front shows. let s = keep board.width board.height sides in
      shows_on card' board.width board.height (filled touched.paints (carried_along touched.carry front)) (carried_on board stack moved front (painted board.root moved board.stack stack front)) s.front_width s.front_height
      (filled_is board.width board.height board.root board.stack stack moved touched front touches.carry touches.paints) (shown front shows);
  held = λ back holds. holds_same card' (carried_along touched.carry back) (carried_on board stack moved back back)
      (along_is board.width board.height board.stack stack moved touched.carry back touches.carry) (held back holds);
  others = others;
  sides = keep;
}

same_top_self : (o : Option Window) → same_top o o ≡ true
same_top_self None = refl
same_top_self (Some w) = grind (arith, nat_tests)

nothing_displaced : (old new : List Window) (o : Option Window) → is_displaced None old new o ≡ false
nothing_displaced old new None = refl
nothing_displaced old new (Some w) = refl

-- where the stack stays and nothing is moved, front stays
unpainted_same : (root : Rgb) (ws : List Window) (front : ℕ → ℕ → Rgb) (x y : ℕ) → front x y ≡ painted root None ws ws front x y
unpainted_same root ws front x y = rw (same_top_self (top ws x y), nothing_displaced ws ws (top ws x y)) refl

-- why a change was refused
pub refused_by : (r : Option Refusal) (fault : ChangeFault) → fault ≢ OutOfMemory →
    (◌≡◌ {A = Result Touched ChangeFault} (Err fault) (Err NoWindow) ↔ (r ≡ Some Refusal.NoWindow)) → (◌≡◌ {A = Result Touched ChangeFault} (Err fault) (Err OutOfRange) ↔ (r ≡ Some Refusal.OutOfRange)) →
    (◌≡◌ {A = Result Touched ChangeFault} (Err fault) (Err AlreadyMapped) ↔ (r ≡ Some Refusal.AlreadyMapped)) → (◌≡◌ {A = Result Touched ChangeFault} (Err fault) (Err NotMapped) ↔ (r ≡ Some Refusal.NotMapped)) →
    (why : Refusal) × (r ≡ Some why)
refused_by r NoWindow ne a b c d = (Refusal.NoWindow, a.0 refl)
refused_by r OutOfRange ne a b c d = (Refusal.OutOfRange, b.0 refl)
refused_by r AlreadyMapped ne a b c d = (Refusal.AlreadyMapped, c.0 refl)
refused_by r NotMapped ne a b c d = (Refusal.NotMapped, d.0 refl)
refused_by r OutOfMemory ne a b c d = absurd (ne refl)

-- a refused change moves nothing, and leaves the board and the card
pub stays : (r : Option Refusal) (new : List Window) (moved : Option ℕ) (board board' : Screen) (card : Contents) → (why : Refusal) × (r ≡ Some why) → board' ≡ board →
    IsRestackedOn (unless_refused r board.stack new) (moves_unless r moved) board board' card card
stays r new moved board board' card refused is = rw (refused.1, is) (record {
  windows = record {
    width = refl;
    height = refl;
    root = refl;
    windows = refl;
    stamps = λ i n. unstamped board.width board.height board.stack board.counter (stamps_of board) n i;
    counter = rw (none_touched (is_touched board.width board.height board.stack board.stack) 65 (untouched board.width board.height board.stack)) (omega arith);
  };
  shown = λ front shows. shows_same card front (painted board.root None board.stack board.stack front) (unpainted_same board.root board.stack front) shows;
  held = λ back holds. holds;
  others = refl;
  sides = λ w h s. s;
})

-- an answer of the one kind or of the other
pub when_ok : {A E : Type 0} (r : Result A E) (P Q : Type 0) → (P → Q) → OnOk r P → OnOk r Q
when_ok (Ok x) P Q f p = f p
when_ok (Err e) P Q f p = tt

pub when_err : {A E : Type 0} (r : Result A E) (P : Type 0) → P → OnErr r P
when_err (Ok x) P p = tt
when_err (Err e) P p = p
