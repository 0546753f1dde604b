-- A card of sixteen bits that follows a replay: what each deed makes of it.
use Rattle.std.specs.Prelude.{◌≡◌, ◌-ℤ◌, ℕ, pos, List, if◌then◌else◌, length, Result, Ok, Err}
use Rattle.dri_base.specs.Fragments.{rules_of}
use Rattle.dri_base.specs.Scenes.{textures_of}
use Rattle.dri_base.specs.Texels.{own_image}
use Rattle.dri_base.specs.declared.colour.Pixel.{Pixel}
use Rattle.dri_base.specs.declared.colour.Rgb.{Rgb}
use Rattle.dri_base.specs.declared.journal.Entry.{Entry}
use Rattle.dri_base.specs.declared.shape.Point.{Point}
use Rattle.dri_base.specs.declared.shape.Rect.{Rect}
use Rattle.dri_base.specs.declared.shape.Triangle.{Triangle}
use Rattle.dri_card.specs.Contents.{Contents, Holds, KeepSides, Shows}
use Rattle.dri_card16.specs.Calls.{drawn16}
use Rattle.dri_card16.specs.Packing.{kept}
use Rattle.dri_card16.specs.PixelRules.{PixelRule, kept_pair}
use Rattle.dri_card16.specs.Sixteen.{after16, rule16}
use Rattle.dri_core.specs.Frames.{across, down}
use Rattle.dri_draw.specs.Drawing.{in_clips}
use Rattle.dri_journal.specs.Replays.{MayTake, ReplayState, Took, world_of}
use Rattle.dri_journal.specs.declared.deed.Deed.{Deed}
use Rattle.dri_journal.specs.declared.deed.Deed.TheVariants as Deed_is
use Rattle.dri_journal.specs.declared.refusal.StepFault.{StepFault}
use Rattle.dri_journal.specs.declared.refusal.StepFault.TheVariants as faults
use Rattle.dri_replay.specs.Cards.{Follows}
use Rattle.dri_replay.specs.Makings.{back_made, clips_now, front_made, state_now}

-- back, with its depth, after a deed of client c on a card with a pixel rule of its own: what is kept of what the deed makes, and a triangle is drawn by the rule
abbrev pub back_made_with : PixelRule → ReplayState → ℕ → Deed → (ℕ → ℕ → Pixel) → ℕ → ℕ → Pixel
back_made_with rule v c (Deed_is.Triangle t) f x y =
    if clips_now v c x y then rule.triangle (rules_of (state_now v c)) (own_image (textures_of v.scene c) (state_now v c).bound) t (across v.scene (world_of v) c x) (down v.scene (world_of v) c y) (f x y)
    else f x y
back_made_with rule v c deed f x y = kept_pair rule.kept (back_made v c deed f x y)

-- front after it, where back had these pairs: what is kept of what the deed makes
abbrev pub front_made_with : PixelRule → ReplayState → ℕ → Deed → (ℕ → ℕ → Pixel) → (ℕ → ℕ → Rgb) → ℕ → ℕ → Rgb
front_made_with rule v c deed f shown x y = rule.kept (front_made v c deed f shown x y)

-- all of these colours is kept
abbrev pub AreKept : (ℕ → ℕ → Rgb) → Type 0
AreKept colours = (x y : ℕ) → kept (colours x y) ≡ colours x y

-- front shows what is kept of these colours
abbrev pub ShowsKept : Contents → (ℕ → ℕ → Rgb) → Type 0
ShowsKept card colours = Shows card (λ x y. kept (colours x y))

-- the pairs after a triangle, or the line that it is, is drawn once at each pixel of the rectangles, by the card's registers and texture memory
abbrev pub drawn16_in : Contents → Point → Triangle → List Rect → (ℕ → ℕ → Pixel) → ℕ → ℕ → Pixel
drawn16_in v origin t rects f x y = if in_clips rects x y then drawn16 v t (pos x -ℤ origin.x) (pos y -ℤ origin.y) (f x y) else f x y

-- a deed of client c was made on the card
pub record IsMade16 (v : ReplayState) (c : ℕ) (deed : Deed) (old new : Contents) : Type 0 where
  pub sides : KeepSides old new
  pub bytes : length new.memory ≡ length old.memory
  pub held : (f : ℕ → ℕ → Pixel) → AreKept (λ x y. (f x y).colour) → Holds old f → Holds new (back_made_with rule16 v c deed f)
  pub shown : (f : ℕ → ℕ → Pixel) (shown : ℕ → ℕ → Rgb) → AreKept (λ x y. (f x y).colour) → AreKept shown → Holds old f → Shows old shown → Shows new (front_made_with rule16 v c deed f shown)

-- the card has the planes that a replay's entries leave on a card of sixteen bits
abbrev pub Follows16 : ReplayState → Contents → Type 0
Follows16 v card = Follows v.scene (after16 v.scene v.entries) card

-- a legal entry was taken, and the card follows; another is refused
abbrev pub IsFollowing16 : {A : Type 0} → ReplayState → ReplayState → Entry → Contents → Result A StepFault → Type 0
IsFollowing16 old new e card (Ok x) = MayTake old e × Took old new e × Follows16 new card
IsFollowing16 old new e card (Err (faults.Refused refusal)) = MayTake old e → ⊥
IsFollowing16 old new e card (Err faults.OutOfMemory) = Unit {0}
