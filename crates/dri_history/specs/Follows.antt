-- A card that follows a replay: what each deed makes of it, and what it does at a place.
use Rattle.std.specs.Prelude.{◌≡◌, ◌-ℤ◌, ℕ, pos, Bool, true, false, if◌then◌else◌, length, Option, Some, None, is_some, Result, Ok, Err}
use Rattle.dri_base.specs.declared.colour.Pixel.{Pixel}
use Rattle.dri_base.specs.declared.colour.Rgb.{Rgb}
use Rattle.dri_base.specs.declared.journal.Entry.{Entry}
use Rattle.dri_card.specs.Contents.{Contents, Holds, KeepSides, Shows}
use Rattle.dri_base.specs.Rectangles.{in_rects}
use Rattle.dri_clips.specs.Paints.{paint_at}
use Rattle.dri_clips.specs.declared.touched.Carry.{Carry}
use Rattle.dri_clips.specs.declared.touched.Touched.{Touched}
use Rattle.dri_history.specs.Touches.{IsClipAt, IsTold}
use Rattle.dri_history.specs.declared.touch.Clip.{Clip}
use Rattle.dri_history.specs.declared.touch.Kind.{Kind}
use Rattle.dri_history.specs.declared.touch.Kind.TheVariants as Kind_is
use Rattle.dri_history.specs.declared.touch.Touch.{Touch}
use Rattle.dri_history.specs.declared.touching.Way.{Way}
use Rattle.dri_journal.specs.Deeds.{Does}
use Rattle.dri_journal.specs.Replays.{MayTake, ReplayState, Took, world_of}
use Rattle.dri_journal.specs.declared.deed.Deed.{Deed}
use Rattle.dri_journal.specs.declared.deed.Deed.TheVariants as Deed_is
use Rattle.dri_journal.specs.declared.refusal.StepFault.{StepFault}
use Rattle.dri_journal.specs.declared.refusal.StepFault.TheVariants as faults
use Rattle.dri_model.specs.Stacks.{pixel_in}
use Rattle.dri_replay.specs.Cards.{Follows}
use Rattle.dri_replay.specs.Makings.{back_made, clips_now, front_made}

-- a deed of client c was made on the card
pub record IsMade (v : ReplayState) (c : ℕ) (deed : Deed) (old new : Contents) : Type 0 where
  pub sides : KeepSides old new
  pub bytes : length new.memory ≡ length old.memory
  pub held : (f : ℕ → ℕ → Pixel) → Holds old f → Holds new (back_made v c deed f)
  pub shown : (f : ℕ → ℕ → Pixel) (shown : ℕ → ℕ → Rgb) → Holds old f → Shows old shown → Shows new (front_made v c deed f shown)

-- a legal entry was taken, its deed is told, and the card follows; another is refused
abbrev pub IsFollowing : ReplayState → ReplayState → Entry → Contents → Result Deed StepFault → Type 0
IsFollowing old new e card (Ok deed) = MayTake old e × Took old new e × Does old.scene (world_of old) e deed × Follows new.scene (world_of new) card
IsFollowing old new e card (Err (faults.Refused refusal)) = MayTake old e → ⊥
IsFollowing old new e card (Err faults.OutOfMemory) = Unit {0}

-- what is carried, if there is something, comes to the place
abbrev pub comes_to : Option Carry → ℕ → ℕ → Bool
comes_to None x y = false
comes_to (Some carry) x y = is_some (pixel_in (in_rects carry.rects) (pos x -ℤ carry.dx) (pos y -ℤ carry.dy))

-- what is carried and painted does at a place
abbrev pub touched_kind : Touched → ℕ → ℕ → Option Kind
touched_kind touched x y =
    if comes_to touched.carry x y then Some Kind_is.Carry else if is_some (paint_at touched.paints x y) then Some Kind_is.Paint else None

-- what a deed of client c does at a place
abbrev pub deed_kind : ReplayState → ℕ → Deed → ℕ → ℕ → Option Kind
deed_kind v c Deed_is.Nothing x y = None
deed_kind v c (Deed_is.Clear colour depth) x y = if clips_now v c x y then Some Kind_is.Clear else None
deed_kind v c (Deed_is.Triangle t) x y = if clips_now v c x y then Some Kind_is.Triangle else None
deed_kind v c Deed_is.Swap x y = if clips_now v c x y then Some Kind_is.Swap else None
deed_kind v c (Deed_is.Touched touched) x y = touched_kind touched x y

-- the clip of client c's window at the place
abbrev pub HasClipNow : ReplayState → ℕ → ℕ → ℕ → Option Clip → Type 0
HasClipNow v c x y (Some clip) = IsClipAt v.scene (world_of v) c x y clip
HasClipNow v c x y None = ⊥

-- a drawing is told with its clip
abbrev pub HasWay : ReplayState → ℕ → Kind → ℕ → ℕ → Option Clip → Type 0
HasWay v c Kind_is.Clear x y clip = HasClipNow v c x y clip
HasWay v c Kind_is.Triangle x y clip = HasClipNow v c x y clip
HasWay v c Kind_is.Swap x y clip = HasClipNow v c x y clip
HasWay v c Kind_is.Carry x y clip = clip ≡ None
HasWay v c Kind_is.Paint x y clip = clip ≡ None

-- a drawing of this kind in client c's clips is told where the place lies in them
abbrev pub IsDrawn : ReplayState → ℕ → Kind → ℕ → ℕ → Option Way → Type 0
IsDrawn v c kind x y (Some way) = (clips_now v c x y ≡ true) × (way.kind ≡ kind) × HasClipNow v c x y way.clip
IsDrawn v c kind x y None = clips_now v c x y ≡ false

-- it is told, and is no drawing
abbrev pub IsChanged : Touched → ℕ → ℕ → Option Way → Type 0
IsChanged touched x y (Some way) = (touched_kind touched x y ≡ Some way.kind) × ((v : ReplayState) (c : ℕ) → HasWay v c way.kind x y way.clip)
IsChanged touched x y None = touched_kind touched x y ≡ None

-- what a deed of client c does at a place is told, where it does something
abbrev pub IsWay : ReplayState → ℕ → Deed → ℕ → ℕ → Option Way → Type 0
IsWay v c deed x y (Some way) = (deed_kind v c deed x y ≡ Some way.kind) × HasWay v c way.kind x y way.clip
IsWay v c deed x y None = deed_kind v c deed x y ≡ None

-- a legal entry, the n-th, was taken, the card follows, and the entry is told where it touches the place; another is refused
abbrev pub IsTelling : ReplayState → ReplayState → Entry → Contents → ℕ → ℕ → ℕ → Result (Option Touch) StepFault → Type 0
IsTelling old new e card n x y (Ok touch) = MayTake old e × Took old new e × Follows new.scene (world_of new) card × IsTold old.scene (world_of old) e n x y touch
IsTelling old new e card n x y (Err (faults.Refused refusal)) = MayTake old e → ⊥
IsTelling old new e card n x y (Err faults.OutOfMemory) = Unit {0}
