-- Which entries touch a place of the screen, and what is told of each.
use Rattle.std.specs.Prelude.{◌≡◌, ◌+◌, ◌++◌, ◌∷◌, ℕ, ℤ, pos, true, if◌then◌else◌, List, [], Option, Some, None, is_some, slice_get, AllPairs}
use Rattle.std.specs.List.{AllByRecursion}
use Rattle.dri_base.specs.Scenes.{command_at, window_of}
use Rattle.dri_base.specs.declared.command.Command.{Command}
use Rattle.dri_base.specs.declared.command.Command.TheVariants as Command_is
use Rattle.dri_base.specs.declared.journal.Entry.{Entry}
use Rattle.dri_base.specs.declared.journal.Entry.TheVariants as Entry_is
use Rattle.dri_base.specs.declared.scene.Scene.{Scene}
use Rattle.dri_base.specs.declared.scene.Window.{Window}
use Rattle.dri_base.specs.declared.shape.Rect.{Rect}
use Rattle.dri_clips.specs.Boards.{shows}
use Rattle.dri_core.specs.EntryTable.{after_entry}
use Rattle.dri_core.specs.Restacks.{next_moved, next_stack}
use Rattle.dri_core.specs.Runs.{client_of}
use Rattle.dri_core.specs.Worlds.{World, clips_in}
use Rattle.dri_history.specs.declared.touch.Clip.{Clip}
use Rattle.dri_history.specs.declared.touch.Kind.{Kind}
use Rattle.dri_history.specs.declared.touch.Kind.TheVariants as Kind_is
use Rattle.dri_history.specs.declared.touch.Sample.{Sample}
use Rattle.dri_history.specs.declared.touch.Touch.{Touch}
use Rattle.dri_model.specs.Stacks.{carried_from, repaint, without_owner}
use Rattle.dri_rect.specs.Pixels.{ComesBefore, IsApart, IsProper, has_pixel, inside}

-- what a world has at a place
abbrev pub sample : World → ℕ → ℕ → Sample
sample w x y = record { front = w.front x y; back = w.back x y }

-- what the run of a command does in its client's clips
abbrev pub command_kind : Option Command → Option Kind
command_kind (Some (Command_is.Clear colour depth)) = Some Kind_is.Clear
command_kind (Some (Command_is.Triangle t)) = Some Kind_is.Triangle
command_kind (Some Command_is.Swap) = Some Kind_is.Swap
command_kind _ = None

-- what a new stack, in which a window may be moved, does at a place: it carries a pixel there, or else it may paint it
abbrev pub stack_kind : Scene → World → Option ℕ → List Window → ℕ → ℕ → Option Kind
stack_kind s w moved new x y =
    if is_some (carried_from s.width s.height w.stack new moved x y) then Some Kind_is.Carry
    else if is_some (repaint s.width s.height s.root w.stack new moved x y) then Some Kind_is.Paint
    else None

-- what an entry does at a place, where it touches it: a command does where the place lies in its client's current clips
abbrev pub kind_at : Scene → World → Entry → ℕ → ℕ → Option Kind
kind_at s w (Entry_is.Run c i) x y = if clips_in s w c x y then command_kind (command_at s c i) else None
kind_at s w (Entry_is.Change i) x y = stack_kind s w (next_moved s w) (next_stack s w) x y
kind_at s w (Entry_is.Gone c) x y = stack_kind s w None (without_owner c w.stack) x y
kind_at s w _ x y = None

-- the current clip list of window n: rectangles by y1, then by x1, none of which is empty and none of which share a pixel, with just the pixels at which the window shows
pub record IsClipList (s : Scene) (w : World) (n : ℕ) (rects : List Rect) : Type 0 where
  pub order : AllPairs ComesBefore rects
  pub proper : AllByRecursion IsProper rects
  pub apart : AllPairs IsApart rects
  pub has : (x y : ℤ) → inside rects x y ≡ shows s.width s.height w.stack n x y

-- the rectangle is one of the list, and has the place
pub record IsRectAt (rects : List Rect) (x y : ℕ) (rect : Rect) : Type 0 where
  pub number : ℕ
  pub one : slice_get rects number ≡ Some rect
  pub here : has_pixel rect (pos x) (pos y) ≡ true

-- the stamp of client c's window, and the rectangle of its current clip list that has the place
pub record IsClipAt (s : Scene) (w : World) (c x y : ℕ) (clip : Clip) : Type 0 where
  pub stamp : clip.stamp ≡ w.stamps (window_of s c)
  pub rects : List Rect
  pub list : IsClipList s w (window_of s c) rects
  pub rect : IsRectAt rects x y clip.rect

-- a command is told with its clip, and nothing else is
abbrev pub HasClip : Scene → World → Entry → ℕ → ℕ → Option Clip → Type 0
HasClip s w (Entry_is.Run c i) x y (Some clip) = IsClipAt s w c x y clip
HasClip s w (Entry_is.Run c i) x y None = ⊥
HasClip s w e x y clip = clip ≡ None

-- the touch tells what an entry, the n-th, does at a place where it finds this world
pub record Tells (s : Scene) (w : World) (e : Entry) (n x y : ℕ) (touch : Touch) : Type 0 where
  pub entry : touch.entry ≡ n
  pub kind : kind_at s w e x y ≡ Some touch.kind
  pub client : touch.client ≡ client_of e
  pub clip : HasClip s w e x y touch.clip
  pub before : touch.before ≡ sample w x y
  pub after : touch.after ≡ sample (after_entry s w e) x y

-- an entry that touches the place is told, and another isn't
abbrev pub IsTold : Scene → World → Entry → ℕ → ℕ → ℕ → Option Touch → Type 0
IsTold s w e n x y (Some touch) = Tells s w e n x y touch
IsTold s w e n x y None = kind_at s w e x y ≡ None

-- no touch, or one
abbrev pub one_touch : Option Touch → List Touch
one_touch None = []
one_touch (Some touch) = touch ∷ []

-- the touches of a place by these entries, of which the first is the n-th and finds this world: one for each that touches it, in their order
abbrev pub AreTouches : Scene → World → ℕ → List Entry → ℕ → ℕ → List Touch → Type 0
AreTouches s w n [] x y touches = touches ≡ []
AreTouches s w n (e ∷ es) x y touches =
    (first : Option Touch) × (more : List Touch) × (touches ≡ one_touch first ++ more) × IsTold s w e n x y first × AreTouches s (after_entry s w e) (n + 1) es x y more
