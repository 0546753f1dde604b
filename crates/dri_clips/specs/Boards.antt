-- A board: the window stack of a screen, with a stamp for each window number.
use Rattle.std.specs.Prelude.{ℕ, ℤ, pos, negsuc, List, Bool, false, ◌≡◌, ◌+◌, Option, None, Some, slice_index_or}
use Rattle.dri_base.specs.declared.colour.Rgb.{Rgb}
use Rattle.dri_base.specs.declared.scene.Scene.{Scene}
use Rattle.dri_base.specs.declared.scene.Window.{Window}
use Rattle.dri_base.specs.declared.shape.Rect.{Rect}
use Rattle.dri_rect.specs.Pixels.{inside}
use Rattle.dri_model.specs.Stacks.{clips, restamped, touches}

-- the screen's sides and root colour, the windows from top to bottom, the stamps by window number, and the stamp counter
pub record Screen : Type 0 where
  pub width : ℕ
  pub height : ℕ
  pub root : Rgb
  pub stack : List Window
  pub stamps : List ℕ
  pub counter : ℕ

-- the stamp of each window number; one that isn't on the board has 1
abbrev pub stamps_of : Screen → ℕ → ℕ
stamps_of v n = slice_index_or v.stamps n 1

-- the board of a scene before the first change: every stamp is 1, and so is the counter
pub record IsOpening (s : Scene) (v : Screen) : Type 0 where
  pub width : v.width ≡ s.width
  pub height : v.height ≡ s.height
  pub root : v.root ≡ s.root
  pub stack : v.stack ≡ s.windows
  pub stamps : stamps_of v ≡ (λ n. 1)
  pub counter : v.counter ≡ 1

-- the board took a new stack: each window that it touches has a new stamp, and no other window has
pub record IsRestacked (stack : List Window) (old new : Screen) : Type 0 where
  pub width : new.width ≡ old.width
  pub height : new.height ≡ old.height
  pub root : new.root ≡ old.root
  pub windows : new.stack ≡ stack
  pub stamps : stamps_of new ≡ restamped old.width old.height old.stack stack old.counter (stamps_of old)
  pub counter : new.counter ≡ old.counter + touches old.width old.height old.stack stack

-- window n shows at this place, which may lie off the screen
abbrev pub shows : ℕ → ℕ → List Window → ℕ → ℤ → ℤ → Bool
shows width height ws n (pos x) (pos y) = clips width height ws n x y
shows width height ws n (pos x) (negsuc y) = false
shows width height ws n (negsuc x) y = false

-- the rectangles have just the pixels at which window n shows
abbrev pub AreClipsOf : Screen → ℕ → List Rect → Type 0
AreClipsOf v n rects = (x y : ℤ) → inside rects x y ≡ shows v.width v.height v.stack n x y

-- the window is there and is mapped
abbrev pub is_mapped : Option Window → Bool
is_mapped None = false
is_mapped (Some w) = w.mapped
