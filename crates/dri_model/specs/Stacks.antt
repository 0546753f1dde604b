-- The stack of windows, from top to bottom.
use Rattle.std.specs.Prelude.{ℕ, List, [], ◌∷◌, ◌++◌, map, filter, Bool, true, false, ◌&&◌, ◌||◌, not, ◌==◌, nat_lt, if◌then◌else◌, is_some, Option, Some, None, ℤ, pos, negsuc, ◌+◌, ◌+ℤ◌, ◌-ℤ◌, int_lt, int_le}
use Rattle.std.specs.Ordering.{int_eq}
use Rattle.dri_base.specs.declared.colour.Rgb.{Rgb}
use Rattle.dri_base.specs.declared.scene.Window.{Window}
use Rattle.dri_base.specs.declared.command.Change.{Change}
use Rattle.dri_base.specs.declared.command.Change.TheVariants.{Map, Unmap, Move, Resize, Raise, Lower}
use Rattle.dri_base.specs.Ranges.{is_corner, is_side}
use Rattle.dri_base.specs.Scenes.{named_by}
use Rattle.dri_model.specs.Counting.{all_below, how_many}

-- the window's rectangle has the pixel
abbrev pub window_has : Window → ℕ → ℕ → Bool
window_has w x y =
    (int_le w.x (pos x) && int_lt (pos x) (w.x +ℤ pos w.width)) && (int_le w.y (pos y) && int_lt (pos y) (w.y +ℤ pos w.height))

-- the topmost mapped window at the pixel
abbrev pub top : List Window → ℕ → ℕ → Option Window
top [] x y = None
top (w ∷ ws) x y = if w.mapped && window_has w x y then Some w else top ws x y

-- it is window n
abbrev pub is_window : ℕ → Option Window → Bool
is_window n None = false
is_window n (Some w) = w.number == n

-- the screen pixels at which window n shows
abbrev pub clips : ℕ → ℕ → List Window → ℕ → ℕ → ℕ → Bool
clips width height ws n x y = nat_lt x width && (nat_lt y height && is_window n (top ws x y))

-- the upper left corner of window n
abbrev pub origin : List Window → ℕ → ℤ × ℤ
origin [] n = (pos 0, pos 0)
origin (w ∷ ws) n = if w.number == n then (w.x, w.y) else origin ws n

-- the window with number n, on the board
abbrev pub window_in : List Window → ℕ → Option Window
window_in [] n = None
window_in (w ∷ ws) n = if w.number == n then Some w else window_in ws n

-- why the board refuses a change
pub data Refusal : Type 0 where
  NoWindow : Refusal
  OutOfRange : Refusal
  AlreadyMapped : Refusal
  NotMapped : Refusal

-- why a change of this window is refused: by its numbers first, then by what is mapped
abbrev pub refused_at : Change → Window → Option Refusal
refused_at (Map n) w = if w.mapped then Some AlreadyMapped else None
refused_at (Unmap n) w = if w.mapped then None else Some NotMapped
refused_at (Move n x y) w = if is_corner x && is_corner y then None else Some OutOfRange
refused_at (Resize n width height) w = if is_side width && is_side height then None else Some OutOfRange
refused_at (Raise n) w = None
refused_at (Lower n) w = None

-- a window that isn't on the board comes first
abbrev pub refused_for : Change → Option Window → Option Refusal
refused_for change None = Some NoWindow
refused_for change (Some w) = refused_at change w

-- why the board refuses the change, if it does
abbrev pub refusal : Change → List Window → Option Refusal
refusal change ws = refused_for change (window_in ws (named_by change))

-- the named window, and no other, is altered
abbrev pub altered : ℕ → (Window → Window) → List Window → List Window
altered n f ws = map (λ w. if w.number == n then f w else w) ws

-- the stack after a change that isn't refused
abbrev pub changed : Change → List Window → List Window
changed (Map n) ws = altered n (λ w. record w { mapped = true }) ws
changed (Unmap n) ws = altered n (λ w. record w { mapped = false }) ws
changed (Move n x y) ws = altered n (λ w. record w { x = x; y = y }) ws
changed (Resize n width height) ws = altered n (λ w. record w { width = width; height = height }) ws
changed (Raise n) ws = filter (λ w. w.number == n) ws ++ filter (λ w. not (w.number == n)) ws
changed (Lower n) ws = filter (λ w. not (w.number == n)) ws ++ filter (λ w. w.number == n) ws

-- the new stack, unless the change is refused
abbrev pub unless_refused : Option Refusal → List Window → List Window → List Window
unless_refused None old new = new
unless_refused (Some why) old new = old

-- the stack after a change; a refused one changes nothing
abbrev pub stack_after : Change → List Window → List Window
stack_after change ws = unless_refused (refusal change ws) ws (changed change ws)

-- the window that a change is to move
abbrev pub moves : Change → Option ℕ
moves (Move n x y) = Some n
moves (Map n) = None
moves (Unmap n) = None
moves (Resize n width height) = None
moves (Raise n) = None
moves (Lower n) = None

-- that window, unless the change is refused
abbrev pub moves_unless : Option Refusal → Option ℕ → Option ℕ
moves_unless None moved = moved
moves_unless (Some why) moved = None

-- the window that a change moves, where it is a move that isn't refused
abbrev pub moved_by : Change → List Window → Option ℕ
moved_by change ws = moves_unless (refusal change ws) (moves change)

-- window n is the moved one
abbrev pub is_moved : ℕ → Option ℕ → Bool
is_moved n None = false
is_moved n (Some m) = m == n

-- the window, unmapped where client c owns it
abbrev pub unmapped : ℕ → Window → Window
unmapped c w = if w.owner == c then record w { mapped = false } else w

-- the stack after the death of client c: each window that it owns is unmapped
abbrev pub without_owner : ℕ → List Window → List Window
without_owner c ws = map (unmapped c) ws

-- the two are one
abbrev pub same_bool : Bool → Bool → Bool
same_bool true b = b
same_bool false b = not b

-- the two sets have the same pixels of the screen
abbrev pub same_set : ℕ → ℕ → (ℕ → ℕ → Bool) → (ℕ → ℕ → Bool) → Bool
same_set width height f g = all_below (λ x. all_below (λ y. same_bool (f x y) (g x y)) height) width

-- the two corners are one
abbrev pub same_origin : ℤ × ℤ → ℤ × ℤ → Bool
same_origin a b = int_eq a.0 b.0 && int_eq a.1 b.1

-- the clip set or the origin of window n isn't as before
abbrev pub is_touched : ℕ → ℕ → List Window → List Window → ℕ → Bool
is_touched width height old new n =
    not (same_set width height (clips width height old n) (clips width height new n) && same_origin (origin old n) (origin new n))

-- what shows at a pixel that nobody has drawn: the topmost window's background, or the root colour
abbrev pub ground_colour : Rgb → Option Window → Rgb
ground_colour root None = root
ground_colour root (Some w) = w.background

-- the same window is topmost
abbrev pub same_top : Option Window → Option Window → Bool
same_top None None = true
same_top (Some a) (Some b) = a.number == b.number
same_top None (Some b) = false
same_top (Some a) None = false

-- the stamp of window n after a new stack: in rising window number, each touched window gets one above the counter before
abbrev pub restamped : ℕ → ℕ → List Window → List Window → ℕ → (ℕ → ℕ) → ℕ → ℕ
restamped width height old new counter stamps n =
    if is_touched width height old new n then counter + how_many (is_touched width height old new) (n + 1) else stamps n

-- how many windows a new stack touches
abbrev pub touches : ℕ → ℕ → List Window → List Window → ℕ
touches width height old new = how_many (is_touched width height old new) 65

-- how far window n moves from one stack to the other
abbrev pub shift : List Window → List Window → ℕ → ℤ × ℤ
shift old new n = ((origin new n).0 -ℤ (origin old n).0, (origin new n).1 -ℤ (origin old n).1)

-- the pixel with this column and this row, where the set has it
abbrev pub pixel_in : (ℕ → ℕ → Bool) → ℤ → ℤ → Option (ℕ × ℕ)
pixel_in f (pos x) (pos y) = if f x y then Some (x, y) else None
pixel_in f (pos x) (negsuc y) = None
pixel_in f (negsuc x) y = None

-- the pixel less window n's move, where the window showed there
abbrev pub was_at : ℕ → ℕ → List Window → List Window → ℕ → ℕ → ℕ → Option (ℕ × ℕ)
was_at width height old new n x y = pixel_in (clips width height old n) (pos x -ℤ (shift old new n).0) (pos y -ℤ (shift old new n).1)

-- where a carried pixel comes from: it is one of the moved window's new clips, and less the move one of its old ones
abbrev pub carried_from : ℕ → ℕ → List Window → List Window → Option ℕ → ℕ → ℕ → Option (ℕ × ℕ)
carried_from width height old new None x y = None
carried_from width height old new (Some n) x y = if clips width height new n x y then was_at width height old new n x y else None

-- what a plane has after a move: at a carried pixel what stood where it comes from, else the other value
abbrev pub carried : {A : Type 0} → Option (ℕ × ℕ) → (ℕ → ℕ → A) → A → A
carried None plane other = other
carried (Some p) plane other = plane p.0 p.1

-- each pixel at which window n shows in the new stack is, less the move, one at which it showed in the old one
abbrev pub all_came : ℕ → ℕ → List Window → List Window → ℕ → Bool
all_came width height old new n =
    all_below (λ x. all_below (λ y. not (clips width height new n x y) || is_some (was_at width height old new n x y)) height) width

-- window n is moved whole: its new clips are its old ones, translated by the move
abbrev pub is_moved_whole : ℕ → ℕ → List Window → List Window → Option ℕ → ℕ → Bool
is_moved_whole width height old new moved n = is_moved n moved && (all_came width height old new n && all_came width height new old n)

-- the topmost window is the moved one, and its origin is another than before
abbrev pub is_displaced : Option ℕ → List Window → List Window → Option Window → Bool
is_displaced moved old new None = false
is_displaced moved old new (Some w) = is_moved w.number moved && not (same_origin (origin old w.number) (origin new w.number))

-- front after a new stack at a pixel that isn't carried: the new topmost window's background, or the root colour, where the topmost window changed or is displaced
abbrev pub painted : Rgb → Option ℕ → List Window → List Window → (ℕ → ℕ → Rgb) → ℕ → ℕ → Rgb
painted root moved old new front x y =
    if same_top (top old x y) (top new x y) && not (is_displaced moved old new (top new x y)) then front x y else ground_colour root (top new x y)

-- what a pixel is painted with after the carrying, if it is: the ground colour of the new topmost window, where the pixel isn't carried and that window changed or is displaced
abbrev pub repaint : ℕ → ℕ → Rgb → List Window → List Window → Option ℕ → ℕ → ℕ → Option Rgb
repaint width height root old new moved x y =
    if is_some (carried_from width height old new moved x y) || (same_top (top old x y) (top new x y) && not (is_displaced moved old new (top new x y))) then None
    else Some (ground_colour root (top new x y))
