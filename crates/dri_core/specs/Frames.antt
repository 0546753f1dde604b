-- Frames, which of them stood, and what they leave.
use Rattle.std.specs.List.{All}
use Rattle.std.specs.Prelude.{AllPairs, Bool, Contains, length, List, Some, [], false, not, pos, true, ℕ, ℤ, ◌++◌, ◌-ℤ◌, ◌==◌, ◌||◌, ◌∷◌, ◌≡◌, ◌≢◌}
use Rattle.dri_base.specs.Fragments.{fragment, rules_of}
use Rattle.dri_base.specs.States.{state_at}
use Rattle.dri_base.specs.declared.command.Command.TheVariants.{Triangle}
use Rattle.dri_base.specs.declared.journal.Entry.{Entry}
use Rattle.dri_base.specs.declared.journal.Entry.TheVariants.{Change, Run}
use Rattle.dri_base.specs.declared.scene.Scene.{Scene}
use Rattle.dri_base.specs.declared.shape.Triangle.{Triangle as TriangleShape}
use Rattle.dri_core.specs.EntryTable.{after_entry}
use Rattle.dri_core.specs.Runs.{after, after_entries}
use Rattle.dri_base.specs.Scenes.{command_at, commands_of, script_of, window_of}
use Rattle.dri_core.specs.Solo.{frame, image_at, is_swap, solo_frame}
use Rattle.dri_core.specs.Worlds.{World, clips_in}
use Rattle.dri_core.specs.Restacks.{next_moved, next_stack, touched_by}
use Rattle.dri_model.specs.Stacks.{clips, is_moved_whole, origin}

-- the entry gives window n no new stamp
abbrev pub keeps_stamp : Scene → World → Entry → ℕ → Bool
keeps_stamp s w e n = (after_entry s w e).stamps n == w.stamps n

-- an entry leaves the window's stamp exactly where it doesn't touch the window, and then its clips and its origin are as before
pub record StampTells (s : Scene) (w : World) (e : Entry) (n : ℕ) : Type 0 where
  pub kept : keeps_stamp s w e n ≡ not (touched_by s w (after_entry s w e).stack n)
  pub same_clips : keeps_stamp s w e n ≡ true → (x y : ℕ) → clips s.width s.height (after_entry s w e).stack n x y ≡ clips s.width s.height w.stack n x y
  pub same_origin : keeps_stamp s w e n ≡ true → origin (after_entry s w e).stack n ≡ origin w.stack n

-- the entry moves window n whole
abbrev pub moves_whole : Scene → World → Entry → ℕ → Bool
moves_whole s w (Change i) n = is_moved_whole s.width s.height w.stack (next_stack s w) (next_moved s w) n
moves_whole s w e n = false

-- what stands on window n stands after the entry: it gives the window no new stamp, or moves it whole
abbrev pub keeps : Scene → World → Entry → ℕ → Bool
keeps s w e n = keeps_stamp s w e n || moves_whole s w e n

-- each of these entries keeps what stands on window n
abbrev pub Stands : Scene → ℕ → World → List Entry → Type 0
Stands s n w [] = Unit {0}
Stands s n w (e ∷ es) = (keeps s w e n ≡ true) × Stands s n (after_entry s w e) es

-- frame k of client c ran: it begins with a clear, and its swap is among the entries
pub record FrameRan (s : Scene) (journal : List Entry) (c k : ℕ) : Type 0 where
  pub first : ℕ
  pub last : ℕ
  pub numbered : frame (commands_of s c) k ≡ Some (first, last)
  pub past : List Entry
  pub rest : List Entry
  pub swapped : journal ≡ past ++ Run c last ∷ rest

-- it stood: each entry between its last clear and its swap that gave the client's window a new stamp moved it whole
pub record FrameStood (s : Scene) (journal : List Entry) (c k : ℕ) : Type 0 where
  pub first : ℕ
  pub last : ℕ
  pub numbered : frame (commands_of s c) k ≡ Some (first, last)
  pub past : List Entry
  pub middle : List Entry
  pub rest : List Entry
  pub swapped : journal ≡ past ++ Run c first ∷ (middle ++ Run c last ∷ rest)
  pub stands : Stands s (window_of s c) (after_entry s (after s past) (Run c first)) middle

-- so many frames, each by its client and its number, have the property
pub record Counts (Holds : ℕ → ℕ → Type 0) (n : ℕ) : Type 0 where
  pub frames : List (ℕ × ℕ)
  pub counted : length frames ≡ n
  pub apart : AllPairs ◌≢◌ frames
  pub listed : All (λ f. Holds f.0 f.1) frames
  pub all : (c k : ℕ) → Holds c k → Contains frames (c, k)

-- the entry is no swap of client c
abbrev pub IsNoSwap : Scene → ℕ → Entry → Type 0
IsNoSwap s c e = (i : ℕ) → is_swap (command_at s c i) ≡ true → e ≢ Run c i

-- none of the entries is a swap of client c
abbrev pub NoSwap : Scene → ℕ → List Entry → Type 0
NoSwap s c [] = Unit {0}
NoSwap s c (e ∷ es) = IsNoSwap s c e × NoSwap s c es

-- the pixel, as client c's window sees it
abbrev pub across : Scene → World → ℕ → ℕ → ℤ
across s w c x = pos x -ℤ (origin w.stack (window_of s c)).0

-- and its row
abbrev pub down : Scene → World → ℕ → ℕ → ℤ
down s w c y = pos y -ℤ (origin w.stack (window_of s c)).1

-- front shows frame k drawn alone, wherever the window shows
abbrev pub Shows : Scene → ℕ → ℕ → World → Type 0
Shows s c k w = (x y : ℕ) → clips_in s w c x y ≡ true → Some (w.front x y) ≡ solo_frame (script_of s c) k (across s w c x) (down s w c y)

-- each frame that stood from its last clear to its swap is shown after the swap, with the clips and the origin of each later moment, until the
-- client swaps again or its window gets a new stamp otherwise than by a whole move
abbrev pub SoloLeft : Scene → List Entry → Type 0
SoloLeft s journal =
    (c k first last : ℕ) (past middle later rest : List Entry) → frame (commands_of s c) k ≡ Some (first, last) →
    journal ≡ past ++ Run c first ∷ (middle ++ Run c last ∷ (later ++ rest)) →
    let cleared = after_entry s (after s past) (Run c first) in
    let swapped = after_entry s (after_entries s cleared middle) (Run c last) in
    Stands s (window_of s c) cleared middle → Stands s (window_of s c) swapped later → NoSwap s c later →
    Shows s c k (after_entries s swapped later)

-- a triangle is drawn with its client's own state, and its own image
abbrev pub OwnAt : Scene → World → ℕ → ℕ → Type 0
OwnAt s w c i =
    (x y : ℕ) (t : TriangleShape) → command_at s c i ≡ Some (Triangle t) → clips_in s w c x y ≡ true →
    (after_entry s w (Run c i)).back x y ≡ fragment (rules_of (state_at (commands_of s c) i)) (image_at (script_of s c) i) t (across s w c x) (down s w c y) (w.back x y)

-- at each run of a triangle, in the current clips
abbrev pub Own : Scene → List Entry → Type 0
Own s journal = (past rest : List Entry) (c i : ℕ) → journal ≡ past ++ Run c i ∷ rest → OwnAt s (after s past) c i
