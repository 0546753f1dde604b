-- What a hold-run leaves on a card with a pixel rule of its own. Planes alone are other ones: the rest of the world is as ever.
use Rattle.std.specs.Prelude.{◌++◌, ◌≡◌, ◌∷◌, List, Some, [], if◌then◌else◌, true, ℕ}
use Rattle.dri_base.specs.Fragments.{rules_of}
use Rattle.dri_base.specs.States.{state_at}
use Rattle.dri_base.specs.declared.command.Command.TheVariants as Command_is
use Rattle.dri_base.specs.declared.shape.Triangle.{Triangle}
use Rattle.dri_base.specs.Scenes.{command_at, commands_of, script_of, window_of}
use Rattle.dri_base.specs.declared.colour.Pixel.{Pixel}
use Rattle.dri_base.specs.declared.colour.Rgb.{Rgb}
use Rattle.dri_base.specs.declared.journal.Entry.TheVariants.{Run}
use Rattle.dri_base.specs.declared.journal.Entry.{Entry}
use Rattle.dri_base.specs.declared.scene.Scene.{Scene}
use Rattle.dri_card16.specs.PixelRules.{PixelRule, drawn_at_with, kept_pair, solo_frame_with}
use Rattle.dri_core.specs.EntryTable.{after_entry}
use Rattle.dri_core.specs.Frames.{FrameStood, NoSwap, Stands, across, down}
use Rattle.dri_core.specs.PlaneSteps.{back_by, front_by}
use Rattle.dri_core.specs.Runs.{SameOutside, after, after_entries}
use Rattle.dri_core.specs.Solo.{frame, image_at}
use Rattle.dri_core.specs.Worlds.{World, clips_in, opening}

-- front after an entry: what is kept of the colours that the entry makes of it
abbrev pub front_with : PixelRule → Scene → World → Entry → ℕ → ℕ → Rgb
front_with rule s w e x y = rule.kept (front_by s w e x y)

-- back, with its depth, after an entry: in its client's current clips a run draws by the card's rule
abbrev pub back_with : PixelRule → Scene → World → Entry → ℕ → ℕ → Pixel
back_with rule s w (Run c i) x y = if clips_in s w c x y then drawn_at_with rule (script_of s c) i (across s w c x) (down s w c y) (w.back x y) else w.back x y
back_with rule s w e x y = back_by s w e x y

-- the world after an entry
abbrev pub after_entry_with : PixelRule → Scene → World → Entry → World
after_entry_with rule s w e = record (after_entry s w e) { front = front_with rule s w e; back = back_with rule s w e }

-- the world at the opening
abbrev pub opening_with : PixelRule → Scene → World
opening_with rule s = record (opening s) { front = λ x y. rule.kept ((opening s).front x y); back = λ x y. kept_pair rule.kept ((opening s).back x y) }

-- the world after these entries
abbrev pub after_entries_with : PixelRule → Scene → World → List Entry → World
after_entries_with rule s w [] = w
after_entries_with rule s w (e ∷ es) = after_entries_with rule s (after_entry_with rule s w e) es

-- the world that a journal leaves
abbrev pub after_with : PixelRule → Scene → List Entry → World
after_with rule s journal = after_entries_with rule s (opening_with rule s) journal

-- the two worlds differ in front and back at most
abbrev pub DifferInPlanes : World → World → Type 0
DifferInPlanes v w = v ≡ record w { front = v.front; back = v.back }

-- each colour of front and back is all that is kept of it
pub record PlanesAreKept (rule : PixelRule) (w : World) : Type 0 where
  pub front : (x y : ℕ) → rule.kept (w.front x y) ≡ w.front x y
  pub back : (x y : ℕ) → rule.kept (w.back x y).colour ≡ (w.back x y).colour

-- no command changes a pixel outside its client's clips of that moment
abbrev pub ConfinedWith : PixelRule → Scene → List Entry → Type 0
ConfinedWith rule s journal =
    (past rest : List Entry) (c i : ℕ) → journal ≡ past ++ Run c i ∷ rest →
    SameOutside (clips_in s (after s past) c) (after_with rule s past) (after_with rule s (past ++ Run c i ∷ []))

-- a triangle is drawn by the card's rule with its client's own state and its own image, in the current clips
abbrev pub OwnWith : PixelRule → Scene → List Entry → Type 0
OwnWith rule s journal =
    (past rest : List Entry) (c i x y : ℕ) (t : Triangle) → journal ≡ past ++ Run c i ∷ rest → command_at s c i ≡ Some (Command_is.Triangle t) → clips_in s (after s past) c x y ≡ true →
    (after_with rule s (past ++ Run c i ∷ [])).back x y ≡
    rule.triangle (rules_of (state_at (commands_of s c) i)) (image_at (script_of s c) i) t (across s (after s past) c x) (down s (after s past) c y) ((after_with rule s past).back x y)

-- front shows frame k drawn alone by the card's rule, wherever the window shows
abbrev pub ShowsWith : PixelRule → Scene → ℕ → ℕ → World → Type 0
ShowsWith rule s c k w = (x y : ℕ) → clips_in s w c x y ≡ true → Some (w.front x y) ≡ solo_frame_with rule (script_of s c) k (across s w c x) (down s w c y)

-- each frame that stood from its last clear to its swap is shown after the swap, with the clips and the origin of each later moment, until the
-- client swaps again or its window gets a new stamp otherwise than by a whole move
abbrev pub SoloLeftWith : PixelRule → Scene → List Entry → Type 0
SoloLeftWith rule s journal =
    (c k first last : ℕ) (past middle later rest : List Entry) → frame (commands_of s c) k ≡ Some (first, last) →
    journal ≡ past ++ Run c first ∷ (middle ++ Run c last ∷ (later ++ rest)) →
    let cleared = after_entry s (after s past) (Run c first) in
    let swapped = after_entry s (after_entries s cleared middle) (Run c last) in
    Stands s (window_of s c) cleared middle → Stands s (window_of s c) swapped later → NoSwap s c later →
    ShowsWith rule s c k (after_with rule s (past ++ Run c first ∷ (middle ++ Run c last ∷ later)))

-- each frame that stood is shown right after its swap
abbrev pub StoodIsShownWith : PixelRule → Scene → List Entry → Type 0
StoodIsShownWith rule s journal =
    (c k : ℕ) (stood : FrameStood s journal c k) → ShowsWith rule s c k (after_with rule s (stood.past ++ Run c stood.first ∷ (stood.middle ++ Run c stood.last ∷ [])))
