-- Runs of the core, and what is said of them.
use Rattle.std.specs.Prelude.{Bool, List, None, Option, Some, [], false, true, ℕ, ◌++◌, ◌+◌, ◌∷◌, ◌≡◌, ◌≢◌}
use Rattle.dri_base.specs.declared.journal.Entry.{Entry}
use Rattle.dri_base.specs.declared.journal.Event.{Event}
use Rattle.dri_base.specs.declared.journal.Event.TheVariants.{Run}
use Rattle.dri_base.specs.declared.scene.Scene.{Scene}
use Rattle.dri_core.specs.Cores.{Core, entry_of, opening_core}
use Rattle.dri_core.specs.EventTable.{LegalEvent, after_event}
use Rattle.dri_core.specs.Frames.{OwnAt, Shows, keeps}
use Rattle.dri_core.specs.Phases.{Out}
use Rattle.dri_core.specs.Privates.{own_registers}
use Rattle.dri_core.specs.Runs.{HasBytes, IsClean, IsCurrent, SameOutside}
use Rattle.dri_base.specs.Scenes.{bytes_of, command_at, commands_of, textures_of, window_of}
use Rattle.dri_base.specs.Texels.{texture_in}
use Rattle.dri_model.specs.Heaps.{base_of}
use Rattle.dri_model.specs.Heaps as Heaps
use Rattle.dri_core.specs.Solo.{frame, is_swap}
use Rattle.dri_core.specs.Worlds.{World, clips_in}

-- the core after these events
abbrev pub after_events : Scene → Core → List Event → Core
after_events s k [] = k
after_events s k (e ∷ es) = after_events s (after_event s k e) es

-- each event is legal in the core that those before it leave
abbrev pub LegalEvents : Scene → Core → List Event → Type 0
LegalEvents s k [] = Unit {0}
LegalEvents s k (e ∷ es) = LegalEvent s k e × LegalEvents s (after_event s k e) es

-- a run of the scene
abbrev pub IsRun : Scene → List Event → Type 0
IsRun s events = LegalEvents s (opening_core s) events

-- the world that the events leave
abbrev pub world_of : Scene → List Event → World
world_of s events = (after_events s (opening_core s) events).world

-- where the word is unheld and is client c's context and c is out, c is current, so its light lock needs no check
abbrev pub WordIsCurrent : Scene → Core → Type 0
WordIsCurrent s k = (c : ℕ) → k.word.held ≡ false → k.word.context ≡ c + 1 → (k.world.client c).phase ≡ Out → IsCurrent s k.world c

-- then each group of c that isn't dirty is in the card as c would emit it now
abbrev pub WordIsClean : Scene → Core → Type 0
WordIsClean s k =
    (c : ℕ) → k.word.held ≡ false → k.word.context ≡ c + 1 → (k.world.client c).phase ≡ Out →
    IsClean (k.world.client c).dirty (own_registers s c (k.world.client c)) k.world.registers

-- and each texture that c has placed has its image in the card's memory
abbrev pub WordHasImages : Scene → Core → Type 0
WordHasImages s k =
    (c : ℕ) → k.word.held ≡ false → k.word.context ≡ c + 1 → (k.world.client c).phase ≡ Out →
    (t : ℕ) (spot : Heaps.Spot) → (k.world.client c).placed t ≡ Some spot →
    HasBytes k.world.memory (base_of s.region_size spot) (bytes_of (texture_in (textures_of s c) t))

-- no command changes a pixel outside its client's clips of that moment
abbrev pub ConfinedRun : Scene → List Event → Type 0
ConfinedRun s events =
    (past rest : List Event) (c i : ℕ) → events ≡ past ++ Run c i ∷ rest →
    SameOutside (clips_in s (world_of s past) c) (world_of s past) (world_of s (past ++ Run c i ∷ []))

-- each triangle is drawn with its client's own state and image
abbrev pub OwnRun : Scene → List Event → Type 0
OwnRun s events = (past rest : List Event) (c i : ℕ) → events ≡ past ++ Run c i ∷ rest → OwnAt s (world_of s past) c i

-- an entry keeps what stands on window n, where there is one
abbrev pub entry_keeps : Scene → World → Option Entry → ℕ → Bool
entry_keeps s w None n = true
entry_keeps s w (Some e) n = keeps s w e n

-- each of these events keeps what stands on window n
abbrev pub StandsIn : Scene → ℕ → Core → List Event → Type 0
StandsIn s n k [] = Unit {0}
StandsIn s n k (e ∷ es) = (entry_keeps s k.world (entry_of e) n ≡ true) × StandsIn s n (after_event s k e) es

-- none of these events is a swap of client c
abbrev pub NoSwapIn : Scene → ℕ → List Event → Type 0
NoSwapIn s c [] = Unit {0}
NoSwapIn s c (e ∷ es) = ((i : ℕ) → is_swap (command_at s c i) ≡ true → e ≢ Run c i) × NoSwapIn s c es

-- each frame that stood is shown after its swap, until the client swaps again or its window gets a new stamp otherwise than by a whole move
abbrev pub SoloLeftRun : Scene → List Event → Type 0
SoloLeftRun s events =
    (c k first last : ℕ) (past middle later rest : List Event) → frame (commands_of s c) k ≡ Some (first, last) →
    events ≡ past ++ Run c first ∷ (middle ++ Run c last ∷ (later ++ rest)) →
    let cleared = after_event s (after_events s (opening_core s) past) (Run c first) in
    let swapped = after_event s (after_events s cleared middle) (Run c last) in
    StandsIn s (window_of s c) cleared middle → StandsIn s (window_of s c) swapped later → NoSwapIn s c later →
    Shows s c k (after_events s swapped later).world
