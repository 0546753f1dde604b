-- A scene played by items that are given, in place of its schedule.
use Rattle.std.specs.Prelude.{◌≡◌, ℕ, List, [], ◌∷◌, length, Option, Some, None, Result, Ok, Err}
use Rattle.dri_base.specs.Planes.{plane}
use Rattle.dri_base.specs.Ranges.{InRange}
use Rattle.dri_base.specs.declared.command.Item.{Item}
use Rattle.dri_base.specs.declared.journal.Event.{Event}
use Rattle.dri_base.specs.declared.scene.Scene.{Scene}
use Rattle.dri_core.specs.CoreRuns.{ConfinedRun, IsRun, OwnRun, SoloLeftRun, after_events, world_of}
use Rattle.dri_core.specs.Cores.{Core, journal_of, opening_core, word_number}
use Rattle.dri_core.specs.Turns.{core_after, item_event, played}
use Rattle.dri_journal.specs.Journals.{journal_text}
use Rattle.dri_play.specs.declared.fault.PlayFault.{PlayFault}
use Rattle.dri_play.specs.declared.fault.PlayFault.TheVariants as faults
use Rattle.dri_play.specs.declared.playing.Played.{Played}
use Rattle.dri_ppm.specs.Ppm.{ppm}

-- the scene with these items as its schedule
abbrev pub scheduled : Scene → List Item → Scene
scheduled scene items = record scene { turns = items }

-- 1 for what is passed over, 0 for what makes an event
abbrev pub flag : Option Event → ℕ
flag None = 1
flag (Some e) = 0

-- the flags of these items, which are taken one after another
abbrev pub passed_over : Scene → Core → List Item → List ℕ
passed_over s k [] = []
passed_over s k (item ∷ items) = flag (item_event s k item) ∷ passed_over s (core_after s k (item_event s k item)) items

-- the events of a scene's schedule, and no more
abbrev pub events_of : Scene → List Event
events_of s = played s (opening_core s) s.turns

-- what is told of these events: the lock word after them, how many there are, what the screen shows then, and the journal
pub record IsPlayed (s : Scene) (events : List Event) (flags : List ℕ) (given : Played) : Type 0 where
  pub word : given.word ≡ word_number (after_events s (opening_core s) events).word
  pub number : given.events ≡ length events
  pub passed : given.passed ≡ flags
  pub picture : given.picture ≡ ppm s.width s.height (plane s.width s.height (world_of s events).front)
  pub notes : given.notes ≡ journal_text (journal_of events)
  -- the events are a run of the scene
  pub run : IsRun s events
  -- no command changes a pixel outside its client's clips of that moment
  pub confined : ConfinedRun s events
  -- each triangle is drawn with its own client's registers and texels
  pub own : OwnRun s events
  -- each frame that stood is left in its client's clips as it is drawn alone
  pub solo_left : SoloLeftRun s events

-- a scene is played by its schedule where it is in range; else it is out of range; and memory may be wanting
abbrev pub Plays : Result Played PlayFault → Scene → Type 0
Plays (Ok given) s = InRange s × IsPlayed s (events_of s) (passed_over s (opening_core s) s.turns) given
Plays (Err faults.OutOfRange) s = InRange s → ⊥
Plays (Err faults.OutOfMemory) s = Unit {0}
