-- What C is told of a scene's text that is played by turns and kills, given as numbers, in place of its schedule.
use Rattle.std.specs.Prelude.{◌≡◌, ◌+◌, ℕ, ℤ, pos, negsuc, List, [], map, if◌then◌else◌, Result, Ok, Err}
use Rattle.dri_base.specs.Ranges.{InRange}
use Rattle.dri_base.specs.declared.command.Item.{Item}
use Rattle.dri_base.specs.declared.command.Item.TheVariants.{Kill, Turn}
use Rattle.dri_base.specs.declared.scene.Scene.{Scene}
use Rattle.dri_c.specs.Buffers.{filled, gained, has_room}
use Rattle.dri_c.specs.Told.{IsTold}
use Rattle.dri_c.specs.declared.answer.Answer.{Answer}
use Rattle.dri_c.specs.declared.playing.PlayAnswer.{PlayAnswer}
use Rattle.dri_core.specs.Cores.{opening_core}
use Rattle.dri_play.specs.Plays.{IsPlayed, events_of, passed_over, scheduled}
use Rattle.dri_play.specs.declared.fault.PlayFault.{PlayFault}
use Rattle.dri_play.specs.declared.fault.PlayFault.TheVariants as play_faults
use Rattle.dri_play.specs.declared.playing.Played.{Played}
use Rattle.dri_run.specs.Readings.{IsDecided, IsRefusalOf, scenes}
use Rattle.dri_run.specs.declared.status.Status.{Status}
use Rattle.dri_run.specs.declared.status.Status.TheVariants as answers
use Rattle.dri_scene.specs.declared.fault.SceneFault.{SceneFault}
use Rattle.dri_scene.specs.declared.fault.SceneFault.TheVariants as scene_faults

-- the turn of an actor is its number, 0 the server's; the kill of a client is its number's negative
abbrev pub item_of : ℤ → Item
item_of (pos n) = Turn n
item_of (negsuc n) = Kill (n + 1)

-- the status for a text that has no scene
abbrev pub status_for : SceneFault → Status
status_for (scene_faults.Refused line reason) = answers.Refused line reason
status_for scene_faults.OutOfMemory = answers.OutOfMemory

-- and for a scene that wasn't played
abbrev pub fault_of : PlayFault → Status
fault_of play_faults.OutOfRange = answers.Usage
fault_of play_faults.OutOfMemory = answers.OutOfMemory

-- the scene is in range with these items as its schedule, and this is what playing them gives
pub record IsPlayedBy (s : Scene) (given : Played) : Type 0 where
  pub good : InRange s
  pub plays : IsPlayed s (events_of s) (passed_over s (opening_core s) s.turns) given

-- the text spells a scene, and it was played; or a number names nobody in it, or there are too many; or the text is refused; and memory may be wanting
abbrev pub PlaysText : Result Played Status → List ℕ → List ℤ → Type 0
PlaysText (Ok given) text numbers = (scene : Scene) × IsDecided scenes (Ok scene) text × IsPlayedBy (scheduled scene (map item_of numbers)) given
PlaysText (Err answers.Usage) text numbers = (scene : Scene) × IsDecided scenes (Ok scene) text × (InRange (scheduled scene (map item_of numbers)) → ⊥)
PlaysText (Err answers.OutOfMemory) text numbers = Unit {0}
PlaysText (Err status) text numbers = IsRefusalOf scenes status text

-- what was played wasn't told whole where the flags have no room
abbrev pub played_status : List ℕ → List ℕ → Status
played_status flags passed = if has_room flags passed then answers.Done else answers.WriteFault

-- C is told what was played: the flags, the screen and the journal, each where its buffer has room
pub record IsShown (given : Played) (passed passed' picture picture' notes notes' : List ℕ) (played : PlayAnswer) (answer : Answer) : Type 0 where
  pub flags : passed' ≡ filled given.passed passed
  pub numbers : played ≡ record { events = given.events; passed_written = gained given.passed passed; word = given.word }
  pub told : IsTold (played_status given.passed passed) given.picture given.notes picture picture' notes notes' answer

-- or that nothing was, and why
pub record IsNotPlayed (status : Status) (passed passed' picture picture' notes notes' : List ℕ) (played : PlayAnswer) (answer : Answer) : Type 0 where
  pub stays : passed' ≡ passed
  pub nothing : played ≡ record { events = 0; passed_written = 0; word = 0 }
  pub told : IsTold status [] [] picture picture' notes notes' answer

abbrev pub IsToldOf : Result Played Status → List ℕ → List ℕ → List ℕ → List ℕ → List ℕ → List ℕ → PlayAnswer → Answer → Type 0
IsToldOf (Ok given) passed passed' picture picture' notes notes' played answer = IsShown given passed passed' picture picture' notes notes' played answer
IsToldOf (Err status) passed passed' picture picture' notes notes' played answer = IsNotPlayed status passed passed' picture picture' notes notes' played answer

-- C is told what playing these numbers' items in the scene of a text gives
pub record TellsPlay (text : List ℕ) (numbers : List ℤ) (passed passed' picture picture' notes notes' : List ℕ) (played : PlayAnswer) (answer : Answer) : Type 0 where
  pub given : Result Played Status
  pub plays : PlaysText given text numbers
  pub told : IsToldOf given passed passed' picture picture' notes notes' played answer
