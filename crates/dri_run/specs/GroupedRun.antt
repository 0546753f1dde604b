-- A scene with groups of its clients: the text of the scene and, behind its done line, that of the groups. What its run gives.
use Rattle.std.specs.Prelude.{◌≡◌, ℕ, ◌+◌, List, All, Result, Ok}
use Rattle.dri_base.specs.declared.journal.Event.{Event}
use Rattle.dri_base.specs.declared.scene.Scene.{Scene}
use Rattle.dri_core.specs.CoreRuns.{IsRun}
use Rattle.dri_core.specs.Cores.{journal_of}
use Rattle.dri_core.specs.Runs.{plain}
use Rattle.dri_many.specs.Readings.{groups_of_text}
use Rattle.dri_many.specs.declared.fault.GroupFault.{GroupFault}
use Rattle.dri_many.specs.declared.fault.GroupFault.TheVariants as faults
use Rattle.dri_many.specs.declared.grouping.Grouping.{Grouping}
use Rattle.dri_world.specs.GroupRuns.{IsGrouped}
use Rattle.dri_world.specs.Segments.{IsSegmented}
use Rattle.dri_words.specs.Lines.{◌>>=◌}
use Rattle.dri_words.specs.declared.lines.Refusal.{Refusal}
use Rattle.dri_run.specs.Readings.{Kind, most_behind, with_scene}
use Rattle.dri_run.specs.ScheduledRun.{Holds, notes_of, picture_of}
use Rattle.dri_run.specs.declared.form.Shown.TheVariants.{Turns}
use Rattle.dri_run.specs.declared.grouped.GroupedScene.{GroupedScene}
use Rattle.dri_run.specs.declared.status.Status.{Status}
use Rattle.dri_run.specs.declared.status.Status.TheVariants as answers

-- a scene, and the groups that the text behind it spells; its lines count on from those of the scene
abbrev pub with_groups : Scene → ℕ → List ℕ → Result GroupedScene Refusal
with_groups scene lines text = groups_of_text scene (lines + 1) text >>= λ groups. Ok record { scene = scene; groups = groups }

-- the scene and the groups that the bytes spell, or the first line that is refused
unfoldable pub grouped_of : List ℕ → Result GroupedScene Refusal
grouped_of bytes = with_scene with_groups bytes

-- the status for a text that has no groups
abbrev pub refusal_of_groups : GroupFault → Status
refusal_of_groups (faults.Refused line reason) = answers.Refused line reason
refusal_of_groups faults.OutOfMemory = answers.OutOfMemory

-- scenes with groups, as texts
abbrev pub grouped_scenes : Kind GroupedScene
grouped_scenes = record { most = most_behind; spelled = grouped_of; scene = λ grouped. grouped.scene }

-- a run of the scene in rounds of groups, until nothing is left to do
pub record IsRunInGroups (scene : Scene) (groups : List Grouping) (events : List Event) : Type 0 where
  -- each event is legal
  pub run : IsRun scene events
  -- in a round each group takes a turn by its current member, then each client in no group, rising, then the server
  pub rounds : IsGrouped scene groups events
  -- the entries of a group's members are whole segments, in the order in which these are made current
  pub segments : All (λ g. IsSegmented scene g (journal_of events)) groups
  pub holds : Holds scene events

-- the scene ran in its groups and without its schedule: the picture is the screen after the run, in the P6 form, and the notes are its journal
pub record GivesGrouped (grouped : GroupedScene) (image text : List ℕ) : Type 0 where
  pub events : List Event
  pub run : IsRunInGroups (plain grouped.scene) grouped.groups events
  pub picture : image ≡ picture_of Turns (plain grouped.scene) events
  pub notes : text ≡ notes_of Turns events
