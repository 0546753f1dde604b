-- The groups' text stands behind the scene's part, they are groups of the scene without its schedule, and what a run in them gives.
use Rattle.std.proofs.Common.{◌≡◌, ℕ, ◌+◌, ◌≤◌, List, All, length, drop, Ok, Err, ap, ◌∙◌, subst, arith, length-drop}
use Rattle.dri_base.specs.Planes.{plane}
use Rattle.dri_base.specs.declared.colour.Rgb.{Rgb}
use Rattle.dri_base.specs.declared.journal.Entry.{Entry}
use Rattle.dri_base.specs.declared.journal.Event.{Event}
use Rattle.dri_base.specs.declared.scene.Scene.{Scene}
use Rattle.dri_core.specs.CoreRuns.{world_of}
use Rattle.dri_core.specs.Cores.{journal_of}
use Rattle.dri_core.specs.Runs.{plain}
use Rattle.dri_journal.specs.Journals.{journal_text}
use Rattle.dri_many.specs.Groupings.{AreGroupings, IsGrouping}
use Rattle.dri_many.specs.Readings.{Gives, groups_of_text}
use Rattle.dri_many.specs.declared.fault.GroupFault.{GroupFault}
use Rattle.dri_many.specs.declared.fault.GroupFault.TheVariants as group_faults
use Rattle.dri_many.specs.declared.grouping.Grouping.{Grouping}
use Rattle.dri_ppm.specs.Ppm.{ppm}
use Rattle.dri_scene.specs.Readings.{part_of}
use Rattle.dri_scene.specs.Readings as scenes
use Rattle.dri_scene.specs.declared.fault.SceneFault.{SceneFault}
use Rattle.dri_scene.specs.declared.part.Part.{Part}
use Rattle.dri_words.specs.Lines.{◌>>=◌}
use Rattle.dri_run.proofs.Behind.{behind_part, part_fits, part_refused}
use Rattle.dri_run.specs.GroupedRun.{GivesGrouped, IsRunInGroups, grouped_of, refusal_of_groups, with_groups}
use Rattle.dri_run.specs.Readings.{Spells, refusal}
use Rattle.dri_run.specs.ScheduledRun.{picture_of}
use Rattle.dri_run.specs.declared.form.Shown.TheVariants.{Turns}
use Rattle.dri_run.specs.declared.grouped.GroupedScene.{GroupedScene}

-- the scene is refused
pub scene_refused : (bytes : List ℕ) (fault : SceneFault) → scenes.Gives {A = Scene × Part} (Err fault) (part_of bytes) → Spells (Err (refusal fault)) (grouped_of bytes)
unfolding grouped_of
scene_refused bytes fault is = part_refused with_groups bytes fault is

-- what is made of the groups' text
groups_next : (bytes rest : List ℕ) (read : Scene × Part) → part_of bytes ≡ Ok read → rest ≡ drop read.1.bytes bytes → grouped_of bytes ≡ with_groups read.0 read.1.lines rest
unfolding grouped_of
groups_next bytes rest read is same = behind_part with_groups bytes rest read is same

-- scene and groups are there
pub both_read : (bytes rest : List ℕ) (read : Scene × Part) (groups : List Grouping) → part_of bytes ≡ Ok read → rest ≡ drop read.1.bytes bytes → groups_of_text read.0 (read.1.lines + 1) rest ≡ Ok groups →
    grouped_of bytes ≡ Ok record { scene = read.0; groups = groups }
both_read bytes rest read groups is same spelled =
    groups_next bytes rest read is same ∙ ap (λ r. r >>= λ gs. Ok record { scene = read.0; groups = gs }) spelled

-- the groups are refused
pub groups_refused : (bytes rest : List ℕ) (read : Scene × Part) (fault : GroupFault) → part_of bytes ≡ Ok read → rest ≡ drop read.1.bytes bytes → Gives (Err fault) (groups_of_text read.0 (read.1.lines + 1) rest) →
    Spells (Err (refusal_of_groups fault)) (grouped_of bytes)
groups_refused bytes rest read (group_faults.Refused line reason) is same refused =
    groups_next bytes rest read is same ∙ ap (λ r. r >>= λ gs. Ok record { scene = read.0; groups = gs }) refused
groups_refused bytes rest read group_faults.OutOfMemory is same refused = tt

-- the lines fit, counted over all the bytes
pub lines_fit : (bytes rest : List ℕ) (read : Scene × Part) → length bytes ≤ 33554432 → part_of bytes ≡ Ok read → rest ≡ drop read.1.bytes bytes → (read.1.lines + 1) + length rest ≤ 4294967295
lines_fit bytes rest read few is same =
    let part = part_fits bytes read.0 read.1 is in
    omega (arith, few, part.within, part.short, ap length same, length-drop read.1.bytes bytes)

-- a schedule makes no difference to a group
plain_each : (s : Scene) (groups : List Grouping) → All (IsGrouping s) groups → All (IsGrouping (plain s)) groups
plain_each s groups each = λ k none within. let is = each k none within in record { sized = is.sized; there = is.there; led = is.led }

pub plain_groups : (s : Scene) (groups : List Grouping) → AreGroupings s groups → AreGroupings (plain s) groups
plain_groups s groups are = record { each = plain_each s groups are.each; apart = are.apart; few = are.few }

-- what is shown of a world that ran in groups
pub grouped_gives : (grouped : GroupedScene) (played : Scene) (events : List Event) (journal : List Entry) (width height : ℕ) (pixels : List Rgb) (image text : List ℕ) → played ≡ plain grouped.scene → IsRunInGroups played grouped.groups events →
    width ≡ played.width → height ≡ played.height → pixels ≡ plane played.width played.height (world_of played events).front → image ≡ ppm width height pixels → journal ≡ journal_of events → text ≡ journal_text journal → GivesGrouped grouped image text
grouped_gives grouped played events journal width height pixels image text same run wide high shown drawn is spelled = record {
  events = events;
  run = subst (λ (s : Scene). IsRunInGroups s grouped.groups events) same run;
  picture = drawn ∙ sized ∙ ap (λ (s : Scene). picture_of Turns s events) same;
  notes = spelled ∙ ap journal_text is;
} where
  sized : ppm width height pixels ≡ picture_of Turns played events
  sized = ap (λ n. ppm n height pixels) wide ∙ ap (λ n. ppm played.width n pixels) high ∙ ap (ppm played.width played.height) shown
