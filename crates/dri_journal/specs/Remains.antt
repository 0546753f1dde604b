-- What a replay keeps of the world that its entries leave.
use Rattle.std.specs.Prelude.{◌≡◌, ℕ, List, Some, length, slice_get}
use Rattle.dri_base.specs.Ranges.{InRange}
use Rattle.dri_base.specs.declared.journal.Entry.{Entry}
use Rattle.dri_base.specs.declared.scene.ClientScript.{ClientScript}
use Rattle.dri_base.specs.declared.scene.Scene.{Scene}
use Rattle.dri_client.specs.Kept.{IsKept}
use Rattle.dri_client.specs.Parts.{Agrees, PartState}
use Rattle.dri_clips.specs.Boards.{Screen}
use Rattle.dri_clips.specs.SceneBoards.{IsBoardOf}
use Rattle.dri_core.specs.Privates.{opening_part}
use Rattle.dri_core.specs.Runs.{HoldRun, after}
use Rattle.dri_core.specs.Worlds.{World}
use Rattle.dri_journal.specs.Tallies.{IsTallyOf}
use Rattle.dri_journal.specs.declared.marks.Marks.{Marks}
use Rattle.dri_journal.specs.declared.tally.Tally.{Tally}
use Rattle.dri_meaning.specs.Reports as Reports
use Rattle.dri_texheap.specs.RegionStates.{AreRegionsOf, RegionState}

-- the marks are the world's
pub record AreMarksOf (w : World) (marks : Marks) : Type 0 where
  pub holder : marks.holder ≡ w.holder
  pub left : marks.left ≡ w.left
  pub owner : marks.owner ≡ w.owner
  pub made : marks.made ≡ w.made

-- the part of a script's client is the world's, whatever the copies are
pub record IsPartOf (s : Scene) (w : World) (p : ClientScript) (part : PartState) : Type 0 where
  pub agrees : Agrees part (w.client p.number)
  pub kept : IsKept p s.regions part
  pub size : part.placed.region_size ≡ s.region_size

-- there is a part for each script, in the scripts' order
pub record ArePartsOf (s : Scene) (w : World) (parts : List PartState) : Type 0 where
  pub room : length parts ≡ length s.clients
  pub each : (i : ℕ) (p : ClientScript) (part : PartState) → slice_get s.clients i ≡ Some p → slice_get parts i ≡ Some part → IsPartOf s w p part

-- the parts of the scripts' clients as the run begins, with regions of so many bytes
pub record AreOpening (size : ℕ) (scripts : List ClientScript) (parts : List PartState) : Type 0 where
  pub room : length parts ≡ length scripts
  pub each : (i : ℕ) (p : ClientScript) (part : PartState) → slice_get scripts i ≡ Some p → slice_get parts i ≡ Some part →
      Agrees part (opening_part p.commands) × ((regions : ℕ) → IsKept p regions part) × (part.placed.region_size ≡ size)

-- the scene is in range, the entries are a hold-run of it, and the rest is what they leave
pub record IsFaithful (s : Scene) (journal : List Entry) (board : Screen) (regions : RegionState) (parts : List PartState) (tally : Tally) (marks : Marks) : Type 0 where
  pub scene : InRange s
  pub run : HoldRun s journal
  pub windows : IsBoardOf s (after s journal).stack (after s journal).stamps (after s journal).counter board
  pub memory : AreRegionsOf s (after s journal).heap regions
  pub clients : ArePartsOf s (after s journal) parts
  pub counts : IsTallyOf s (Reports.tally s journal) tally
  pub world : AreMarksOf (after s journal) marks
