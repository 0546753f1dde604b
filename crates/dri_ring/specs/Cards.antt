-- The card that jobs run on, and the jobs that it can run.
use Rattle.std.specs.Prelude.{◌≡◌, length}
use Rattle.dri_base.specs.Ranges.{heap_bytes}
use Rattle.dri_base.specs.declared.scene.Scene.{Scene}
use Rattle.dri_card.specs.Contents.{Contents, HaveSides}
use Rattle.dri_ring.specs.Jobs.{IsDrawable, IsGood}
use Rattle.dri_ring.specs.Rings.{Show, read}
use Rattle.dri_ring.specs.declared.job.Job.{Job}

-- a card of the scene: it has the screen's sides, all of the texture memory, and a pixel for each place
pub record IsCardOf (s : Scene) (card : Contents) : Type 0 where
  pub sides : HaveSides card s.width s.height
  pub bytes : length card.memory ≡ heap_bytes s
  pub whole : Show card.front card.back card.depth (read card.front card.back card.depth)

-- a job that the card can run
pub record IsReady (s : Scene) (job : Job) : Type 0 where
  pub good : IsGood s job
  pub drawable : IsDrawable job
