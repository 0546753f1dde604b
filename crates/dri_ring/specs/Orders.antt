-- Puts and steps in any order, and what they come to.
use Rattle.std.specs.Prelude.{List, [], ◌∷◌, ◌++◌, fold, Option, Some, None}
use Rattle.dri_base.specs.declared.scene.Scene.{Scene}
use Rattle.dri_ring.specs.Jobs.{Planes}
use Rattle.dri_ring.specs.Rings.{after_jobs, first_run, without_first}
use Rattle.dri_ring.specs.declared.job.Job.{Job}

-- the jobs that wait, and the planes as they are
pub record Standing : Type 0 where
  pub pending : List Job
  pub planes : Planes

-- one call more: a put of a job, which waits then, or where there is none a step, which runs the first one
abbrev pub called : Scene → Standing → Option Job → Standing
called s v (Some job) = record { pending = v.pending ++ job ∷ []; planes = v.planes }
called s v None = record { pending = without_first v.pending; planes = first_run s v.pending v.planes }

-- calls, one after another
abbrev pub all_called : Scene → Standing → List (Option Job) → Standing
all_called s v calls = fold (called s) v calls

-- the planes once all that waits ran
abbrev pub at_idle : Scene → Standing → Planes
at_idle s v = after_jobs s v.pending v.planes

-- the jobs that calls put, in order
abbrev pub jobs_put : List (Option Job) → List Job
jobs_put [] = []
jobs_put (Some job ∷ calls) = job ∷ jobs_put calls
jobs_put (None ∷ calls) = jobs_put calls
