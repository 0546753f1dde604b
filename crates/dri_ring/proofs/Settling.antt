-- Jobs one after another.
use Rattle.std.proofs.Common.{◌≡◌, List, [], ◌∷◌, ◌++◌, refl}
use Rattle.std.proofs.lemmas.List.Sums.{fold-append}
use Rattle.dri_base.specs.declared.scene.Scene.{Scene}
use Rattle.dri_ring.specs.Jobs.{Planes, effect}
use Rattle.dri_ring.specs.Rings.{after_jobs, first_run, without_first}
use Rattle.dri_ring.specs.declared.job.Job.{Job}

-- one job more
pub put_last : (s : Scene) (jobs : List Job) (job : Job) (p : Planes) → after_jobs s (jobs ++ job ∷ []) p ≡ effect s (after_jobs s jobs p) job
put_last s jobs job p = fold-append (effect s) p jobs (job ∷ [])

-- the first one is made at once
pub first_made : (s : Scene) (jobs : List Job) (p : Planes) → after_jobs s (without_first jobs) (first_run s jobs p) ≡ after_jobs s jobs p
first_made s [] p = refl
first_made s (job ∷ jobs) p = refl
