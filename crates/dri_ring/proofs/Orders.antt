-- Steps between puts change nothing of what all jobs come to.
use Rattle.std.proofs.Common.{◌≡◌, List, [], ◌∷◌, Option, Some, None, refl, ◌∙◌, ap}
use Rattle.dri_base.specs.declared.scene.Scene.{Scene}
use Rattle.dri_ring.specs.Orders.{Standing, all_called, at_idle, called, jobs_put}
use Rattle.dri_ring.specs.Rings.{after_jobs}
use Rattle.dri_ring.specs.declared.job.Job.{Job}
use Rattle.dri_ring.proofs.Settling.{first_made, put_last}

pub drawn_at_once : (s : Scene) (calls : List (Option Job)) (v : Standing) → at_idle s (all_called s v calls) ≡ after_jobs s (jobs_put calls) (at_idle s v)
drawn_at_once s [] v = refl
drawn_at_once s (Some job ∷ calls) v = drawn_at_once s calls (called s v (Some job)) ∙ ap (after_jobs s (jobs_put calls)) (put_last s v.pending job v.planes)
drawn_at_once s (None ∷ calls) v = drawn_at_once s calls (called s v None) ∙ ap (after_jobs s (jobs_put calls)) (first_made s v.pending v.planes)
