-- The passes of the scene that the value was made of.
use Rattle.std.proofs.Common.{◌∙◌, subst}
use Rattle.dri_base.specs.declared.scene.Scene.{Scene}
use Rattle.dri_hwlock.specs.Tokens.{AreNew, id_of, passes_in}
use Rattle.dri_threads.proofs.whole.lock_over.Goals as goal

pub returns-in-Ok-clause-passes : goal.returns-in-Ok-clause-passes
returns-in-Ok-clause-passes c = subst (λ (s : Scene). AreNew (id_of c.in-Ok.made.0) s 1 (passes_in c.in-Ok.made.1)) (c.in_ok-shared.ensures.scene ∙ c.in_ok-clone.ensures.cases) c.in-Ok.ensures.passes
