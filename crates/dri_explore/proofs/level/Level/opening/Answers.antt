use Rattle.std.proofs.Common.{List, [], ◌++◌, ◌∷◌, ◌∙◌, ap, subst}
use Rattle.std.specs.Arc.{arc_value}
use Rattle.dri_base.specs.declared.scene.Scene.{Scene}
use Rattle.dri_explore.specs.Nodes.{IsNode}
use Rattle.dri_explore.specs.declared.level.Level.{Level}
use Rattle.dri_explore.specs.declared.node.Node.{Node}
use Rattle.dri_explore.proofs.Steps.{opening_level}
use Rattle.dri_explore.proofs.level.Level.opening.Goals as goal

abbrev level_of : List Node → Level
level_of nodes = record { made = 0; nodes = nodes }

pub returns-clause-level : goal.returns-clause-level
returns-clause-level c = let node = c.in_ok-node.node in
    opening_level (arc_value c.args.scene.now) node _ (subst (λ (s : Scene). IsNode s node) c.deref.ensures c.in_ok-node.ensures.node) (c.in_ok-node.ensures.items ∙ c.new-2.ensures)
    (ap level_of (c.in_ok-push.ensures.ok ∙ ap (λ ns. ns ++ node ∷ []) c.new-nodes.ensures))
