use Rattle.std.proofs.Common.{◌∙◌, ap, subst, sym}
use Rattle.std.specs.Arc.{arc_value}
use Rattle.std.specs.Prelude.{All}
use Rattle.std.proofs.lemmas.List.Elements.{All-push}
use Rattle.dri_base.specs.declared.scene.Scene.{Scene}
use Rattle.dri_explore.specs.Nodes.{IsNode}
use Rattle.dri_explore.specs.Runs.{course_of}
use Rattle.dri_explore.proofs.Walking.{after_none, after_some, course_more}
use Rattle.dri_world.specs.Courses.{Course, MayTake}
use Rattle.dri_explore.proofs.node.Node.after.Goals as goal

pub take-requires : goal.take-requires
take-requires c = subst (λ (w : Course). MayTake w.scene c.args.item) (sym c.in_ok-world.ensures) c.requires.may

pub new-requires-clause-world : goal.new-requires-clause-world
new-requires-clause-world c = course_more (arc_value c.args.scene.now) c.in_ok-world.world c.take.new.self c.args.self.now.items c.args.item c.in_ok-world.ensures c.in_ok-take.ensures.made
    ∙ ap (course_of (arc_value c.args.scene.now)) (sym c.in_ok-items-in-Did.ensures) ∙ ap (λ (s : Scene). course_of s c.in_ok-items-in-Did.items) (sym c.deref.ensures)

pub new-requires-clause-may : goal.new-requires-clause-may
new-requires-clause-may c = subst (λ (s : Scene). All (MayTake s) c.in_ok-items-in-Did.items) (sym c.deref.ensures) (subst (All (MayTake (arc_value c.args.scene.now))) (sym c.in_ok-items-in-Did.ensures)
    (All-push (MayTake (arc_value c.args.scene.now)) c.args.self.now.items c.args.item c.requires.node.may c.requires.may))

pub returns-in-Did : goal.returns-in-Did
returns-in-Did c = after_some (arc_value c.args.scene.now) c.args.self.now c.in_ok-node-in-Did.node c.in_ok-world.world c.args.item c.in-Did.field-0 c.in_ok-world.ensures (sym c.in-Did.is ∙ c.in_ok-take.ensures.told)
    (subst (λ (s : Scene). IsNode s c.in_ok-node-in-Did.node) c.deref.ensures c.in_ok-node-in-Did.ensures.node) (c.in_ok-node-in-Did.ensures.items ∙ c.in_ok-items-in-Did.ensures)

pub returns : goal.returns
returns c = after_none (arc_value c.args.scene.now) c.args.self.now c.in_ok-world.world c.args.item c.in_ok-world.ensures (sym c.in-Passed.is ∙ c.in_ok-take.ensures.told)
