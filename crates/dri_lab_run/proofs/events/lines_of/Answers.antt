-- The schedule's items may be taken; and all lines.
use Rattle.std.proofs.Common.{◌≡◌, ℕ, All, List, [], ap, rules, subst, sym, ◌∙◌}
use Rattle.std.specs.Arc.{arc_value}
use Rattle.dri_base.specs.declared.command.Item.{Item}
use Rattle.dri_base.specs.declared.scene.Scene.{Scene}
use Rattle.dri_world.specs.Courses.{Course, MayTake}
use Rattle.dri_lab_run.proofs.Items.{schedule_may}
use Rattle.dri_lab_run.proofs.Rounded.{all_put}
use Rattle.dri_lab_run.specs.EventLines.{GivesEvents}
use Rattle.dri_lab_run.proofs.events.lines_of.Goals as goal

pub take_items-requires : goal.take_items-requires
take_items-requires c =
    let lent : arc_value c.in_ok-scene.scene ≡ c.args.scene = search rules in
    let opens : c.in_ok-world.world ≡ record { scene = c.args.scene; events = [] } = search rules in
    let turns : c.as_slice.result.now ≡ c.args.scene.turns = c.as_slice.ensures ∙ ap (λ (z : Scene). z.turns) (c.deref-2.ensures ∙ lent) in
    subst (λ (w : Course). All (MayTake w.scene) c.as_slice.result.now) (sym opens) (subst (λ (items : List Item). All (MayTake c.args.scene) items) (sym turns) (schedule_may c.args.scene c.requires))

pub returns : goal.returns
returns c =
    let lent : arc_value c.in_ok-scene.scene ≡ c.args.scene = search rules in
    let opens : c.in_ok-world.world ≡ record { scene = c.args.scene; events = [] } = search rules in
    let turns : c.as_slice.result.now ≡ c.args.scene.turns = c.as_slice.ensures ∙ ap (λ (z : Scene). z.turns) (c.deref-2.ensures ∙ lent) in
    let all = all_put c.args.scene c.in_ok-world.world c.take_items.new.world c.as_slice.result.now c.new-text.result.items c.take_items.new.text.items c.take_rounds.new.text.items
    opens turns c.new-text.ensures.items c.in_ok-take_items.ensures.made c.in_ok-take_items.ensures.lines c.in_ok-take_rounds.ensures in
    subst (λ (lines : List ℕ). GivesEvents c.args.scene lines []) (sym c.from_vec.ensures) all
