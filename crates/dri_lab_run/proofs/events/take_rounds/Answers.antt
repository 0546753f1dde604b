-- One round more; or it makes no event, and its lines are left out.
use Rattle.std.proofs.Common.{ℕ, All, List, ◌++◌, length, ap, subst, sym, ◌∙◌}
use Rattle.dri_base.specs.declared.command.Item.{Item}
use Rattle.dri_base.specs.declared.scene.Scene.{Scene}
use Rattle.dri_scene.specs.Texts.{Adds}
use Rattle.dri_world.specs.Courses.{MayTake, core_of}
use Rattle.dri_lab_run.proofs.Items.{round_may}
use Rattle.dri_lab_run.proofs.Rounded.{rounded_all, rounded_more, rounded_none}
use Rattle.dri_lab_run.specs.EventLines.{item_lines}
use Rattle.dri_lab_run.proofs.events.take_rounds.Goals as goal

pub loop-taken-init : goal.loop-taken-init
loop-taken-init c = rounded_none c.args.world.now c.args.text.now.items

pub take_items-requires : goal.take_items-requires
take_items-requires c =
    let s = c.args.world.now.scene in
    subst (λ (z : Scene). All (MayTake z) c.args.turns.now) (sym c.loop-taken.invariant.made.scene) (subst (λ (items : List Item). All (MayTake s) items) (sym c.requires) (round_may s))

pub loop-taken-preserved : goal.loop-taken-preserved
loop-taken-preserved c =
    let now = c.loop-taken.world in
    let text = c.loop-taken.text.items in
    let put = subst (λ (t : List ℕ). Adds t (item_lines now.scene (core_of now) c.args.turns.now) c.take_items.new.text.items) c.new-lines.ensures.items c.in_ok-take_items.ensures.lines in
    rounded_more c.args.world.now now c.take_items.new.world c.args.text.now.items text c.take_items.new.text.items c.extend_from_slice.new.self.items c.loop-taken._taken c.args.turns.now
    c.requires c.loop-taken.invariant c.in_ok-take_items.ensures.made put
    (λ still. c.if-events-made.false (ap length c.events.ensures.same ∙ still ∙ sym (ap length c.events-made.ensures.same)))
    (c.in_ok-extend_from_slice.ensures.items ∙ ap (λ l. text ++ l) c.as_slice.ensures.value)

pub returns-then-events-made : goal.returns-then-events-made
returns-then-events-made c =
    rounded_all c.args.world.now c.loop-taken.world c.take_items.new.world c.args.text.now.items c.loop-taken.text.items c.loop-taken._taken c.args.turns.now
    c.requires c.loop-taken.invariant c.in_ok-take_items.ensures.made
    (sym (ap length c.events.ensures.same) ∙ c.if-events-made.true ∙ ap length c.events-made.ensures.same)
