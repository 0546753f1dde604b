use Rattle.std.proofs.Common.{◌≡◌, ◌∙◌, Some, ap, inr, subst, sym}
use Rattle.std.specs.Prelude.{slice_get}
use Rattle.dri_base.specs.Ranges.{client_numbers}
use Rattle.dri_base.specs.declared.scene.Scene.{Scene}
use Rattle.dri_core.proofs.Lists.{number_at}
use Rattle.dri_world.specs.Courses.{Course}
use Rattle.dri_world.proofs.Parties.{lone_passed, lone_step}
use Rattle.dri_world.proofs.Places.{stands}
use Rattle.dri_world.proofs.world.World.lone_turns.Goals.{then-not-in_groups+in_ok-turned, else-not-in_groups}
use Rattle.dri_world.proofs.world.World.lone_turns.Goals as goal

pub turn-requires : goal.turn-requires
turn-requires c =
    let n = c.get.result.now.number in
    let same = c.deref-in-loop-i.ensures ∙ ap (λ (w : Course). w.scene) c.self-in-loop-i.view_is in
    let at : slice_get (client_numbers c.loop-i.self.scene.clients) c.loop-i.i ≡ Some n =
    subst (λ (t : Scene). slice_get (client_numbers t.clients) c.loop-i.i ≡ Some n) same (number_at c.deref-in-loop-i.result.now.clients c.loop-i.i c.get.result.now c.get.ensures) in
    inr (stands (client_numbers c.loop-i.self.scene.clients) c.loop-i.i n at)

pub loop-i-preserved : goal.loop-i-preserved
loop-i-preserved c =
    let old = c.args.self.now in
    let n = c.get.result.now.number in
    let same = c.deref-in-loop-i.ensures ∙ ap (λ (w : Course). w.scene) c.self-in-loop-i.view_is ∙ c.loop-i.invariant.played.goes_on.scene in
    let at : slice_get (client_numbers old.scene.clients) c.loop-i.i ≡ Some n = subst (λ (t : Scene). slice_get (client_numbers t.clients) c.loop-i.i ≡ Some n) same (number_at c.deref-in-loop-i.result.now.clients c.loop-i.i c.get.result.now c.get.ensures) in
    record {
      last = c.loop-i.invariant.last;
      played = elim c.if-not-in_groups.branch [
        | then-not-in_groups+in_ok-turned w ↦ lone_step old c.loop-i.self w.turn.new.self c.if-not-in_groups.self c.args.groups.now c.loop-i.i n c.loop-i.moves w.is_move-moves.result c.if-not-in_groups.moves w.in_ok-turned.turned at (sym c.in_groups.ensures ∙ w.if-not-in_groups.true) c.loop-i.invariant.played
            w.in_ok-turned.ensures.told w.in_ok-turned.ensures.made w.is_move-moves.ensures w.self-is w.moves-is
        | else-not-in_groups w ↦ lone_passed old c.loop-i.self c.if-not-in_groups.self c.args.groups.now c.loop-i.i n c.loop-i.moves c.if-not-in_groups.moves at (sym c.in_groups.ensures ∙ w.if-not-in_groups.false) c.loop-i.invariant.played w.self-is w.moves-is
      ];
    }
