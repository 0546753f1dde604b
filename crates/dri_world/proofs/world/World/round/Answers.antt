use Rattle.std.proofs.Common.{◌≡◌, ◌∙◌, Some, length, take, ap, inr, sym, subst, rules, arith}
use Rattle.std.specs.Prelude.{◌||◌, slice_get}
use Rattle.dri_core.proofs.Lists.{number_at}
use Rattle.dri_base.specs.Ranges.{client_numbers}
use Rattle.dri_base.specs.declared.scene.Scene.{Scene}
use Rattle.dri_core.specs.Turns.{played, round}
use Rattle.dri_world.specs.Courses.{Course, GoesOn, IsPlayedIn, core_of}
use Rattle.dri_world.proofs.Places.{stands}
use Rattle.dri_world.proofs.Rounding.{less_less, moves_done, moves_step, round_client, round_done, turn_on, turned_less}
use Rattle.dri_world.proofs.world.World.round.Goals as goal

pub returns-in_err-turned-clause-err : goal.returns-in_err-turned-clause-err
returns-in_err-turned-clause-err c =
    let old = c.args.self.now in
    let played_in : IsPlayedIn old c.turn.new.self = record {
      turns = c.loop-i.i;
      goes_on = subst (λ (w : Course). GoesOn old w (played old.scene (core_of old) (take c.loop-i.i (round old.scene)))) (sym c.in_err-turned.ensures.err) c.loop-i.invariant.made;
    } in
    search rules

pub loop-i-preserved : goal.loop-i-preserved
loop-i-preserved c =
    let old = c.args.self.now in
    let now = c.loop-i.self in
    let n = c.get.result.now.number in
    let same = c.deref-in-loop-i.ensures ∙ ap (λ (w : Course). w.scene) c.self-in-loop-i.view_is ∙ c.loop-i.invariant.made.scene in
    let at : slice_get (client_numbers old.scene.clients) c.loop-i.i ≡ Some n = subst (λ (t : Scene). slice_get (client_numbers t.clients) c.loop-i.i ≡ Some n) same (number_at c.deref-in-loop-i.result.now.clients c.loop-i.i c.get.result.now c.get.ensures) in
    let item = round_client old.scene c.loop-i.i n at in
    record {
      last = c.loop-i.invariant.last;
      made = turn_on old now c.turn.new.self (round old.scene) c.loop-i.i n item c.loop-i.invariant.made c.in_ok-turned.ensures.made;
      moves = moves_step old now (round old.scene) c.loop-i.i n c.loop-i.moves _ _ item c.loop-i.invariant.made c.loop-i.invariant.moves c.in_ok-turned.ensures.told (ap (λ b. c.loop-i.moves || b) c.is_move-moves.ensures);
      less = rw c.is_move-moves.ensures (less_less old now c.turn.new.self c.loop-i.moves _ c.loop-i.invariant.less (turned_less _ _ _ _ now c.turn.new.self n _ c.self-in-loop-i.invariant c.self-in-loop-i.view_is c.in_ok-turned.ensures.told c.in_ok-turned.ensures.made));
    }

pub returns-clause-made : goal.returns-clause-made
returns-clause-made c =
    let done : c.loop-i.i ≡ length c.args.self.now.scene.clients = omega (arith, c.loop-i.invariant.last, c.loop-i-test.false) in
    round_done c.args.self.now c.loop-i.self c.server_turn.new.self c.loop-i.i done c.loop-i.invariant.made c.in_ok-turned-2.ensures.made

pub returns-clause-moves : goal.returns-clause-moves
returns-clause-moves c =
    let done : c.loop-i.i ≡ length c.args.self.now.scene.clients = omega (arith, c.loop-i.invariant.last, c.loop-i-test.false) in
    moves_done c.args.self.now c.loop-i.self c.loop-i.i c.loop-i.moves _ _ done c.loop-i.invariant.made c.loop-i.invariant.moves c.in_ok-turned-2.ensures.told (ap (λ b. c.loop-i.moves || b) c.is_move.ensures)

pub turn-requires : goal.turn-requires
turn-requires c =
    let n = c.get.result.now.number in
    let same = c.deref-in-loop-i.ensures ∙ ap (λ (w : Course). w.scene) c.self-in-loop-i.view_is in
    let at : slice_get (client_numbers c.loop-i.self.scene.clients) c.loop-i.i ≡ Some n =
    subst (λ (t : Scene). slice_get (client_numbers t.clients) c.loop-i.i ≡ Some n) same (number_at c.deref-in-loop-i.result.now.clients c.loop-i.i c.get.result.now c.get.ensures) in
    inr (stands (client_numbers c.loop-i.self.scene.clients) c.loop-i.i n at)
