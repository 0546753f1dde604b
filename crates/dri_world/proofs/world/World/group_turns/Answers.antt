use Rattle.std.specs.Prelude.{◌||◌}
use Rattle.std.proofs.Common.{List, [], ◌∷◌, ◌<◌, length, map, refl, subst, sym, take, arith}
use Rattle.std.proofs.lemmas.Option.{slice_get_read}
use Rattle.dri_base.specs.declared.scene.Scene.{Scene}
use Rattle.dri_many.specs.Groupings.{AreGroupings}
use Rattle.dri_world.specs.GroupRuns.{Group, PartiesOn, Party}
use Rattle.dri_world.proofs.Parties.{group_more, parties_join, seats_one}
use Rattle.dri_world.proofs.Seating.{small_at}
use Rattle.dri_world.proofs.world.World.group_turns.Goals as goal

pub group_turn-requires-clause-small : goal.group_turn-requires-clause-small
group_turn-requires-clause-small c = small_at c.args.self.now.scene c.args.groups.now c.loop-i.i c.get.result.now c.requires.accepted c.get.ensures

pub group_turn-requires-clause-seated : goal.group_turn-requires-clause-seated
group_turn-requires-clause-seated c =
    let seats = c.loop-i.seats.items in
    let within : c.loop-i.i < length seats = omega (arith, c.loop-i.invariant.seated.number, c.loop-i.invariant.last, c.loop-i-test.true) in
    c.loop-i.invariant.seated.each c.loop-i.i c.get.result.now c.index.result.now c.get.ensures (slice_get_read seats (length seats) c.loop-i.i c.index.result.now refl within c.index.ensures)

pub loop-i-preserved : goal.loop-i-preserved
loop-i-preserved c =
    let old = c.args.self.now in
    let now = c.loop-i.self in
    let new = c.group_turn.new.self in
    let groups = c.args.groups.now in
    let g = c.get.result.now in
    let are : AreGroupings now.scene groups = subst (λ (t : Scene). AreGroupings t groups) (sym c.loop-i.invariant.played.goes_on.scene) c.requires.accepted in
    record {
      last = c.loop-i.invariant.last;
      played = subst (λ (ps : List Party). PartiesOn old new ps (c.loop-i.moves || c.in_ok-moves.field-0)) (sym (group_more groups c.loop-i.i g c.get.ensures))
          (parties_join old now new (map Group (take c.loop-i.i groups)) (Group g ∷ []) c.loop-i.moves c.in_ok-moves.field-0 c.loop-i.invariant.played c.in_ok-moves.ensures.played);
      seated = seats_one now new groups c.loop-i.i g c.in_ok-moves.field-0 c.loop-i.seats.items c.group_turn.new.seat c.loop-i.invariant.played.sound.good are c.get.ensures c.in_ok-moves.ensures.played c.loop-i.invariant.seated c.in_ok-moves.ensures.seated;
    }
