use Rattle.std.proofs.Common.{[], ◌∷◌, ap, false, inr, subst, sym, true}
use Rattle.dri_world.specs.Courses.{is_move}
use Rattle.dri_world.specs.GroupRuns.{Alone, PartiesOn}
use Rattle.dri_world.proofs.Parties.{alone_on, did_seated, group_on}
use Rattle.dri_world.proofs.Playing.{good_by}
use Rattle.dri_world.proofs.Seating.{current_client}
use Rattle.dri_world.proofs.world.World.group_turn.Goals as goal

pub turn-requires : goal.turn-requires
turn-requires c = inr (current_client c.args.self.now.scene c.args.grouping.now c.args.self.now.events c.in-Some.member c.requires.grouping (sym c.in-Some.ensures.member))

pub returns-in-Did-clause-played : goal.returns-in-Did-clause-played
returns-in-Did-clause-played c =
    let old = c.args.self.now in
    let new = c.turn.new.self in
    let moved = ap is_move c.in-Did.is in
    group_on old new c.args.grouping.now c.in-Some.member true (sym c.in-Some.ensures.member)
    (subst (PartiesOn old new (Alone c.in-Some.member ∷ [])) moved (alone_on old new c.in-Some.member c.in_ok-event.field-0 c.requires.sound c.in_ok-event.ensures.told c.in_ok-event.ensures.made))

pub returns-in-Did-clause-seated : goal.returns-in-Did-clause-seated
returns-in-Did-clause-seated c =
    did_seated c.args.self.now c.turn.new.self c.args.grouping.now c.in-Some.member c.in_ok-event.field-0 c.in-Did.event c.current.new.seat c.go_on.new.self (good_by c.args.self.now.scene c.args.grouping.now c.requires.grouping) (sym c.in-Some.ensures.member)
    c.in-Some.ensures.settled c.in_ok-event.ensures.told c.in-Did.is c.in_ok-event.ensures.made c.go_on.ensures

pub returns-in-Passed-clause-played : goal.returns-in-Passed-clause-played
returns-in-Passed-clause-played c =
    let old = c.args.self.now in
    let new = c.turn.new.self in
    let moved = ap is_move c.in-Passed.is in
    group_on old new c.args.grouping.now c.in-Some.member false (sym c.in-Some.ensures.member)
    (subst (PartiesOn old new (Alone c.in-Some.member ∷ [])) moved (alone_on old new c.in-Some.member c.in_ok-event.field-0 c.requires.sound c.in_ok-event.ensures.told c.in_ok-event.ensures.made))
