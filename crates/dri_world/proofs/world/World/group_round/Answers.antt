use Rattle.std.proofs.Common.{[], ◌∷◌, map, subst, sym}
use Rattle.dri_base.specs.Ranges.{client_numbers}
use Rattle.dri_base.specs.declared.scene.Scene.{Scene}
use Rattle.dri_many.specs.Groupings.{AreGroupings}
use Rattle.dri_world.specs.GroupRuns.{Alone, PartiesOn, ungrouped}
use Rattle.dri_world.proofs.Parties.{alone_on, away_alone, away_server, round_on, seats_through}
use Rattle.dri_world.proofs.world.World.group_round.Goals as goal

pub returns-clause-played : goal.returns-clause-played
returns-clause-played c =
    let before = c.lone_turns.new.self in
    let after = c.server_turn.new.self in
    let server = subst (PartiesOn before after (Alone 0 ∷ [])) (sym c.is_move.ensures) (alone_on before after 0 c.in_ok-turned.turned c.in_ok-alone.ensures.played.sound c.in_ok-turned.ensures.told c.in_ok-turned.ensures.made) in
    round_on c.args.self.now c.group_turns.new.self before after c.args.groups.now c.in_ok-grouped.grouped c.in_ok-alone.alone c.is_move.result c.in_ok-grouped.ensures.played c.in_ok-alone.ensures.played server

pub returns-clause-seated : goal.returns-clause-seated
returns-clause-seated c =
    let groups = c.args.groups.now in
    let first = c.group_turns.new.self in
    let before = c.lone_turns.new.self in
    let after = c.server_turn.new.self in
    let seats = c.group_turns.new.seats.items in
    let server = subst (PartiesOn before after (Alone 0 ∷ [])) (sym c.is_move.ensures) (alone_on before after 0 c.in_ok-turned.turned c.in_ok-alone.ensures.played.sound c.in_ok-turned.ensures.told c.in_ok-turned.ensures.made) in
    let are : AreGroupings first.scene groups = subst (λ (t : Scene). AreGroupings t groups) (sym c.in_ok-grouped.ensures.played.goes_on.scene) c.requires.accepted in
    let still : AreGroupings before.scene groups = subst (λ (t : Scene). AreGroupings t groups) (sym c.in_ok-alone.ensures.played.goes_on.scene) are in
    seats_through before after groups (Alone 0 ∷ []) c.is_move.result seats c.in_ok-alone.ensures.played.sound.good still (λ i g at_i. away_server before.scene groups i g c.in_ok-alone.ensures.played.sound.good still at_i) server
    (seats_through first before groups (map Alone (ungrouped groups (client_numbers first.scene.clients))) c.in_ok-alone.alone seats c.in_ok-grouped.ensures.played.sound.good are (λ i g at_i. away_alone first.scene groups i g at_i) c.in_ok-alone.ensures.played c.in_ok-grouped.ensures.seated)
