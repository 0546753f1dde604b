use Rattle.std.proofs.Common.{◌∙◌, length, refl}
use Rattle.std.proofs.lemmas.Option.{slice_get_read}
use Rattle.dri_world.proofs.Answering.{ClientAt, placed, within_scene}
use Rattle.dri_world.proofs.Overs.{over_told, through_either, through_neither}
use Rattle.dri_world.proofs.world.World.is_over.Goals as goal

pub returns-in-Ended : goal.returns-in-Ended
returns-in-Ended c =
    let at_i = placed _ _ _ _ _ c.deref.ensures c.as_slice.ensures c.in-Some.ensures.number in
    let at : ClientAt _ _ c.self.inside.site c.self.inside.clients.items c.in-Some.place c.args.client c.index.result.now = record {
      held = c.self.invariant;
      number = at_i;
      client = slice_get_read c.self.inside.clients.items (length c.self.inside.clients.items) c.in-Some.place c.index.result.now refl (within_scene _ _ _ _ _ _ c.self.invariant at_i) c.index.ensures;
    } in
    through_either c.phase.result c.in-Ended.is ∙ over_told _ _ _ _ _ _ c.index.result.now c.args.self.now c.phase.result at c.self.view_is c.phase.ensures

pub returns-in_default-matches : goal.returns-in_default-matches
returns-in_default-matches c =
    let at_i = placed _ _ _ _ _ c.deref.ensures c.as_slice.ensures c.in-Some.ensures.number in
    let at : ClientAt _ _ c.self.inside.site c.self.inside.clients.items c.in-Some.place c.args.client c.index.result.now = record {
      held = c.self.invariant;
      number = at_i;
      client = slice_get_read c.self.inside.clients.items (length c.self.inside.clients.items) c.in-Some.place c.index.result.now refl (within_scene _ _ _ _ _ _ c.self.invariant at_i) c.index.ensures;
    } in
    through_neither c.phase.result c.in_default-matches.not-Ended c.in_default-matches.not-Dead ∙ over_told _ _ _ _ _ _ c.index.result.now c.args.self.now c.phase.result at c.self.view_is c.phase.ensures
