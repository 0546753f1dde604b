use Rattle.std.proofs.Common.{◌∙◌, ap, length, refl}
use Rattle.std.proofs.lemmas.Option.{slice_get_read}
use Rattle.dri_world.specs.Courses.{Course, core_of}
use Rattle.dri_world.proofs.Answering.{ClientAt, placed, within_scene}
use Rattle.dri_world.proofs.world.World.is_dying.Goals as goal

pub returns : goal.returns
returns c =
    let at_i = placed _ _ _ _ _ c.deref.ensures c.as_slice.ensures c.in-Some.ensures.number in
    let at : ClientAt _ _ c.self.inside.site c.self.inside.clients.items c.in-Some.place c.args.client c.index.result.now = record {
      held = c.self.invariant;
      number = at_i;
      client = slice_get_read c.self.inside.clients.items (length c.self.inside.clients.items) c.in-Some.place c.index.result.now refl (within_scene _ _ _ _ _ _ c.self.invariant at_i) c.index.ensures;
    } in
    c.is_dying.ensures ∙ (at.held.clients.each c.in-Some.place c.args.client c.index.result.now at.number at.client).dying ∙ ap (λ (w : Course). (core_of w).dying c.args.client) c.self.view_is
