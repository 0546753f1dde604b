-- A texture that was placed.
use Rattle.std.proofs.Common.{◌∙◌, true, ap, subst, sym}
use Rattle.dri_base.specs.declared.state.State.{State}
use Rattle.dri_core.specs.Effects.{spot_for}
use Rattle.dri_model.specs.Groups.{with_bound}
use Rattle.dri_model.specs.Shares.{room_for}
use Rattle.dri_texheap.specs.Placements.{levels_of}
use Rattle.dri_client.specs.Kept.{IsKept, state_of}
use Rattle.dri_client.specs.Parts.{PartState}
use Rattle.dri_client.proofs.Placing.{place_agrees, room_is_for}
use Rattle.dri_client.proofs.part.ClientPart.place_texture.Goals as goal

pub put_texture-requires-clause-room : goal.put_texture-requires-clause-room
put_texture-requires-clause-room c = λ spot there.
    let k = c.args.self.now in
    ap (room_for k.placed.region_size (levels_of k.placed)) c.blocks-blocks.ensures ∙ room_is_for k.placed.region_size c.args.script.now k c.args.texture spot (sym c.room-room.ensures ∙ there)

pub returns-clause-part : goal.returns-clause-part
returns-clause-part c = λ s w d own sized agrees whole current legal left.
    let last = (λ i. record (state_of c.self.inside) { state = c.dirty_bound.ensures.state i; dirty = c.dirty_bound.ensures.dirty i }) ∙ ap (λ (p : PartState). record p { dirty = with_bound true p.dirty }) c.self.view_is in
    place_agrees s w d c.args.self.now c.put_texture.new.self _ c.args.script.now c.args.regions.now c.args.texture c.args.spot.now.run c.blocks-blocks.result own sized agrees last c.blocks-blocks.ensures whole current legal c.room-room.result c.args.spot.now (c.requires.spot ∙ ap (λ o. spot_for o c.args.spot.now.run) (sym c.room-room.ensures)) c.put_texture.ensures.placed c.room-room.ensures left

pub returns-clause-kept : goal.returns-clause-kept
returns-clause-kept c =
    let old = subst (IsKept c.args.script.now c.args.regions.now.count) (sym c.self.view_is) c.put_texture.ensures.kept in
    record {
      started = old.started;
      within = old.within;
      more = old.more;
      bound = λ t is. old.bound t (sym (ap (λ (x : State). x.bound) c.dirty_bound.ensures.state) ∙ is);
      inside = old.inside;
      blocks = old.blocks;
    }
