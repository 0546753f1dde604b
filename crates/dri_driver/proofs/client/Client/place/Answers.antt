use Rattle.std.proofs.Common.{◌≡◌, ◌∙◌, ap, subst, sym}
use Rattle.dri_base.specs.Scenes.{command_at, script_of}
use Rattle.dri_base.specs.declared.journal.Entry.TheVariants.{Place}
use Rattle.dri_base.specs.declared.scene.ClientScript.{ClientScript}
use Rattle.dri_base.specs.declared.scene.Scene.{Scene}
use Rattle.dri_core.specs.Privates.{textured_with}
use Rattle.dri_core.specs.Effects.{spot_for}
use Rattle.dri_client.proofs.Placing.{room_is_same}
use Rattle.dri_texheap.specs.RegionStates.{IsInside}
use Rattle.dri_core.specs.Privates.{Private, is_triangle, room_in}
use Rattle.dri_shared.specs.Sides.{world_at}
use Rattle.dri_client.specs.Kept.{IsKept, IsScript}
use Rattle.dri_texheap.specs.Placements.{placed_of}
use Rattle.dri_client.proofs.Owned.{missing_parts}
use Rattle.dri_driver.specs.Clients.{ClientState, kept_of}
use Rattle.dri_driver.specs.Kept.{IsClient, state_of}
use Rattle.dri_driver.proofs.Fitting.{agreed_in, same_but}
use Rattle.dri_driver.proofs.Owned.{own_script, script_read}
use Rattle.dri_driver.proofs.Preparing.{current_there, legal, place_step, regions_there, whole_there}
use Rattle.dri_driver.proofs.client.Client.place.Goals as goal

pub place-spot-requires-clause-wanted : goal.place-spot-requires-clause-wanted
place-spot-requires-clause-wanted c =
    let k = c.args.self.now in
    let a = c.args.side.now in
    let t = c.args.texture in
    let part = c.requires.fits.part ∙ ap (world_at a).client (sym c.requires.client) in
    let parts = missing_parts (placed_of k.placed) (textured_with k.state) t c.requires.missing in
    record {
      at = (ap (λ (p : Private). p.phase) (sym part) ∙ c.requires.acting, (λ i. is_triangle (command_at (sym c.requires.fits.scene i) (c.requires.client i) (sym part i).place)) ∙ c.requires.triangle);
      textured = ap (λ (p : Private). textured_with p.state) (sym part) ∙ parts.0;
      unplaced = ap (λ (p : Private). p.placed t) (sym part) ∙ parts.1;
    }

pub place-spot-requires-clause-shared : goal.place-spot-requires-clause-shared
place-spot-requires-clause-shared c =
    let a = c.args.side.now in
    let m = state_of c.self.inside in
    let own : c.get-script.result.now ≡ script_of c.args.self.now.scene c.args.self.now.number =
    script_read m.scene _ m.number c.self.inside.index c.get-script.result.now c.deref.ensures c.get-script.ensures c.self.invariant.there ∙ (λ i. script_of (c.self.view_is i).scene (c.self.view_is i).number) in
    let sized : c.args.self.now.scene.region_size ≡ c.self.inside.part.placed.region_size = ap (λ (x : ClientState). x.scene.region_size) (sym c.self.view_is) ∙ sym c.self.invariant.sized in
    let room = c.room-room.ensures ∙ room_is_same c.args.self.now.scene (world_at a) c.args.self.now.number (kept_of (state_of c.self.inside)) c.get-script.result.now c.args.texture own sized
    (agreed_in c.args.self.now (state_of c.self.inside) ((world_at a).client c.args.self.now.number) c.self.view_is c.requires.fits.part) in
    room ∙ (λ i. room_in (c.requires.fits.scene i) (sym c.requires.client i) ((world_at a).client (sym c.requires.client i)) c.args.texture)

pub place_texture-requires-clause-script : goal.place_texture-requires-clause-script
place_texture-requires-clause-script c =
    let m = state_of c.self.inside in
    let own = script_read m.scene _ m.number c.self.inside.index c.get-script.result.now c.deref.ensures c.get-script.ensures c.self.invariant.there in
    subst IsScript (sym own) (own_script m c.self.inside.index c.self.invariant)

pub place_texture-requires-clause-kept : goal.place_texture-requires-clause-kept
place_texture-requires-clause-kept c =
    let m = state_of c.self.inside in
    let is = c.self.invariant in
    let own = script_read m.scene _ m.number c.self.inside.index c.get-script.result.now c.deref.ensures c.get-script.ensures is.there in
    let count_there = c.regions.ensures.count ∙ ap (λ (x : Scene). x.regions) c.place-spot.ensures.made.added.scene in
    let count = count_there ∙ ap (λ (x : Scene). x.regions) (sym c.requires.fits.scene ∙ ap (λ (x : ClientState). x.scene) (sym c.self.view_is)) in
    subst (λ n. IsKept c.get-script.result.now n c.self.inside.part) (sym count) (subst (λ (t : ClientScript). IsKept t m.scene.regions c.self.inside.part) (sym own) is.kept)

pub place_texture-requires-clause-used : goal.place_texture-requires-clause-used
place_texture-requires-clause-used c = ap (λ (x : ClientState). textured_with x.state) c.self.view_is ∙ (missing_parts (placed_of c.args.self.now.placed) (textured_with c.args.self.now.state) c.args.texture c.requires.missing).0

pub place_texture-requires-clause-spot : goal.place_texture-requires-clause-spot
place_texture-requires-clause-spot c = c.place-spot.ensures.spot ∙ ap (λ o. spot_for o c.place-spot.result.run) c.room-room.ensures

pub place_texture-requires-clause-run : goal.place_texture-requires-clause-run
place_texture-requires-clause-run c =
    let count = c.regions.ensures.count ∙ ap (λ (x : Scene). x.regions) c.place-spot.ensures.made.added.scene in
    subst (λ n. IsInside n c.place-spot.result.run) (sym count) c.place-spot.ensures.inside

pub place_texture-requires-clause-some : goal.place_texture-requires-clause-some
place_texture-requires-clause-some c = c.place-spot.ensures.some

pub invariant_of-self : goal.invariant_of-self
invariant_of-self c =
    let m = state_of c.self.inside in
    let is = c.self.invariant in
    let own = script_read m.scene _ m.number c.self.inside.index c.get-script.result.now c.deref.ensures c.get-script.ensures is.there in
    let count = c.regions.ensures.count ∙ ap (λ (x : Scene). x.regions) (c.place-spot.ensures.made.added.scene ∙ (sym c.requires.fits.scene ∙ ap (λ (x : ClientState). x.scene) (sym c.self.view_is))) in
    record {
      good = is.good;
      there = is.there;
      kept = subst (λ n. IsKept (script_of m.scene m.number) n c.place_texture.new.self) count (subst (λ (t : ClientScript). IsKept t c.regions.result.now.count c.place_texture.new.self) own c.place_texture.ensures.kept);
      sized = c.place_texture.ensures.size ∙ is.sized;
      copy = is.copy;
    }

pub returns : goal.returns
returns c =
    let k = c.args.self.now in
    let m = state_of c.self.inside in
    let own : c.get-script.result.now ≡ script_of c.args.self.now.scene c.args.self.now.number =
    script_read m.scene _ m.number c.self.inside.index c.get-script.result.now c.deref.ensures c.get-script.ensures c.self.invariant.there ∙ (λ i. script_of (c.self.view_is i).scene (c.self.view_is i).number) in
    let sized : c.args.self.now.scene.region_size ≡ c.self.inside.part.placed.region_size = ap (λ (x : ClientState). x.scene.region_size) (sym c.self.view_is) ∙ sym c.self.invariant.sized in
    let a = c.args.side.now in
    let b = c.place-spot.new.self in
    let w = world_at a in
    let n = k.number in
    let t = c.args.texture in
    let run = c.place-spot.result.run in
    let good = (subst (λ (x : ClientState). IsClient x c.self.inside.index) c.self.view_is c.self.invariant).good in
    let same = same_but k m c.place_texture.new.self c.self.view_is in
    let entry = c.place_entry.ensures ∙ ap (λ (x : ClientState). Place x.number t run.first run.count) c.self.view_is in
    let r = c.regions.result.now in
    let fits = c.requires.fits in
    let acts = c.requires.acting in
    let tri = c.requires.triangle in
    let here = c.requires.client in
    let holds = c.regions.ensures.run in
    let missing = c.requires.missing in
    let may = c.place-spot.ensures.legal in
    let makes = c.place-spot.ensures.made in
    let agrees = c.place_texture.ensures.part k.scene w n own sized (agreed_in k m (w.client n) c.self.view_is fits.part) (whole_there k a b fits acts tri t run r here good holds missing may makes) (current_there k a b fits acts tri t run r here good holds missing may makes)
    (legal k a b fits acts tri t run r here good holds missing may makes) (regions_there k a b fits acts tri t run r here good holds missing may makes c.regions.ensures.heap c.regions.ensures.count) in
    place_step k a b fits acts tri t run r here good holds missing may makes _ _ same agrees entry
