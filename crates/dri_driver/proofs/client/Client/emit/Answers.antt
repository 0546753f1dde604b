use Rattle.std.proofs.Common.{◌≡◌, ◌∙◌, ap, subst, sym}
use Rattle.dri_base.specs.Texels.{texture_bound}
use Rattle.dri_base.specs.declared.journal.Entry.TheVariants.{Emit}
use Rattle.dri_core.specs.Privates.{bound_at, bound_texture, spot_of}
use Rattle.dri_client.specs.Kept.{IsScript}
use Rattle.dri_client.specs.Parts.{Agrees, PartState, part_after}
use Rattle.dri_model.specs.Groups.{bits, no_groups}
use Rattle.dri_shared.specs.Sides.{Makes, world_at}
use Rattle.dri_texheap.specs.Placements.{placed_of}
use Rattle.dri_driver.specs.Clients.{ClientState, kept_of, part_of}
use Rattle.dri_driver.specs.Kept.{IsClient, state_of}
use Rattle.dri_driver.proofs.Fitting.{agreed_in, same_but}
use Rattle.dri_driver.proofs.Owned.{own_script}
use Rattle.dri_driver.proofs.Preparing.{emit_step, words_are}
use Rattle.dri_driver.proofs.client.Client.emit.Goals as goal

pub bound_texture-bound-requires-clause-script : goal.bound_texture-bound-requires-clause-script
bound_texture-bound-requires-clause-script c =
    let k = c.args.self.now in
    subst IsScript (sym c.script.ensures) (own_script k c.self.inside.index (subst (λ (x : ClientState). IsClient x c.self.inside.index) c.self.view_is c.self.invariant))

pub emit-requires-clause-words : goal.emit-requires-clause-words
emit-requires-clause-words c =
    let k = c.args.self.now in
    let scene = c.deref.ensures ∙ ap (λ (x : ClientState). x.scene) c.self.view_is in
    let bound : c.bound_texture-bound.result ≡ bound_texture k.scene k.number (part_of k) = c.bound_texture-bound.ensures.bound ∙ (λ i. bound_at (scene i).region_size (texture_bound (c.script.ensures i).textures (c.self.view_is i).state.bound) (spot_of (placed_of (c.self.view_is i).placed) (c.self.view_is i).state.bound)) in
    let state = ap (λ (p : PartState). p.state) c.emit-groups.ensures.state ∙ ap (λ (x : ClientState). x.state) c.self.view_is in
    words_are k c.args.side.now _ c.emit-groups.result c.emit-groups.new.self.state c.bound_texture-bound.result c.requires.client c.requires.fits (c.words.ensures ∙ c.words-words.ensures) state bound

pub returns : goal.returns
returns c =
    let k = c.args.self.now in
    let m = state_of c.self.inside in
    let a = c.args.side.now in
    let b = c.emit.new.self in
    let n = k.number in
    let taken = c.emit-groups.ensures.groups ∙ ap (λ (x : ClientState). x.dirty) c.self.view_is in
    let dirty : m.dirty ≡ k.dirty = ap (λ (x : ClientState). x.dirty) c.self.view_is in
    let is : c.emit-groups.new.self ≡ record (kept_of k) { dirty = no_groups } = c.emit-groups.ensures.state ∙ ap (λ (x : ClientState). record (kept_of x) { dirty = no_groups }) c.self.view_is in
    let agrees = subst (λ g. Agrees c.emit-groups.new.self (part_after k.scene (world_at a) (Emit n (bits g)) n)) dirty (c.emit-groups.ensures.part k.scene (world_at a) n (agreed_in k m ((world_at a).client n) c.self.view_is c.requires.fits.part)) in
    let entry : Emit c.self.inside.number c.bits.result ≡ Emit n (bits k.dirty) = (λ i. Emit (c.self.view_is i).number ((c.bits.ensures ∙ ap bits taken) i)) in
    let makes : Makes a b (Emit n (bits k.dirty)) = subst (λ e. Makes a b e) (λ i. Emit (c.requires.client i) (bits (taken i))) c.emit.ensures in
    emit_step k a b c.requires.fits c.requires.acting c.requires.triangle _ _ c.requires.ready c.requires.dirty (same_but k m c.emit-groups.new.self c.self.view_is) is agrees entry makes
