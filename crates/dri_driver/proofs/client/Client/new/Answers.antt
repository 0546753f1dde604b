use Rattle.std.proofs.Common.{◌≡◌, ◌∙◌, List, Some, ap, pos, subst, sym}
use Rattle.std.specs.Arc.{arc_value}
use Rattle.std.specs.Prelude.{slice_get}
use Rattle.dri_base.specs.declared.scene.ClientScript.{ClientScript}
use Rattle.dri_base.specs.declared.scene.Scene.{Scene}
use Rattle.dri_base.specs.declared.shape.Rect.{Rect}
use Rattle.dri_base.specs.Scenes.{script_in, script_of}
use Rattle.dri_client.specs.Kept.{IsKept}
use Rattle.dri_client.specs.Parts.{private_of}
use Rattle.dri_core.specs.Privates.{opening_part}
use Rattle.dri_shared.specs.Copies.{IsCopyOf}
use Rattle.dri_driver.specs.Clients.{copy_of}
use Rattle.dri_driver.proofs.Copied.{copied_none}
use Rattle.dri_driver.proofs.Owned.{script_read}
use Rattle.dri_driver.proofs.client.Client.new.Goals as goal

pub invariant_of-result : goal.invariant_of-result
invariant_of-result c =
    let s = arc_value c.args.scene in
    let i = c.in-Some.index in
    let there : slice_get s.clients i ≡ Some (script_of s c.args.client) =
    subst (λ (ps : List ClientScript). slice_get ps i ≡ Some (script_in ps c.args.client)) (c.as_slice.ensures ∙ ap (λ (x : Scene). x.clients) c.deref.ensures) c.in-Some.ensures.script in
    let script = script_read s _ c.args.client i c.get.result.now c.deref-2.ensures c.get.ensures there in
    record {
      good = c.requires.in_range;
      there = there;
      kept = subst (λ (t : ClientScript). IsKept t s.regions c.in_ok-part.part) script (c.in_ok-part.ensures.kept s.regions);
      sized = c.in_ok-part.ensures.size ∙ ap (λ (x : Scene). x.region_size) c.deref-3.ensures;
      copy = subst (λ (rs : List Rect). IsCopyOf rs (copy_of rs)) (sym c.no_clips.ensures) copied_none;
    }

pub returns-clause-part : goal.returns-clause-part
returns-clause-part c =
    let s = arc_value c.args.scene in
    let i = c.in-Some.index in
    let there : slice_get s.clients i ≡ Some (script_of s c.args.client) =
    subst (λ (ps : List ClientScript). slice_get ps i ≡ Some (script_in ps c.args.client)) (c.as_slice.ensures ∙ ap (λ (x : Scene). x.clients) c.deref.ensures) c.in-Some.ensures.script in
    let script = script_read s _ c.args.client i c.get.result.now c.deref-2.ensures c.get.ensures there in
    ap (λ (rs : List Rect). private_of c.in_ok-part.part (copy_of rs) (pos 0, pos 0)) c.no_clips.ensures ∙ (c.in_ok-part.ensures.part ∙ ap (λ (t : ClientScript). opening_part t.commands) script)
