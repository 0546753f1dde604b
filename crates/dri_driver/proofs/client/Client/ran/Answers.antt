use Rattle.std.proofs.Common.{◌≡◌, ◌∙◌, ap, subst, sym}
use Rattle.dri_base.specs.Scenes.{script_of}
use Rattle.dri_base.specs.declared.journal.Entry.TheVariants.{Run}
use Rattle.dri_base.specs.declared.scene.ClientScript.{ClientScript}
use Rattle.dri_core.specs.EntryTable.{after_entry}
use Rattle.dri_client.specs.Kept.{IsKept, IsScript}
use Rattle.dri_client.specs.Parts.{Agrees, part_after}
use Rattle.dri_texheap.specs.RegionStates.{heap_of}
use Rattle.dri_driver.specs.Clients.{ClientState}
use Rattle.dri_driver.specs.Kept.{state_of}
use Rattle.dri_driver.proofs.Fitting.{agreed_in, run_copies, same_but, stepped, with_part}
use Rattle.dri_driver.proofs.Owned.{own_script, script_read}
use Rattle.dri_driver.proofs.client.Client.ran.Goals as goal

pub run-requires-clause-script : goal.run-requires-clause-script
run-requires-clause-script c =
    let m = state_of c.self.inside in
    subst IsScript (sym (script_read m.scene _ m.number c.self.inside.index c.get-script.result.now c.deref.ensures c.get-script.ensures c.self.invariant.there)) (own_script m c.self.inside.index c.self.invariant)

pub invariant_of-self : goal.invariant_of-self
invariant_of-self c =
    let is = c.self.invariant in
    let m = state_of c.self.inside in
    let own = script_read m.scene _ m.number c.self.inside.index c.get-script.result.now c.deref.ensures c.get-script.ensures is.there in
    record {
      good = is.good;
      there = is.there;
      kept = subst (λ (t : ClientScript). IsKept t m.scene.regions c.run.new.self) own (c.run.ensures.kept m.scene.regions (subst (λ (t : ClientScript). IsKept t m.scene.regions c.self.inside.part) (sym own) is.kept));
      sized = c.run.ensures.size ∙ is.sized;
      copy = is.copy;
    }

pub returns-clause-part : goal.returns-clause-part
returns-clause-part c = λ w part heap.
    let k = c.args.self.now in
    let m = state_of c.self.inside in
    let n = k.number in
    let h = heap_of c.args.regions.now in
    let own : c.get-script.result.now ≡ script_of k.scene n =
    script_read m.scene _ m.number c.self.inside.index c.get-script.result.now c.deref.ensures c.get-script.ensures c.self.invariant.there ∙ (λ i. script_of (c.self.view_is i).scene (c.self.view_is i).number) in
    let place : c.self.inside.part.place ≡ k.place = ap (λ (x : ClientState). x.place) c.self.view_is in
    let same = same_but k m c.run.new.self c.self.view_is in
    stepped k (with_part m c.run.new.self) w (Run n k.place) part same.clips same.origin (run_copies k.scene w n k.place)
    (subst (λ i. Agrees c.run.new.self (part_after k.scene w (Run n i) n)) place
    (c.run.ensures.part k.scene w n own (agreed_in k m (w.client n) c.self.view_is part) (subst (λ i. h ≡ (after_entry k.scene w (Run n i)).heap) (sym place) heap)))
