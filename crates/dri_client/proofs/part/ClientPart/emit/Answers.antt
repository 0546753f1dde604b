use Rattle.std.proofs.Common.{◌∙◌, ap}
use Rattle.dri_model.specs.Groups.{no_groups}
use Rattle.dri_client.specs.Kept.{state_of}
use Rattle.dri_client.specs.Parts.{PartState}
use Rattle.dri_client.proofs.Keeping.{emptied_kept}
use Rattle.dri_client.proofs.part.ClientPart.emit.Goals as goal

pub returns-clause-kept : goal.returns-clause-kept
returns-clause-kept c =
    let m = state_of c.self.inside in
    emptied_kept c.args.self.now _ ((λ i. record m { state = c.take_dirty.ensures.state i; dirty = c.take_dirty.ensures.dirty i }) ∙ ap (λ (p : PartState). record p { dirty = no_groups }) c.self.view_is)
