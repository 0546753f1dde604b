use Rattle.std.proofs.Common.{◌∙◌, ap}
use Rattle.std.specs.Prelude.{is_some}
use Rattle.dri_texheap.specs.RegionStates.{heap_of}
use Rattle.dri_client.specs.Parts.{PartState}
use Rattle.dri_client.specs.Textures.{age_known}
use Rattle.dri_client.proofs.Running.{changed_none, changed_triangle}
use Rattle.dri_client.proofs.part.ClientPart.change.Goals as goal

pub returns-in-Triangle : goal.returns-in-Triangle
returns-in-Triangle c =
    let h = heap_of c.args.regions.now in
    let uses = c.is_some-is_used.ensures ∙ ap is_some c.used_spot.ensures in
    let local = c.age_known-self-inside.result in
    ap (λ (p : PartState). record p { local = local }) c.self.view_is
    ∙ changed_triangle c.args.self.now c.args.command.now c.in-Triangle.field-0 h local c.in-Triangle.is (c.age_known-self-inside.ensures ∙ λ i. age_known h (c.self.view_is i).local (uses i))

pub returns-in_default : goal.returns-in_default
returns-in_default c = changed_none c.args.self.now c.args.command.now (heap_of c.args.regions.now) c.in_default.not-Set c.in_default.not-Triangle
