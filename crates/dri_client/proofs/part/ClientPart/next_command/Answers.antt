use Rattle.std.proofs.Common.{◌≡◌, ◌-◌, ◌∙◌, ap, arith, List}
use Rattle.std.specs.Prelude.{pred, slice_get}
use Rattle.dri_base.specs.declared.command.Command.{Command}
use Rattle.dri_client.specs.Parts.{PartState}
use Rattle.dri_client.proofs.Owned.{looked_up}
use Rattle.dri_client.proofs.part.ClientPart.next_command.Goals as goal

pub returns : goal.returns
returns c =
    let k = c.args.self.now in
    let e : k.place - 1 ≡ pred k.place = omega arith in
    let at : c.self.inside.place - 1 ≡ pred k.place = ap (λ (p : PartState). p.place - 1) c.self.view_is ∙ e in
    c.copied.ensures ∙ (looked_up c.as_slice.result.now (c.self.inside.place - 1) c.get.result c.get.ensures.lookup.0 c.get.ensures.lookup.1
    ∙ (ap (slice_get c.as_slice.result.now) at ∙ ap (λ (cs : List Command). slice_get cs (pred k.place)) c.as_slice.ensures))
