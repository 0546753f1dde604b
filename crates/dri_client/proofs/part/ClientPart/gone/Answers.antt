use Rattle.std.proofs.Common.{ap}
use Rattle.dri_core.specs.Phases.{Dead}
use Rattle.dri_client.specs.Parts.{PartState}
use Rattle.dri_client.proofs.Keeping.{phase_kept}
use Rattle.dri_client.proofs.part.ClientPart.gone.Goals as goal

pub returns-clause-kept : goal.returns-clause-kept
returns-clause-kept c = let k = c.args.self.now in phase_kept k _ Dead k.stamp (ap (λ (p : PartState). record p { phase = Dead }) c.self.view_is) (λ n more. tt)
