use Rattle.std.proofs.Common.{ap}
use Rattle.dri_core.specs.Phases.{Asking, Out}
use Rattle.dri_client.specs.Parts.{PartState}
use Rattle.dri_client.proofs.Keeping.{goes_from, phase_kept}
use Rattle.dri_client.proofs.part.ClientPart.told.Goals as goal

pub returns-clause-kept : goal.returns-clause-kept
returns-clause-kept c = let k = c.args.self.now in phase_kept k _ Out c.args.stamp (ap (λ (p : PartState). record p { phase = Out; stamp = c.args.stamp }) c.self.view_is) (λ n more. goes_from k.phase Asking k.place n c.requires.asking more)
