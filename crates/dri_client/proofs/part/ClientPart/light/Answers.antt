use Rattle.std.proofs.Common.{ap}
use Rattle.dri_core.specs.Phases.{In, Out}
use Rattle.dri_client.specs.Parts.{PartState}
use Rattle.dri_client.proofs.Keeping.{goes_from, phase_kept}
use Rattle.dri_client.proofs.part.ClientPart.light.Goals as goal

pub returns-clause-kept : goal.returns-clause-kept
returns-clause-kept c = let k = c.args.self.now in phase_kept k _ In k.stamp (ap (λ (p : PartState). record p { phase = In }) c.self.view_is) (λ n more. goes_from k.phase Out k.place n c.requires.out more)
