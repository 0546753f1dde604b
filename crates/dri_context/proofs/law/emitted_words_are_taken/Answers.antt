use Rattle.std.proofs.Common.{refl}
use Rattle.dri_model.specs.Words.{registers_for}
use Rattle.dri_context.proofs.law.emitted_words_are_taken.Goals as goal

pub returns : goal.returns
returns c = λ groups state bound bound_fits scissor_fits. (record { groups = groups; registers = registers_for state bound; bound = bound_fits; scissor = scissor_fits; spells = refl }, refl, refl)
