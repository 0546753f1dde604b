-- The law, from its proof.
use Rattle.dri_words.proofs.Decimals.{numbers_are_decimal}
use Rattle.dri_words.proofs.words.numbers_are_decimal.Goals as goal

pub returns : goal.returns
returns c = numbers_are_decimal
