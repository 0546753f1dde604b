use Rattle.std.proofs.Common.{rules}
use Rattle.dri_c.proofs.Spelling.{one_more}
use Rattle.dri_c.proofs.saying.words_of.Goals as goal

pub loop-number-preserved : goal.loop-number-preserved
loop-number-preserved c = one_more c.loop-number.words.items c.push.new.self.items c.args.word.now c.args.numbers.now c.loop-number.number-index c.in_ok-format.field-0 (search rules) (search rules) (search rules) c.loop-number.invariant
