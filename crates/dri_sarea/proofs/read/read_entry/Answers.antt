use Rattle.std.proofs.Common.{◌+◌, ◌*◌}
use Rattle.dri_sarea.specs.Areas.{no_region}
use Rattle.dri_sarea.proofs.Reading.{entry_zero}
use Rattle.dri_sarea.proofs.read.read_entry.Goals as goal

pub returns-then-count-i-clause-values : goal.returns-then-count-i-clause-values
returns-then-count-i-clause-values c = entry_zero c.args.bytes.now (2216 + 8 * c.args.i) c.args.count c.args.i no_region c.if-count-i.true c.requires.good
