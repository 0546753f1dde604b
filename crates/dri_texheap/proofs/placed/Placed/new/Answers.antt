-- No region is shared.
use Rattle.dri_texheap.proofs.Losing.{none_shared}
use Rattle.dri_texheap.proofs.placed.Placed.new.Goals as goal

pub returns-clause-levels : goal.returns-clause-levels
returns-clause-levels c = none_shared 64
