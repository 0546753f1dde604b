-- What is left is what was given, and what is left then.
use Rattle.std.proofs.Common.{◌∙◌, ap, sym, length}
use Rattle.dri_io.specs.Memory.{Supply}
use Rattle.dri_io.proofs.LeftOver.{left_splits, none_left}
use Rattle.dri_io.proofs.memory.NeverFailsSource.read.Goals as goal

pub returns-clause-bytes : goal.returns-clause-bytes
returns-clause-bytes c =
    let s = c.self.inside in
    let n = c.give-count.result in
    let given = c.give-count.ensures in (
      ap (λ (v : Supply). v.left) (sym c.self.view_is) ∙ left_splits s.at n s.bytes c.give-count.new.into given.bytes,
      λ none _. none_left s.at n s.piece (length c.args.into.now) s.bytes given.count c.self.invariant.1 c.requires none,
    )
