use Rattle.std.proofs.Common.{◌+◌, ◌*◌, List, arith, sym, ap}
use Rattle.dri_sarea.specs.declared.layout.Field.{Field}
use Rattle.dri_sarea.specs.Layouts.{entry_fields}
use Rattle.dri_sarea.specs.Images.{first_bad}
use Rattle.dri_sarea.proofs.Pieces.{no_pieces, pieces_go, pieces_stop, size_eights, size_entry}
use Rattle.dri_sarea.proofs.check.bad_entry.Goals as goal

pub loop-i-init : goal.loop-i-init
loop-i-init c = ap (λ (fs : List Field). first_bad c.args.bytes.now 2216 fs) (no_pieces (entry_fields c.args.count))

pub returns-in-Some : goal.returns-in-Some
returns-in-Some c = sym (pieces_stop c.args.bytes.now 2216 (2216 + 8 * c.loop-i.i) (entry_fields c.args.count) c.loop-i.i 65 c.in-Some.bad (omega (arith, size_eights (entry_fields c.args.count) c.loop-i.i (size_entry c.args.count))) c.loop-i.invariant (sym c.in-Some.ensures) c.loop-i-test.true)

pub loop-i-preserved : goal.loop-i-preserved
loop-i-preserved c = pieces_go c.args.bytes.now 2216 (2216 + 8 * c.loop-i.i) (entry_fields c.args.count) c.loop-i.i (omega (arith, size_eights (entry_fields c.args.count) c.loop-i.i (size_entry c.args.count))) c.loop-i.invariant (sym c.in_default.ensures)
