use Rattle.std.proofs.Common.{◌+◌, ◌*◌, List, arith, refl, sym, ◌∙◌, ap}
use Rattle.dri_sarea.specs.declared.layout.Field.{Field}
use Rattle.dri_sarea.specs.Layouts.{drawable_fields}
use Rattle.dri_sarea.specs.Images.{first_bad}
use Rattle.dri_sarea.proofs.Pieces.{no_pieces, pieces_go, pieces_stop, size_eights}
use Rattle.dri_sarea.proofs.check.bad_drawable.Goals as goal

pub loop-i-init : goal.loop-i-init
loop-i-init c = ap (λ (fs : List Field). first_bad c.args.bytes.now 128 fs) (no_pieces (λ i. drawable_fields))

pub returns-in-Some : goal.returns-in-Some
returns-in-Some c =
    let p = ap (λ (fs : List Field). first_bad c.args.bytes.now (128 + 8 * c.loop-i.i) fs) c.drawable.ensures in
    sym (pieces_stop c.args.bytes.now 128 (128 + 8 * c.loop-i.i) (λ i. drawable_fields) c.loop-i.i 256 c.in-Some.bad (omega (arith, size_eights (λ i. drawable_fields) c.loop-i.i (λ i. refl))) c.loop-i.invariant (sym p ∙ sym c.in-Some.ensures) c.loop-i-test.true)

pub loop-i-preserved : goal.loop-i-preserved
loop-i-preserved c =
    let p = ap (λ (fs : List Field). first_bad c.args.bytes.now (128 + 8 * c.loop-i.i) fs) c.drawable.ensures in
    pieces_go c.args.bytes.now 128 (128 + 8 * c.loop-i.i) (λ i. drawable_fields) c.loop-i.i (omega (arith, size_eights (λ i. drawable_fields) c.loop-i.i (λ i. refl))) c.loop-i.invariant (sym p ∙ sym c.in_default.ensures)
