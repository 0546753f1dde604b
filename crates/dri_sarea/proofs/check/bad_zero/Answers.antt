use Rattle.std.proofs.Common.{◌+◌, List, [], ◌∷◌, arith, sym, ◌∙◌, ap}
use Rattle.dri_sarea.specs.declared.layout.Field.{Field}
use Rattle.dri_sarea.specs.declared.layout.Range.TheVariants.{Within}
use Rattle.dri_sarea.specs.Layouts.{byte}
use Rattle.dri_sarea.specs.Images.{first_bad}
use Rattle.dri_sarea.proofs.Pieces.{no_pieces, pieces_go, pieces_stop, size_zeros}
use Rattle.dri_sarea.proofs.check.bad_zero.Goals as goal

pub loop-i-init : goal.loop-i-init
loop-i-init c = ap (λ (fs : List Field). first_bad c.args.bytes.now c.args.at fs) (no_pieces (λ i. byte (Within 0 0) ∷ []))

pub returns-in-Some : goal.returns-in-Some
returns-in-Some c =
    let p = ap (λ (f : Field). first_bad c.args.bytes.now (c.args.at + c.loop-i.i) (f ∷ [])) c.zero.ensures in
    sym (pieces_stop c.args.bytes.now c.args.at (c.args.at + c.loop-i.i) (λ i. byte (Within 0 0) ∷ []) c.loop-i.i c.args.count c.in-Some.bad (omega (arith, size_zeros c.loop-i.i)) c.loop-i.invariant (sym p ∙ sym c.in-Some.ensures) c.loop-i-test.true)

pub loop-i-preserved : goal.loop-i-preserved
loop-i-preserved c =
    let p = ap (λ (f : Field). first_bad c.args.bytes.now (c.args.at + c.loop-i.i) (f ∷ [])) c.zero.ensures in
    pieces_go c.args.bytes.now c.args.at (c.args.at + c.loop-i.i) (λ i. byte (Within 0 0) ∷ []) c.loop-i.i (omega (arith, size_zeros c.loop-i.i)) c.loop-i.invariant (sym p ∙ sym c.in_default.ensures)
