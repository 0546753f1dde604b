use Rattle.std.proofs.Common.{[], ◌∷◌, ◌++◌, refl, ◌∙◌, ap}
use Rattle.dri_sarea.specs.declared.layout.Field.{Field}
use Rattle.dri_sarea.specs.declared.layout.Range.TheVariants.{Within}
use Rattle.dri_sarea.specs.Layouts.{byte}
use Rattle.dri_sarea.specs.Images.{written}
use Rattle.dri_sarea.proofs.Writing.{put_none, piece_put}
use Rattle.dri_sarea.proofs.write.put_zeros.Goals as goal

pub loop-init : goal.loop-init
loop-init c = put_none c.args.out.now.items (λ i. byte (Within 0 0) ∷ []) (λ i. 0 ∷ [])

pub loop-preserved : goal.loop-preserved
loop-preserved c =
    let put = ap (λ (f : Field). c.loop.out.items ++ written (f ∷ []) (0 ∷ [])) c.zero.ensures in
    piece_put c.loop.out.items c.put_fields.new.out.items c.args.out.now.items (λ i. byte (Within 0 0) ∷ []) (λ i. 0 ∷ []) c.loop.counter (λ i. refl) c.loop.invariant (c.in_ok-put_fields.ensures ∙ put)
