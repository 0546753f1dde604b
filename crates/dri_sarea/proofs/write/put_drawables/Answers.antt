use Rattle.std.proofs.Common.{List, ◌++◌, get_or, refl, ◌∙◌, ap}
use Rattle.dri_sarea.specs.declared.layout.Field.{Field}
use Rattle.dri_sarea.specs.Areas.{no_drawable}
use Rattle.dri_sarea.specs.Layouts.{drawable_fields, drawable_values}
use Rattle.dri_sarea.specs.Images.{written}
use Rattle.dri_sarea.proofs.Writing.{put_none, piece_put}
use Rattle.dri_sarea.proofs.write.put_drawables.Goals as goal

pub loop-shown-init : goal.loop-shown-init
loop-shown-init c = put_none c.args.out.now.items (λ i. drawable_fields) (λ i. drawable_values (get_or c.args.drawables.now i no_drawable))

pub loop-shown-preserved : goal.loop-shown-preserved
loop-shown-preserved c =
    let d = get_or c.args.drawables.now c.loop-shown.shown-index no_drawable in
    let put = ap (λ (fs : List Field). c.loop-shown.out.items ++ written fs (drawable_values d)) c.drawable.ensures in
    piece_put c.loop-shown.out.items c.put_fields.new.out.items c.args.out.now.items (λ i. drawable_fields) (λ i. drawable_values (get_or c.args.drawables.now i no_drawable)) c.loop-shown.shown-index (λ i. refl) c.loop-shown.invariant (c.in_ok-put_fields.ensures ∙ put)
