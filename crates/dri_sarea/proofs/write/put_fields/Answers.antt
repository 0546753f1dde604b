use Rattle.std.proofs.Common.{◌<◌, ◌+◌, ℕ, List, ◌++◌, length, drop, get_or, arith, ◌∙◌, ap}
use Rattle.dri_sarea.specs.declared.layout.Range.TheVariants.{Any}
use Rattle.dri_sarea.specs.Layouts.{byte}
use Rattle.dri_sarea.specs.Images.{written}
use Rattle.dri_sarea.proofs.Fields.{held_length}
use Rattle.dri_sarea.proofs.Writing.{drop_next, put_step, held_here}
use Rattle.dri_sarea.proofs.write.put_fields.Goals as goal

pub bounds-values-i : goal.bounds-values-i
bounds-values-i c = omega (arith, held_length c.args.fields.now c.args.values.now c.requires, c.loop-i-test.true)

pub put-requires : goal.put-requires
put-requires c =
    let fs = c.args.fields.now in let vs = c.args.values.now in let i = c.loop-i.i in
    let below : i < length vs = omega (arith, held_length fs vs c.requires, c.loop-i-test.true) in
    (held_here fs vs i (get_or vs i 0) (get_or fs i (byte Any)) (drop_next fs i (byte Any) c.loop-i-test.true) (drop_next vs i 0 below) c.loop-i.invariant.held).0

pub loop-i-preserved : goal.loop-i-preserved
loop-i-preserved c =
    let fs = c.args.fields.now in let vs = c.args.values.now in let i = c.loop-i.i in
    let below : i < length vs = omega (arith, held_length fs vs c.requires, c.loop-i-test.true) in
    let f = drop_next fs i (byte Any) c.loop-i-test.true in
    let v = drop_next vs i 0 below in
    record {
      put = ap (λ (xs : List ℕ). xs ++ written (drop (i + 1) fs) (drop (i + 1) vs)) c.in_ok-put.ensures ∙ put_step c.loop-i.out.items c.args.out.now.items fs vs i (get_or vs i 0) (get_or fs i (byte Any)) f v c.loop-i.invariant.put;
      held = (held_here fs vs i (get_or vs i 0) (get_or fs i (byte Any)) f v c.loop-i.invariant.held).1;
    }
