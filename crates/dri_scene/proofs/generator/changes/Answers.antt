-- One more at each turn.
use Rattle.std.proofs.Common.{◌≡◌, ◌+◌, ◌-◌, ◌%◌, ◌∙◌, ap, arith}
use Rattle.dri_scene.specs.Generator.{change, change_of}
use Rattle.dri_scene.proofs.Generated.{one_more}
use Rattle.dri_scene.proofs.generator.changes.Goals as goal

pub loop-k-preserved : goal.loop-k-preserved
loop-k-preserved c =
    let k = c.loop-k.k in
    let before : k ≡ k + 1 - 1 = omega arith in
    one_more (change c.args.n) k c.loop-k.changes c.push.new.self c.change_of.result c.loop-k.invariant (c.change_of.ensures ∙ ap (λ i. change_of (i % c.args.n + 1) (k + 1)) before) c.in_ok-push.ensures.ok
