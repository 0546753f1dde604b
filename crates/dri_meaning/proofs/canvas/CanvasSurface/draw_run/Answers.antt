-- One place more, and all.
use Rattle.std.proofs.Common.{◌≡◌, ◌+◌, ◌-◌, ◌≤◌, refl, subst, ◌∙◌, arith}
use Rattle.dri_meaning.specs.Canvases.{HasPairs}
use Rattle.dri_walk.specs.Surfaces.{run_painted}
use Rattle.dri_meaning.proofs.Painting.{place_painted, run_begins, run_more}
use Rattle.dri_meaning.proofs.canvas.CanvasSurface.draw_run.Goals as goal

pub loop-x-init : goal.loop-x-init
loop-x-init g c =
    let new = c.paint.new.self in
    let first : c.args.left ≡ c.args.left + 1 - 1 = omega arith in
    record {
      ready = subst (g.P.Painter.ready c.args.painter.now) first c.requires.ready;
      paints = refl;
      end = c.requires.end;
      width = c.paint.ensures.width;
      height = c.paint.ensures.height;
      pairs = λ f holds. run_begins new.pairs (g.P.Painter.paints c.args.painter.now) c.args.y c.args.left f (c.paint.ensures.pairs f holds);
      cost = omega (arith, c.paint.ensures.cost);
    }

pub loop-x-preserved : goal.loop-x-preserved
loop-x-preserved g c =
    let new = c.paint-in-loop-x.new.self in
    let seen = c.loop-x.invariant in
    let x = c.loop-x.x in
    let y = c.args.y in
    let left = c.args.left in
    let paint = g.P.Painter.paints c.args.painter.now in
    let past : left + 1 ≤ x = c.loop-x.auto.x in
    let here : x - 1 + 1 ≡ x + 1 - 1 = omega (arith, past) in
    let same = c.step.ensures.paints ∙ seen.paints in
    record {
      ready = subst (g.P.Painter.ready c.step.new.self) here c.step.ensures.ready;
      paints = same;
      end = c.step.ensures.end ∙ seen.end;
      width = c.paint-in-loop-x.ensures.width ∙ seen.width;
      height = c.paint-in-loop-x.ensures.height ∙ seen.height;
      pairs = λ f holds. run_more new.pairs paint y left x f (omega (arith, past))
          (subst (λ p. HasPairs new.pairs (place_painted p x y (run_painted (λ v. v) paint y left x f))) same (c.paint-in-loop-x.ensures.pairs (run_painted (λ v. v) paint y left x f) (seen.pairs f holds)));
      cost = omega (arith, past, c.paint-in-loop-x.ensures.cost, seen.cost);
    }

pub returns-clause-pairs : goal.returns-clause-pairs
returns-clause-pairs g c f holds =
    let some : c.args.left + 1 ≤ c.args.right = omega (arith, c.requires.some) in
    let last : c.loop-x.x ≡ c.args.right = omega (arith, c.loop-x-test.false, c.loop-x.auto.x-end some) in
    subst (λ x. HasPairs c.loop-x.self.pairs (run_painted (λ v. v) (g.P.Painter.paints c.args.painter.now) c.args.y c.args.left x f)) last (c.loop-x.invariant.pairs f holds)
