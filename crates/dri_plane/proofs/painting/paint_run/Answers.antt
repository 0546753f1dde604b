-- One place more, and all.
use Rattle.std.proofs.Common.{◌≡◌, ◌+◌, ◌-◌, ◌≤◌, refl, ap, sym, subst, ◌∙◌, arith}
use Rattle.dri_plane.specs.Formats.{pair_kept}
use Rattle.dri_plane.specs.Runs.{HoldPairs, accesses, grid, place_painted, run_accesses, run_painted}
use Rattle.dri_plane.proofs.Painted.{accesses_begin, accesses_more, run_begins, run_more}
use Rattle.dri_plane.proofs.painting.paint_run.Goals as goal

pub loop-x-init : goal.loop-x-init
loop-x-init g c =
    let kept = (pair_kept g.F.ColourFormat.shown g.F.ColourFormat.kept) in
    let w = c.args.width in
    let h = c.args.height in
    let one = c.paint_place.ensures in
    let first : c.args.left ≡ c.args.left + 1 - 1 = omega arith in
    record {
      ready = subst (g.P.Painter.ready c.args.painter.now) first c.requires.ready;
      paints = refl;
      end = c.requires.end;
      colours = one.colours;
      depths = one.depths;
      pairs = λ f holds. run_begins kept (grid w h (g.F.ColourFormat.all_shown c.paint_place.new.colours)) (grid w h c.paint_place.new.depths) (g.P.Painter.paints c.args.painter.now) c.args.y c.args.left f (one.pairs f holds);
      accesses = λ f holds. one.accesses f holds ∙ ap (λ n. c.args.steps.now + n) (sym (accesses_begin (g.P.Painter.paints c.args.painter.now) c.args.y c.args.left f));
      cost = omega (arith, one.cost);
    }

pub loop-x-preserved : goal.loop-x-preserved
loop-x-preserved g c =
    let kept = (pair_kept g.F.ColourFormat.shown g.F.ColourFormat.kept) in
    let w = c.args.width in
    let h = c.args.height in
    let one = c.paint_place-in-loop-x.ensures in
    let back = grid w h (g.F.ColourFormat.all_shown c.paint_place-in-loop-x.new.colours) in
    let depth = grid w h c.paint_place-in-loop-x.new.depths in
    let seen = c.loop-x.invariant in
    let x = c.loop-x.x in
    let y = c.args.y in
    let left = c.args.left in
    let paint = g.P.Painter.paints c.args.painter.now in
    let past : left + 1 ≤ x = c.loop-x.auto.x in
    let here : x - 1 + 1 ≡ x + 1 - 1 = omega (arith, past) in
    let same = c.step.ensures.paints ∙ seen.paints in
    record {
      ready = subst (g.P.Painter.ready c.step.new.self) here c.step.ensures.ready;
      paints = same;
      end = c.step.ensures.end ∙ seen.end;
      colours = one.colours ∙ seen.colours;
      depths = one.depths ∙ seen.depths;
      pairs = λ f holds. run_more kept back depth paint y left x f (omega (arith, past))
          (subst (λ p. HoldPairs back depth (place_painted kept p x y (run_painted kept paint y left x f))) same (one.pairs (run_painted kept paint y left x f) (seen.pairs f holds)));
      accesses = λ f holds.
          let before = seen.accesses f holds in
          let here = subst (λ p. c.paint_place-in-loop-x.new.steps ≡ c.loop-x.steps + accesses (p x (run_painted kept paint y left x f x y))) same (one.accesses (run_painted kept paint y left x f) (seen.pairs f holds)) in
          let more = accesses_more kept paint y left x f (omega (arith, past)) in
          omega (arith, before, here, more);
      cost = omega (arith, past, one.cost, seen.cost);
    }

pub returns-clause-pairs : goal.returns-clause-pairs
returns-clause-pairs g c f holds =
    let kept = (pair_kept g.F.ColourFormat.shown g.F.ColourFormat.kept) in
    let w = c.args.width in
    let h = c.args.height in
    let some : c.args.left + 1 ≤ c.args.right = omega (arith, c.requires.some) in
    let last : c.loop-x.x ≡ c.args.right = omega (arith, c.loop-x-test.false, c.loop-x.auto.x-end some) in
    subst (λ x. HoldPairs (grid w h (g.F.ColourFormat.all_shown c.loop-x.colours)) (grid w h c.loop-x.depths) (run_painted kept (g.P.Painter.paints c.args.painter.now) c.args.y c.args.left x f)) last (c.loop-x.invariant.pairs f holds)

pub returns-clause-accesses : goal.returns-clause-accesses
returns-clause-accesses g c f holds =
    let some : c.args.left + 1 ≤ c.args.right = omega (arith, c.requires.some) in
    let last : c.loop-x.x ≡ c.args.right = omega (arith, c.loop-x-test.false, c.loop-x.auto.x-end some) in
    subst (λ x. c.loop-x.steps ≡ c.args.steps.now + run_accesses (g.P.Painter.paints c.args.painter.now) c.args.y c.args.left (x - c.args.left) f) last (c.loop-x.invariant.accesses f holds)
