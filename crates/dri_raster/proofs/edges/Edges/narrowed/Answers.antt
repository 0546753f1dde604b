-- The three edges cut the span one after another.
use Rattle.std.proofs.Common.{◌≡◌, Bool, true, false, ◌&&◌, ap, refl, ◌∙◌}
use Rattle.std.proofs.lemmas.Int.{to_z-of_z}
use Rattle.dri_raster.specs.Edges.{holds}
use Rattle.dri_raster.specs.Spans.{in_span}
use Rattle.dri_raster.proofs.edges.Edges.narrowed.Goals as goal

all_four : (s a b k : Bool) → (((s && a) && b) && k) ≡ (s && (a && (b && k)))
all_four true a b k = three a b k where
  three : (p q r : Bool) → ((p && q) && r) ≡ (p && (q && r))
  three true q r = refl
  three false q r = refl
all_four false a b k = refl

pub returns-clause-columns : goal.returns-clause-columns
returns-clause-columns c x =
    let e = c.args.self.now in
    let y = c.args.y in
    let y_fits = c.ranges.y in
    let first = simp to_z-of_z at (c.narrowed-within_ab.ensures.columns x) in
    let second = simp to_z-of_z at (c.narrowed-within_both.ensures.columns x) in
    let third = simp to_z-of_z at (c.narrowed.ensures.columns x) in
    third
    ∙ ap (λ b. b && holds e.ca x y) (second ∙ ap (λ b. b && holds e.bc x y) first)
    ∙ all_four (in_span c.args.span x) (holds e.ab x y) (holds e.bc x y) (holds e.ca x y)
