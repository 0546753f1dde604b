-- The pair is painted, or stays.
use Rattle.std.proofs.Common.{◌≡◌, None, ◌∙◌, rules, subst, sym, if◌then◌else◌}
use Rattle.dri_plane.specs.Grids.{is_place}
use Rattle.dri_meaning.specs.Canvases.{HasPairs}
use Rattle.dri_meaning.proofs.Painting.{changed, pair_read, stayed_painted, written_painted}
use Rattle.dri_meaning.proofs.canvas.Canvas.paint.Goals as goal

pub returns-in-Some-clause-pairs : goal.returns-in-Some-clause-pairs
returns-in-Some-clause-pairs g c f has =
    let x = c.args.x in
    let y = c.args.y in
    let old = c.args.self.now.pairs in
    let new = c.put.new.self in
    let r = c.get-under.result in
    let reads : r ≡ f x y = subst (λ a. r ≡ f a y) c.from.ensures (subst (λ b. r ≡ f c.from.result b) c.from-2.ensures (pair_read old f c.from.result c.from-2.result r (search rules) (search rules) has c.get-under.ensures.pixel)) in
    let writes : HasPairs new (λ a b. if is_place x y a b then c.in-Some.pixel else f a b) =
    subst (λ p. HasPairs new (λ a b. if is_place p y a b then c.in-Some.pixel else f a b)) c.from-in-Some.ensures
    (subst (λ q. HasPairs new (λ a b. if is_place c.from-in-Some.result q a b then c.in-Some.pixel else f a b)) c.from-in-Some-2.ensures
    (changed old new (λ h a b. if is_place c.from-in-Some.result c.from-in-Some-2.result a b then c.in-Some.pixel else h a b) f c.put.ensures.width c.put.ensures.height c.put.ensures.pixels has)) in
    written_painted new x y (g.P.Painter.paints c.args.painter.now) r c.in-Some.pixel f reads c.in-Some.ensures writes

pub returns-in_default-clause-pairs : goal.returns-in_default-clause-pairs
returns-in_default-clause-pairs g c f has =
    let none : None ≡ g.P.Painter.paints c.args.painter.now c.args.x c.get-under.result = sym c.in_default.is ∙ c.paint.ensures in
    let x = c.args.x in
    let y = c.args.y in
    let old = c.args.self.now.pairs in
    let r = c.get-under.result in
    let reads : r ≡ f x y = subst (λ a. r ≡ f a y) c.from.ensures (subst (λ b. r ≡ f c.from.result b) c.from-2.ensures (pair_read old f c.from.result c.from-2.result r (search rules) (search rules) has c.get-under.ensures.pixel)) in
    stayed_painted old x y (g.P.Painter.paints c.args.painter.now) r f reads none has
