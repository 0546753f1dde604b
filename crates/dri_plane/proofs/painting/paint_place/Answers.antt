-- The pair is painted, or stays.
use Rattle.std.proofs.Common.{◌≡◌, Some, None, get_or, slice_set, subst, sym, ap, ◌∙◌, arith}
use Rattle.dri_base.specs.declared.colour.Rgb.{Rgb}
use Rattle.dri_base.specs.declared.colour.Pixel.{Pixel}
use Rattle.dri_plane.specs.Formats.{pair_kept}
use Rattle.dri_plane.specs.Runs.{HoldPairs, accesses, grid, place_painted}
use Rattle.dri_plane.proofs.Painted.{pair_listed, pair_set, stayed_painted, written_painted}
use Rattle.dri_plane.proofs.painting.paint_place.Goals as goal

pub returns-in-Some-clause-pairs : goal.returns-in-Some-clause-pairs
returns-in-Some-clause-pairs g c = λ f holds.
    let F = g.F.ColourFormat in
    let w = c.args.width in
    let h = c.args.height in
    let place = c.place_of-place.result in
    let one : Rgb → Pixel = λ v. record { colour = v; depth = get_or c.args.depths.now place 0 } in
    let under : Pixel = one c.shown.result in
    let reads : under ≡ f c.args.x c.args.y =
    ap one (c.shown.ensures ∙ ap F.shown c.index-colours-place.is)
    ∙ pair_listed F.all_shown F.shown g.met.F.ColourFormat.each_shown w h c.args.colours.now c.args.depths.now f c.args.x c.args.y place c.index-colours-place.result 0 c.place_of-place.ensures.value c.requires.column c.requires.row holds in
    let kept = pair_kept F.shown F.kept in
    let pixel = c.in-Some.pixel in
    let depths = slice_set c.args.depths.now place pixel.depth in
    let is : Some pixel ≡ g.P.Painter.paints c.args.painter.now c.args.x under = c.in-Some.ensures in
    let held : HoldPairs (grid w h (F.all_shown (slice_set c.args.colours.now place (F.kept pixel.colour)))) (grid w h depths) (place_painted kept (g.P.Painter.paints c.args.painter.now) c.args.x c.args.y f) =
    written_painted kept (grid w h (F.all_shown (slice_set c.args.colours.now place (F.kept pixel.colour)))) (grid w h depths) c.args.x c.args.y (g.P.Painter.paints c.args.painter.now) under pixel f reads is
    (pair_set F.all_shown F.shown g.met.F.ColourFormat.each_shown w h c.args.colours.now c.args.depths.now f c.args.x c.args.y place (F.kept pixel.colour) pixel.depth c.place_of-place.ensures.value c.requires.column c.requires.row holds) in
    subst (λ v. HoldPairs (grid w h (F.all_shown (slice_set c.args.colours.now place v))) (grid w h depths) (place_painted kept (g.P.Painter.paints c.args.painter.now) c.args.x c.args.y f)) (sym c.keep.ensures) held

pub returns-in_default-clause-pairs : goal.returns-in_default-clause-pairs
returns-in_default-clause-pairs g c = λ f holds.
    let F = g.F.ColourFormat in
    let w = c.args.width in
    let h = c.args.height in
    let place = c.place_of-place.result in
    let one : Rgb → Pixel = λ v. record { colour = v; depth = get_or c.args.depths.now place 0 } in
    let under : Pixel = one c.shown.result in
    let reads : under ≡ f c.args.x c.args.y =
    ap one (c.shown.ensures ∙ ap F.shown c.index-colours-place.is)
    ∙ pair_listed F.all_shown F.shown g.met.F.ColourFormat.each_shown w h c.args.colours.now c.args.depths.now f c.args.x c.args.y place c.index-colours-place.result 0 c.place_of-place.ensures.value c.requires.column c.requires.row holds in
    let is : None ≡ g.P.Painter.paints c.args.painter.now c.args.x under = c.in_default.ensures in
    stayed_painted (pair_kept F.shown F.kept) (grid w h (F.all_shown c.args.colours.now)) (grid w h c.args.depths.now) c.args.x c.args.y (g.P.Painter.paints c.args.painter.now) under f reads is holds

pub returns-in-Some-clause-accesses : goal.returns-in-Some-clause-accesses
returns-in-Some-clause-accesses g c = λ f holds.
    let F = g.F.ColourFormat in
    let w = c.args.width in
    let h = c.args.height in
    let place = c.place_of-place.result in
    let one : Rgb → Pixel = λ v. record { colour = v; depth = get_or c.args.depths.now place 0 } in
    let under : Pixel = one c.shown.result in
    let reads : under ≡ f c.args.x c.args.y =
    ap one (c.shown.ensures ∙ ap F.shown c.index-colours-place.is)
    ∙ pair_listed F.all_shown F.shown g.met.F.ColourFormat.each_shown w h c.args.colours.now c.args.depths.now f c.args.x c.args.y place c.index-colours-place.result 0 c.place_of-place.ensures.value c.requires.column c.requires.row holds in
    let paints = g.P.Painter.paints c.args.painter.now c.args.x in
    let painted : accesses (paints (f c.args.x c.args.y)) ≡ 4 = ap accesses (sym (c.in-Some.ensures ∙ ap paints reads)) in
    omega (arith, painted)

pub returns-in_default-clause-accesses : goal.returns-in_default-clause-accesses
returns-in_default-clause-accesses g c = λ f holds.
    let F = g.F.ColourFormat in
    let w = c.args.width in
    let h = c.args.height in
    let place = c.place_of-place.result in
    let one : Rgb → Pixel = λ v. record { colour = v; depth = get_or c.args.depths.now place 0 } in
    let under : Pixel = one c.shown.result in
    let reads : under ≡ f c.args.x c.args.y =
    ap one (c.shown.ensures ∙ ap F.shown c.index-colours-place.is)
    ∙ pair_listed F.all_shown F.shown g.met.F.ColourFormat.each_shown w h c.args.colours.now c.args.depths.now f c.args.x c.args.y place c.index-colours-place.result 0 c.place_of-place.ensures.value c.requires.column c.requires.row holds in
    let paints = g.P.Painter.paints c.args.painter.now c.args.x in
    let kept : accesses (paints (f c.args.x c.args.y)) ≡ 2 = ap accesses (sym (c.in_default.ensures ∙ ap paints reads)) in
    omega (arith, kept)
