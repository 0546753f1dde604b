-- A clear fills the window.
use Rattle.std.proofs.Common.{◌≡◌, Some, pos, sym, subst, if◌then◌else◌}
use Rattle.dri_base.specs.declared.colour.Pixel.{Pixel}
use Rattle.dri_base.specs.Fragments.{rules_of}
use Rattle.dri_base.specs.Planes.{in_rect}
use Rattle.dri_base.specs.Texels.{own_image}
use Rattle.dri_core.specs.Solo.{drawn_by}
use Rattle.dri_plane.specs.Grids.{ClipRect}
use Rattle.dri_meaning.specs.Canvases.{HasPairs}
use Rattle.dri_meaning.proofs.Painting.{all_changed, changed}
use Rattle.dri_meaning.proofs.canvas.Canvas.obey.Goals as goal

pub returns-in-Clear-clause-pairs : goal.returns-in-Clear-clause-pairs
returns-in-Clear-clause-pairs g c f has =
    let s = c.args.state.now in
    let old = c.args.self.now.pairs in
    let new = c.fill.new.self in
    let window = c.whole-window.result in
    let pixel : Pixel = record { colour = c.in-Clear.colour; depth = c.in-Clear.depth } in
    let whole : ◌≡◌ {A = ClipRect} window (record { x1 = 0; y1 = 0; x2 = new.width; y2 = new.height }) = rw (c.fill.ensures.width, c.fill.ensures.height) c.whole-window.ensures.value in
    let filled : HasPairs new (λ x y. pixel) = all_changed new window (λ x y. pixel) f whole (changed old new (λ h x y. if in_rect window x y then pixel else h x y) f c.fill.ensures.width c.fill.ensures.height c.fill.ensures.pixels has) in
    subst (λ command. HasPairs new (λ x y. drawn_by (rules_of s) (own_image c.args.script.now.textures s.bound) (Some command) (pos x) (pos y) (f x y))) (sym c.in-Clear.is) filled
