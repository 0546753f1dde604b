-- The triangle is drawn by the script's own state and texture.
use Rattle.std.proofs.Common.{◌≡◌, subst, option_copied, pos}
use Rattle.dri_base.specs.Fragments.{fragment, rules_of}
use Rattle.dri_base.specs.Texels.{given_image, texture_bound}
use Rattle.dri_plane.specs.Grids.{ClipRect}
use Rattle.dri_meaning.specs.Canvases.{HasPairs}
use Rattle.dri_meaning.proofs.Painting.{drawn_alone}
use Rattle.dri_meaning.proofs.canvas.Canvas.draw.Goals as goal

pub returns-clause-pairs : goal.returns-clause-pairs
returns-clause-pairs g c f has =
    let s = c.args.state.now in
    let t = c.args.triangle.now in
    let new = c.draw_triangle.new.surface.pairs in
    let texture = option_copied c.texture_bound-texture.result in
    let found : texture ≡ texture_bound c.args.script.now.textures s.bound = subst (λ ts. texture ≡ texture_bound ts s.bound) c.as_slice.ensures c.texture_bound-texture.ensures.found in
    let window : ◌≡◌ {A = ClipRect} c.whole-window.result (record { x1 = 0; y1 = 0; x2 = new.width; y2 = new.height }) = rw (c.draw_triangle.ensures.width, c.draw_triangle.ensures.height) c.whole-window.ensures.value in
    subst (λ o. HasPairs new (λ x y. fragment (rules_of s) (given_image o) t (pos x) (pos y) (f x y))) found
    (drawn_alone new s texture c.registers_alone-registers.result c.bytes_of-memory.result.now c.whole-window.result t f c.registers_alone-registers.ensures c.bytes_of-memory.ensures window (c.draw_triangle.ensures.pairs f has))
