-- Front is filled with a word, and shows what is kept of the colour.
use Rattle.std.proofs.Common.{if◌then◌else◌, map, refl, subst, sym}
use Rattle.dri_base.specs.Planes.{in_rect}
use Rattle.dri_base.specs.Texels.{sixteen_bits}
use Rattle.dri_card.specs.Contents.{Shows}
use Rattle.dri_card.proofs.CardPlanes.{shows_change}
use Rattle.dri_card16.specs.Packing.{kept}
use Rattle.dri_card16.specs.Widened.{seen}
use Rattle.dri_card16.proofs.card.Card16.paint.Goals as goal
use Rattle.dri_plane.proofs.Shown.{shown_filled}

pub returns-clause-ok : goal.returns-clause-ok
returns-clause-ok g c =
    λ shown shows.
    let front = c.self.inside.front in
    let new = c.fill.new.self in
    let there = subst (λ v. Shows v shown) (sym c.self.view_is) shows in
    shows_change (seen front) (seen new) (λ h x y. if in_rect c.args.rect x y then kept c.args.colour else h x y) shown c.fill.ensures.width c.fill.ensures.height
    (rw c.pack.ensures at (shown_filled (map sixteen_bits) sixteen_bits (λ l. refl) front new (in_rect c.args.rect) c.pack.result c.fill.ensures.pixels)) there
