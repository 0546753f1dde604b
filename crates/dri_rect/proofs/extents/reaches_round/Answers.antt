use Rattle.std.proofs.Common.{◌≡◌, ◌∙◌, true, w32, rules, refl, sym}
use Rattle.std.specs.Prelude.{◌&&◌, int_le}
use Rattle.std.proofs.lemmas.Int.{to_z-of_z}
use mir.Val.{SFits}
use Rattle.dri_rect.proofs.extents.reaches_round.Goals as goal

pub returns : goal.returns
returns c =
    let ox1 : SFits w32 c.args.outer.now.x1 = search rules in
    let ox2 : SFits w32 c.args.outer.now.x2 = search rules in
    let oy1 : SFits w32 c.args.outer.now.y1 = search rules in
    let oy2 : SFits w32 c.args.outer.now.y2 = search rules in
    let ix1 : SFits w32 c.args.inner.now.x1 = search rules in
    let ix2 : SFits w32 c.args.inner.now.x2 = search rules in
    let iy1 : SFits w32 c.args.inner.now.y1 = search rules in
    let iy2 : SFits w32 c.args.inner.now.y2 = search rules in
    let t : c.spans.result ≡ true = search rules in
    let d : c.spans.result ≡ (int_le c.args.outer.now.y1 c.args.inner.now.y1 && int_le c.args.inner.now.y2 c.args.outer.now.y2) = c.spans.ensures ∙ rw (to_z-of_z w32 _ oy1, to_z-of_z w32 _ oy2, to_z-of_z w32 _ iy1, to_z-of_z w32 _ iy2) refl in
    let a : c.spans-2.result ≡ (int_le c.args.outer.now.x1 c.args.inner.now.x1 && int_le c.args.inner.now.x2 c.args.outer.now.x2) = c.spans-2.ensures ∙ rw (to_z-of_z w32 _ ox1, to_z-of_z w32 _ ox2, to_z-of_z w32 _ ix1, to_z-of_z w32 _ ix2) refl in
    a ∙ rw (sym d ∙ t) refl
