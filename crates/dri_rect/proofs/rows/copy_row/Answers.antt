use Rattle.std.proofs.Common.{◌≡◌, ◌++◌, ◌∙◌, ap, w32, arith, rules}
use Rattle.std.proofs.lemmas.Int.{ints, to_z-of_z}
use mir.Val.{SFits}
use Rattle.dri_rect.proofs.RowWalks.{placed_level}
use Rattle.dri_rect.proofs.rows.copy_row.Goals as goal

pub returns-then-head-bottom : goal.returns-then-head-bottom
returns-then-head-bottom c =
    let f : SFits w32 c.in-Some.head.now.y1 = search rules in
    let g : SFits w32 c.in-Some.head.now.y2 = search rules in
    let top : c.in-Some.head.now.y1 ≡ c.args.top = grind (arith, ints, to_z-of_z) in
    let bottom : c.in-Some.head.now.y2 ≡ c.args.bottom = grind (arith, ints, to_z-of_z) in
    let added : c.extend_from_slice.new.self.items ≡ c.args.into.now.items ++ c.args.row.now = search rules in
    added ∙ ap (λ rs. c.args.into.now.items ++ rs) (placed_level c.args.row.now c.in-Some.head.now _ c.args.top c.args.bottom c.in-Some.ensures.cases.0 c.requires top bottom)
