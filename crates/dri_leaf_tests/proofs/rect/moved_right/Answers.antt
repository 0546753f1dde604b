use Rattle.std.proofs.Common.{sym, ◌∙◌, arith}
use Rattle.std.proofs.lemmas.Int.{ints}
use Rattle.dri_rect.proofs.Unique.{tested}
use Rattle.dri_leaf_tests.proofs.rect.moved_right.Goals as goal

pub translate-requires : goal.translate-requires
translate-requires g c = λ x y is.
    let range = c.rect-place.ensures.range in
    let has = tested c.rect-place.result x y (sym (c.in_ok-region.ensures.region x y) ∙ is) in
    let left = c.rect-place.ensures.left in
    let right = c.rect-place.ensures.right in
    (omega (arith, ints), omega (arith, ints), omega (arith, ints, range.top.0, has.top), omega (arith, ints, range.bottom.1, has.bottom))
