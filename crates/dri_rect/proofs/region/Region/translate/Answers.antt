use Rattle.std.proofs.Common.{sym, subst, w32}
use Rattle.std.proofs.lemmas.Int.{to_z-of_z}
use Rattle.dri_rect.specs.Pixels.{StaysInRange}
use Rattle.dri_rect.proofs.Regions.{moved_region, movable, inside_moved, stays}
use Rattle.dri_rect.proofs.region.Region.translate.Goals as goal

pub move_all-requires : goal.move_all-requires
move_all-requires g c = rw (to_z-of_z w32 c.args.dx c.ranges.dx, to_z-of_z w32 c.args.dy c.ranges.dy)
    (movable _ _ _ c.list.ensures.region.canonical.banded (stays c.args.dx c.args.dy _ c.list.ensures.region.canonical.banded (subst (λ v. StaysInRange c.args.dx c.args.dy v) (sym c.list.ensures.list) c.requires)))

pub of_list-requires-clause-region : goal.of_list-requires-clause-region
of_list-requires-clause-region g c = rw (c.in_ok-rects.ensures, to_z-of_z w32 c.args.dx c.ranges.dx, to_z-of_z w32 c.args.dy c.ranges.dy)
    (moved_region _ _ _ c.list.ensures.region (stays c.args.dx c.args.dy _ c.list.ensures.region.canonical.banded (subst (λ v. StaysInRange c.args.dx c.args.dy v) (sym c.list.ensures.list) c.requires)))

pub returns-clause-pixels : goal.returns-clause-pixels
returns-clause-pixels g c = λ x y. rw (c.of_list.ensures, c.in_ok-rects.ensures, to_z-of_z w32 c.args.dx c.ranges.dx, to_z-of_z w32 c.args.dy c.ranges.dy, c.list.ensures.list) (inside_moved _ _ _ x y)
