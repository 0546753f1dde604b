-- The first region where the blocks fit is the lowest.
use Rattle.std.proofs.Common.{◌≡◌, ◌+◌, ◌/◌, Some, true, arith, rules, sym}
use Rattle.std.specs.Prelude.{nat_le}
use Rattle.dri_texheap.specs.Placements.{levels_of}
use Rattle.dri_texheap.proofs.Rooming.{first_room, no_room}
use Rattle.dri_texheap.proofs.placed.Placed.room.Goals as goal

pub returns-then-fits_above : goal.returns-then-fits_above
returns-then-fits_above c =
    let level : levels_of c.args.self.now c.loop-first.first ≡ Some c.in-Some.block = search rules in
    let fits : nat_le (c.in-Some.block + c.args.blocks) (c.args.self.now.region_size / 64) ≡ true = search rules in
    sym (first_room c.args.self.now.region_size (levels_of c.args.self.now) c.args.blocks c.loop-first.first c.in-Some.block (omega (arith, c.loop-first-test.true)) c.loop-first.invariant level fits)

pub returns : goal.returns
returns c = sym (no_room c.args.self.now.region_size (levels_of c.args.self.now) c.args.blocks (λ k below. c.loop-first.invariant k (omega (arith, below, c.loop-first-test.false))))
