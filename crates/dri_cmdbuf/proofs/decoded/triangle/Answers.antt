use Rattle.std.proofs.Common.{◌≡◌, ◌+◌, ◌*◌, length, arith}
use Rattle.dri_cmdbuf.proofs.Grammar.{depth_c, inside}
use Rattle.dri_cmdbuf.proofs.decoded.triangle.Goals as goal

pub vertex-requires-3-clause-depth : goal.vertex-requires-3-clause-depth
vertex-requires-3-clause-depth c =
    let e : c.args.i * 13 + 9 + 1 ≡ c.args.i * 13 + 10 = omega arith in
    rw e (depth_c c.args.words.now c.args.i c.requires.whole (inside (length c.args.words.now) c.args.i c.requires.there))
