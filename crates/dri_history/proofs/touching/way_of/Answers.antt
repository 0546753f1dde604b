-- A deed of each kind.
use Rattle.std.proofs.Common.{refl}
use Rattle.dri_history.proofs.Doings.{clear_way, swap_way, touched_way, triangle_way}
use Rattle.dri_history.proofs.touching.way_of.Goals as goal

pub returns-in-Nothing : goal.returns-in-Nothing
returns-in-Nothing c = rw c.in-Nothing.is refl

pub drawn-requires : goal.drawn-requires
drawn-requires c = rw c.in-Clear.is at c.requires

pub returns-in-Clear : goal.returns-in-Clear
returns-in-Clear c = rw c.in-Clear.is (clear_way c.args.replay.now c.args.client c.args.x c.args.y c.in-Clear.colour c.in-Clear.depth c.drawn.result c.drawn.ensures)

pub drawn-requires-in-Triangle : goal.drawn-requires-in-Triangle
drawn-requires-in-Triangle c = let may = rw c.in-Triangle.is at c.requires in may.0

pub returns-in-Triangle : goal.returns-in-Triangle
returns-in-Triangle c = rw c.in-Triangle.is (triangle_way c.args.replay.now c.args.client c.args.x c.args.y c.in-Triangle.field-0 c.drawn-in-Triangle.result c.drawn-in-Triangle.ensures)

pub drawn-requires-in-Swap : goal.drawn-requires-in-Swap
drawn-requires-in-Swap c = rw c.in-Swap.is at c.requires

pub returns-in-Swap : goal.returns-in-Swap
returns-in-Swap c = rw c.in-Swap.is (swap_way c.args.replay.now c.args.client c.args.x c.args.y c.drawn-in-Swap.result c.drawn-in-Swap.ensures)

pub returns-in-Touched : goal.returns-in-Touched
returns-in-Touched c = rw c.in-Touched.is (touched_way c.args.replay.now c.args.client c.args.x c.args.y c.in-Touched.touched c.changed.result c.changed.ensures)
