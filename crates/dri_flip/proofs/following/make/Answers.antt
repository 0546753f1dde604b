-- A deed of each kind.
use Rattle.dri_flip.proofs.Made.{nothing_made, screen_of, show_made}
use Rattle.dri_flip.proofs.following.make.Goals as goal

pub returns-in-Nothing : goal.returns-in-Nothing
returns-in-Nothing g c = rw c.in-Nothing.is (nothing_made c.args.replay.now c.args.client c.args.counted.now)

pub clear-requires-clause-there : goal.clear-requires-clause-there
clear-requires-clause-there g c = rw c.in-Clear.is at c.requires.may

pub returns-in-Clear : goal.returns-in-Clear
returns-in-Clear g c = rw c.in-Clear.is c.clear.ensures

pub draw-requires-clause-there : goal.draw-requires-clause-there
draw-requires-clause-there g c = let may = rw c.in-Triangle.is at c.requires.may in may.0

pub draw-requires-clause-triangle : goal.draw-requires-clause-triangle
draw-requires-clause-triangle g c = let may = rw c.in-Triangle.is at c.requires.may in may.1

pub returns-in-Triangle : goal.returns-in-Triangle
returns-in-Triangle g c = rw c.in-Triangle.is c.draw.ensures

pub swap-requires-clause-there : goal.swap-requires-clause-there
swap-requires-clause-there g c = rw c.in-Swap.is at c.requires.may

pub returns-in-Swap : goal.returns-in-Swap
returns-in-Swap g c = rw c.in-Swap.is c.swap.ensures

pub show-requires-clause-sides : goal.show-requires-clause-sides
show-requires-clause-sides g c = screen_of c.args.counted.now.card c.args.replay.now.scene.width c.args.replay.now.scene.height c.requires.sides

pub show-requires-clause-can : goal.show-requires-clause-can
show-requires-clause-can g c = rw (c.requires.sides.front_width, c.requires.sides.front_height) (rw c.in-Touched.is at c.requires.may)

pub returns-in-Touched : goal.returns-in-Touched
returns-in-Touched g c = rw c.in-Touched.is (show_made c.args.replay.now c.args.client c.in-Touched.touched c.args.counted.now c.show.new.self c.show.ensures.shown c.show.ensures.held c.show.ensures.sides c.show.ensures.owes)
