-- A deed of each kind.
use Rattle.dri_card16.proofs.Made16.{nothing_made}
use Rattle.dri_card16.proofs.following.make.Goals as goal

pub returns-in-Nothing : goal.returns-in-Nothing
returns-in-Nothing c = rw c.in-Nothing.is (nothing_made c.args.replay.now c.args.client c.args.card.now)

pub clear-requires-clause-there : goal.clear-requires-clause-there
clear-requires-clause-there c = rw c.in-Clear.is at c.requires.may

pub returns-in-Clear : goal.returns-in-Clear
returns-in-Clear c = rw c.in-Clear.is c.clear.ensures

pub draw-requires-clause-there : goal.draw-requires-clause-there
draw-requires-clause-there c = let may = rw c.in-Triangle.is at c.requires.may in may.0

pub draw-requires-clause-triangle : goal.draw-requires-clause-triangle
draw-requires-clause-triangle c = let may = rw c.in-Triangle.is at c.requires.may in may.1

pub returns-in-Triangle : goal.returns-in-Triangle
returns-in-Triangle c = rw c.in-Triangle.is c.draw.ensures

pub swap-requires-clause-there : goal.swap-requires-clause-there
swap-requires-clause-there c = rw c.in-Swap.is at c.requires.may

pub returns-in-Swap : goal.returns-in-Swap
returns-in-Swap c = rw c.in-Swap.is c.swap.ensures

pub show-requires-clause-can : goal.show-requires-clause-can
show-requires-clause-can c = rw c.in-Touched.is at c.requires.may

pub returns-in-Touched : goal.returns-in-Touched
returns-in-Touched c = rw c.in-Touched.is c.show.ensures
