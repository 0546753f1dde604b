-- The clients that were found, before those that the numbers that are left name, are those of all numbers.
use Rattle.std.proofs.Common.{◌≡◌, drop}
use Rattle.dri_many.specs.Lines.{clients_in}
use Rattle.dri_many.proofs.Accumulating.{behind}
use Rattle.dri_many.proofs.line.clients_in.Given as goal

abbrev pub invariant-loop-number : goal.invariant-loop-number
invariant-loop-number l = behind l.clients (clients_in (drop l.number-index l.numbers)) ≡ clients_in l.numbers
