-- `forget_locations` meets its contract. The invariant: 0 stands at each location of the nodes passed.
use Rattle.table.proofs.Bodies.{Forgotten}
use Rattle.table.proofs.closures.forget_locations.Given as goal

abbrev pub invariant-loop-i : goal.invariant-loop-i
invariant-loop-i l = Forgotten l.part l.i l.initial.first l.first
