-- `bodies_agree` meets its contract. The invariant: the entries are right for the nodes passed.
use Rattle.table.proofs.Bodies.{Firsts}
use Rattle.table.proofs.closures.bodies_agree.Given as goal

abbrev pub invariant-loop-i : goal.invariant-loop-i
invariant-loop-i l = Firsts l.part l.end l.i l.initial.first l.first
