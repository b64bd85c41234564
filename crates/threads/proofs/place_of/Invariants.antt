-- `threads::place_of` meets its contract. The loop's invariant: i threads are passed, and the rest of the program stands at the node `at`.
use Rattle.threads.proofs.PlaceOfFacts.{Placing}
use Rattle.threads.proofs.place_of.Given as goal

abbrev pub invariant-loop : goal.invariant-loop
invariant-loop l = Placing l.t l.column l.at l.counter
