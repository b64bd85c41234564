-- `Program::thread` meets its contract. The loop's invariant: so many threads are passed, and the next is in hand.
use Rattle.std.proofs.Common.{◌≡◌, ◌∷◌, drop}
use Rattle.calculus.specs.Tree.{threads}
use Rattle.threads.proofs.program.Program.thread.Given as goal

abbrev pub invariant-loop : goal.invariant-loop
invariant-loop l = drop l.counter (threads l.self) ≡ l.thread ∷ threads l.rest
