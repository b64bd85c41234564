-- `reading::numbers::number_in` meets its contract. The loop's invariant: the bytes passed are digits, and v with what is left stands for the number of the whole.
use Rattle.reading.proofs.Decimals.{part, Reading}
use Rattle.reading.proofs.numbers.number_in.Given as goal

abbrev pub invariant-loop-b : goal.invariant-loop-b
invariant-loop-b l = Reading (part l.fn.s l.place l.n) l.n l.v l.b-index
