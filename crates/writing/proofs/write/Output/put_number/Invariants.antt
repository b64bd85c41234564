-- `writing::write::Output::put_number` meets its contract. The loop's invariant: what the digits that are left make of the output is the whole decimal.
use Rattle.writing.proofs.Written.{DigitsLeft}
use Rattle.writing.proofs.write.Output.put_number.Given as goal

abbrev pub invariant-loop-i : goal.invariant-loop-i
invariant-loop-i l = DigitsLeft l.initial.self l.self l.n l.d l.left l.i
