-- `writing::write::text_length` meets its contract. The loop's invariant: what is counted and the bytes of the nodes that are left make those of the whole table.
use Rattle.writing.proofs.Lengths.{Counting}
use Rattle.writing.proofs.write.text_length.Given as goal

abbrev pub invariant-loop-at : goal.invariant-loop-at
invariant-loop-at l = Counting l.t l.count l.total l.at
