-- `writing::write::put_text` meets its contract. The loop's invariant: what the pieces on the stack make of the output is the whole text. The measure: what is left of the output.
use Prim.Native.Nat.{◌-◌}
use lib.ListN.{length}
use Rattle.writing.proofs.Pieces.{TextLeft}
use Rattle.writing.proofs.write.put_text.Given as goal

abbrev pub invariant-loop-piece : goal.invariant-loop-piece
invariant-loop-piece l = TextLeft l.t l.initial.out l.out l.stack.cells.now l.node l.stack.top

abbrev pub decreases-loop-piece : goal.decreases-loop-piece
decreases-loop-piece l = length l.out.bytes.now - l.out.at
