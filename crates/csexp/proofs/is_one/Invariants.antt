-- `csexp::is_one` meets its contract. The loop's invariant: what follows, with so many brackets open, decides whether the text is one expression. The measure is what is left of the text. Assumes nothing.
use Prim.Native.Nat.{◌-◌}
use lib.ListN.{length}
use Rattle.csexp.proofs.Closings.{Stage}
use Rattle.csexp.proofs.is_one.Given as goal

abbrev pub invariant-loop-item : goal.invariant-loop-item
invariant-loop-item l = Stage l.s l.c.at l.depth

abbrev pub decreases-loop-item : goal.decreases-loop-item
decreases-loop-item l = length l.s - l.c.at
