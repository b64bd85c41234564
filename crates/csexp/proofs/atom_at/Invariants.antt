-- `csexp::atom_at` meets its contract. The loop's invariant: the digits passed are a decimal, whose number is kept. The measure is what is left of the text. Assumes nothing.
use Prim.Native.Nat.{◌-◌}
use lib.ListN.{length}
use Rattle.csexp.proofs.Atoms.{Read}
use Rattle.csexp.proofs.atom_at.Given as goal

abbrev pub invariant-loop-n : goal.invariant-loop-n
invariant-loop-n l = Read l.s l.at l.first l.n l.i

abbrev pub decreases-loop-n : goal.decreases-loop-n
decreases-loop-n l = length l.s - l.i
