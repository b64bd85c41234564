-- `table::walk::walk` meets its contract: what is left of the walk gives what the whole walk over the numbers gives, and that is what stands there.
use Rattle.table.specs.Checks.{within}
use Rattle.table.proofs.Scans.{Walking}
use Rattle.table.proofs.walk.walk.Given as goal

abbrev pub invariant-loop-at : goal.invariant-loop-at
invariant-loop-at l = Walking l.t l.count l.limit (within l.scope) l.end l.pending l.top l.bound l.at
