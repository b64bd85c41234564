-- `threads_agree` meets its contract. The invariant: the rest of the program stands at `at`, and what holds of its threads holds of all.
use mathlib.Core.Path.{◌≡◌}
use Prim.Native.Nat.{◌-◌}
use lib.ListN.{length}
use Rattle.table.proofs.Coherence.{Going}
use Rattle.table.proofs.closures.threads_agree.Given as goal

abbrev pub invariant-loop-limit : goal.invariant-loop-limit
invariant-loop-limit l = (length l.first ≡ length l.initial.first) × Going l.limit l.t l.at

abbrev pub decreases-loop-limit : goal.decreases-loop-limit
decreases-loop-limit l = l.limit - l.at
