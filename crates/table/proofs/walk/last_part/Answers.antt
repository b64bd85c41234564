-- `table::walk::last_part` meets its contract.
use mathlib.Core.Path.{ap, sym, ◌∙◌}
use mathlib.Core.Bool.{false≢true}
use Rattle.table.specs.Checks.{within}
use Rattle.table.proofs.Scans.{last_closed, last_made}
use Rattle.table.proofs.walk.last_part.Goals as goal
use Rattle.table.proofs.walk.last_part.Goals.{in-Allocated-Closures, in_default, in_default-via-in-Allocated+in_default, in_default-via-in_default}

pub returns-clause-part : goal.returns-clause-part
returns-clause-part c = rw c.last_sort.ensures (elim c.match-kind.branch [
  | in-Allocated-Closures w ↦ rw w.binders-is (last_closed _ _ _ w.in-Allocated-Closures.is-0 (ap within w.in-Allocated-Closures.is-1))
  | in_default w ↦ rw (w.binders-is, w.binds.ensures) (last_made _ _ _ (elim w.in_default.branch [ in_default-via-in-Allocated+in_default v ↦ λ e f. false≢true (sym (ap within v.in_default.is-1) ∙ f) | in_default-via-in_default v ↦ λ e f. v.in_default.not-Allocated-0 e ]))
])
