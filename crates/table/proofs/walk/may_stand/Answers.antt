-- `table::walk::may_stand` meets its contract, arm by arm.
use Rattle.table.proofs.Scans.{no_program, in_program, in_program_only, ranged, constant, numberless, term_kinds}
use Rattle.table.proofs.walk.may_stand.Goals as goal

pub returns-in-Empty : goal.returns-in-Empty
returns-in-Empty c = rw c.in-Program.is (in_program _ _ _ c.in-Empty.is)

pub returns-in_default : goal.returns-in_default
returns-in_default c = rw c.in-Program.is (no_program _ _ _ (term_kinds _ c.in_default.not-Empty c.in_default.not-Alternative))

pub returns-in-Empty-kind : goal.returns-in-Empty-kind
returns-in-Empty-kind c = rw c.in-Term.is (in_program_only _ _ _ c.in-Empty-kind.is)

pub returns-in-Bound : goal.returns-in-Bound
returns-in-Bound c = rw c.in-Term.is (ranged _ _ _ c.in-Bound.is)

pub returns-in-Constructor : goal.returns-in-Constructor
returns-in-Constructor c = rw c.in-Term.is (constant _ _ _ c.in-Constructor.is c.ranges.m.fits)

pub returns-in-Abstraction : goal.returns-in-Abstraction
returns-in-Abstraction c = rw c.in-Term.is (numberless _ _ _ c.in-Abstraction.is)
