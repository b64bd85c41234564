-- `leaf::report::put_run` meets its contract: the program in the table is run, not refused, and the report of its end is that of the run.
use mathlib.Core.Path.{ap}
use native.Mathlib.Omega.{arith}
use Rattle.calculus.specs.Answers.{Values, ran_values}
use Rattle.small.specs.Limit.{small_limit}
use Rattle.calculus.proofs.Reports.{zeros_hold}
use Rattle.leaf.proofs.Calling.{run_not_refused, run_few, run_holds, run_written}
use Rattle.leaf.proofs.report.put_run.Goals as goal

pub overflow_cast-end : goal.overflow_cast-end
overflow_cast-end c = omega (arith, run_few c.requires.loaded (zeros_hold small_limit) c.run.ensures c.in-Ok.end.reason (ap ran_values c.in-Ok.is))

pub put_end-requires-clause-holds_good : goal.put_end-requires-clause-holds_good
put_end-requires-clause-holds_good c = run_holds c.requires.loaded (zeros_hold small_limit) c.run.ensures c.in-Ok.end.reason (ap ran_values c.in-Ok.is)

pub returns-in-Ok : goal.returns-in-Ok
returns-in-Ok c = run_written c.requires.loaded (zeros_hold small_limit) c.run.ensures c.in-Ok.end.reason (ap ran_values c.in-Ok.is) c.put_end.ensures

pub returns-in-Err : goal.returns-in-Err
returns-in-Err c = absurd (run_not_refused c.requires.loaded (zeros_hold small_limit) c.run.ensures c.in-Err.r (ap (λ (v : Values). v.refusal) (ap ran_values c.in-Err.is)))
