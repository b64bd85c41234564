-- `table::check::check` meets its contract: the first walk shows a closed program; where no allocated abstraction stands in it, or else by the second walk and the comparison of bodies, its threads are coherent.
use mathlib.Core.Path.{◌≡◌, refl}
use native.Mathlib.Omega.{arith}
use Rattle.std.proofs.Common.{rules, Err}
use Rattle.calculus.proofs.Answers.{number_positive}
use Rattle.table.proofs.Verdicts.{none_fits, walked_refused, closed_walked, program_in, none_coherent, not_within, not_equal, all_coherent}
use Rattle.table.proofs.check.check.Goals as goal

pub returns-then-n-eq0 : goal.returns-then-n-eq0
returns-then-n-eq0 c = rw (← c.limit_in_force-n.ensures) (none_fits c.if-n-eq0.true)

pub returns-in_err-walk : goal.returns-in_err-walk
returns-in_err-walk c =
    let e : c.from_residual.result ≡ Err c.in_err-walk.field-0.0 = search rules in
    rw (← c.limit_in_force-n.ensures, e) (walked_refused (λ z. omega (arith, number_positive c.in_err-walk.field-0.0, z)) c.in_err-walk.ensures)

pub returns-then-none_allocated : goal.returns-then-none_allocated
returns-then-none_allocated c = rw (← c.limit_in_force-n.ensures) (none_coherent (closed_walked refl c.in_ok-walk.ensures) c.if-none_allocated.true c.none_allocated.ensures)

pub returns-in_err-walk-2 : goal.returns-in_err-walk-2
returns-in_err-walk-2 c =
    let e : c.from_residual-in_err-walk-2.result ≡ Err c.in_err-walk-2.field-0.0 = search rules in
    rw (← c.limit_in_force-n.ensures, e) (not_within (closed_walked refl c.in_ok-walk.ensures) (λ z. omega (arith, number_positive c.in_err-walk-2.field-0.0, z)) c.in_err-walk-2.ensures)

pub threads_agree-requires-clause-program_in : goal.threads_agree-requires-clause-program_in
threads_agree-requires-clause-program_in c = program_in (closed_walked refl c.in_ok-walk.ensures)

pub returns-then-threads_agree : goal.returns-then-threads_agree
returns-then-threads_agree c = rw (← c.limit_in_force-n.ensures) (all_coherent (closed_walked refl c.in_ok-walk.ensures) refl c.in_ok-walk-2.ensures c.if-threads_agree.true c.threads_agree.ensures)

pub returns-else-threads_agree : goal.returns-else-threads_agree
returns-else-threads_agree c = rw (← c.limit_in_force-n.ensures) (not_equal (closed_walked refl c.in_ok-walk.ensures) c.if-threads_agree.false c.threads_agree.ensures)
