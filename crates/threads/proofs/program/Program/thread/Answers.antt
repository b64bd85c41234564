-- `Program::thread` meets its contract: where the program ends before it, there are not so many threads.
use Rattle.threads.proofs.Programs.{none_there, no_more, next_there}
use Rattle.threads.proofs.program.Program.thread.Goals as goal

pub returns-in_err-thread-clause-none : goal.returns-in_err-thread-clause-none
returns-in_err-thread-clause-none c = rw c.from_residual.ensures (none_there _ _ c.in_err-thread.ensures.none)

pub returns-in_err-thread-2-clause-none : goal.returns-in_err-thread-2-clause-none
returns-in_err-thread-2-clause-none c = rw c.from_residual-in_err-thread-2.ensures (no_more _ _ _ _ _ c.loop.invariant c.in_err-thread-2.ensures.none c.loop-test.true)

pub loop-preserved : goal.loop-preserved
loop-preserved c = next_there _ _ _ _ _ _ c.loop.invariant c.in_ok-thread-2.ensures.some
