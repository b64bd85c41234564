-- `threads_agree` meets its contract. The invariant: the rest of the program stands at `at`, and what holds of its threads holds of all.
use native.Mathlib.Omega.{arith}
use borrow.Author.Tests.{not-true, not-false}
use Rattle.table.proofs.Coherence.{going_start, going_end, ThreadHere, thread_here, here_stands, here_bounds, here_thread, here_short, going_next, going_not}
use Rattle.table.proofs.closures.threads_agree.Goals as goal
use Rattle.table.proofs.closures.threads_agree.Goals.{Else-is}

-- a thread stands behind the node
at_thread : (c : Else-is) → ThreadHere c.args.limit c.args.t.now c.loop-limit.at
at_thread c = thread_here c.loop-limit.invariant.1 c.node_at.ensures c.if-is.ensures

pub loop-limit-init : goal.loop-limit-init
loop-limit-init c = (omega arith, going_start c.requires.program_in)

pub returns-then-is : goal.returns-then-is
returns-then-is c = going_end c.loop-limit.invariant.1 c.node_at.ensures c.if-is.ensures

pub end_of-end-requires : goal.end_of-end-requires
end_of-end-requires c =
    here_stands (at_thread (goal.at.end_of-end-requires c).Else-is)

pub overflow_mul-end : goal.overflow_mul-end
overflow_mul-end c =
    omega (arith, here_bounds (at_thread (goal.at.overflow_mul-end c).Else-is) c.end_of-end.ensures)

pub slice_bounds-bodies_agree-end : goal.slice_bounds-bodies_agree-end
slice_bounds-bodies_agree-end c =
    omega (arith, here_bounds (at_thread (goal.at.slice_bounds-bodies_agree-end c).Else-is) c.end_of-end.ensures)

pub bodies_agree-requires-clause-thread : goal.bodies_agree-requires-clause-thread
bodies_agree-requires-clause-thread c =
    let h = (at_thread (goal.at.bodies_agree-requires-clause-thread c).Else-is) in here_thread h c.end_of-end.ensures

pub bodies_agree-requires-clause-part_len_bound : goal.bodies_agree-requires-clause-part_len_bound
bodies_agree-requires-clause-part_len_bound c =
    let h = (at_thread (goal.at.bodies_agree-requires-clause-part_len_bound c).Else-is) in here_short h c.end_of-end.ensures (omega arith)

pub returns-then-not-bodies_agree : goal.returns-then-not-bodies_agree
returns-then-not-bodies_agree c =
    going_not (at_thread (goal.at.returns-then-not-bodies_agree c).Else-is) c.end_of-end.ensures c.bodies_agree.ensures (not-true _ c.if-not-bodies_agree.true-raw)

pub loop-limit-smaller : goal.loop-limit-smaller
loop-limit-smaller c =
    omega (arith, here_bounds (at_thread (goal.at.loop-limit-smaller c).Else-is) c.end_of-end.ensures)

pub loop-limit-preserved : goal.loop-limit-preserved
loop-limit-preserved c =
    (omega (arith, c.bodies_agree.auto.first), going_next (at_thread (goal.at.loop-limit-preserved c).Else-is) c.end_of-end.ensures c.bodies_agree.ensures (not-false _ c.if-not-bodies_agree.false-raw))
