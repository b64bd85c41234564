-- `table::walk::walk` meets its contract: what is left of the walk gives what the whole walk over the numbers gives, and that is what stands there.
use borrow.Author.Tests.{ltb-true, ltb-false, not-true, not-false}
use native.Mathlib.Omega.{arith}
use mathlib.Core.Path.{sym, ap, ◌∙◌}
use Prim.Native.Nat.{ℕ}
use Rattle.table.specs.Pending.{sort_of, may}
use Rattle.table.proofs.Scans.{ends_open, ends_closed, ends_early, ends_at, walk_on, too_many, flag_unset, flag_bound, flag_other, no_kind}
use Rattle.table.proofs.walk.walk.Goals as goal
use Rattle.table.proofs.walk.walk.Goals.{then-limit-count-via-then-limit-count, then-limit-count-via-else-limit-count+then-t-count, else-is-via-then-is+else-d-n, else-is-via-else-is, then-is+then-d-n, else-is}

pub returns-then-limit-count : goal.returns-then-limit-count
returns-then-limit-count c = too_many _ _ _ _ (elim c.then-limit-count.branch [ then-limit-count-via-then-limit-count w ↦ λ h g. omega arith | then-limit-count-via-else-limit-count+then-t-count w ↦ λ h g. omega (arith, ltb-true) ])

pub returns-then-top-end : goal.returns-then-top-end
returns-then-top-end c = ends_early c.loop-at.invariant (omega arith) (omega (arith, ltb-false)) c.loop-at-test.true c.if-top-end.true

pub returns-then-not-may_stand : goal.returns-then-not-may_stand
returns-then-not-may_stand c = ends_at c.loop-at.invariant (omega arith) (omega (arith, ltb-false)) c.loop-at-test.true (omega arith) c.of-wanted.ensures c.node_at-n.ensures (sym (not-true _ c.if-not-may_stand.true-raw) ∙ c.may_stand.ensures ∙ ap (λ (k : ℕ). may c.args.limit (sort_of c.of-wanted.result.sort) k c.node_at-n.result.number) c.in-Ok.ensures)

pub returns-in_default : goal.returns-in_default
returns-in_default c = ends_at c.loop-at.invariant (omega arith) (omega (arith, ltb-false)) c.loop-at-test.true (omega arith) c.of-wanted.ensures c.node_at-n.ensures (no_kind _ _ (sort_of c.of-wanted.result.sort) _ c.in_default.ensures.1)

pub loop-at-preserved : goal.loop-at-preserved
loop-at-preserved c = walk_on c.loop-at.invariant (omega arith) (omega (arith, ltb-false)) c.loop-at-test.true (omega arith) c.of-wanted.ensures c.node_at-n.ensures (sym (not-false _ c.if-not-may_stand.false-raw) ∙ c.may_stand.ensures ∙ ap (λ (k : ℕ). may c.args.limit (sort_of c.of-wanted.result.sort) k c.node_at-n.result.number) c.in-Ok.ensures) (rw c.in-Ok.ensures at c.put_parts-top.ensures) (c.put_parts-top.auto.pending ∙ c.loop-at.invariant.full) (elim c.if-is.branch [ then-is+then-d-n w ↦ flag_unset _ _ _ _ _ w.if-is.ensures w.if-d-n.true-raw w.bound-is | else-is w ↦ elim w.else-is.branch [ else-is-via-then-is+else-d-n u ↦ flag_bound _ _ _ _ _ u.if-is.ensures u.if-d-n.false-raw w.bound-is | else-is-via-else-is u ↦ flag_other _ _ _ _ _ u.if-is.ensures w.bound-is ] ])

pub returns-then-top-end-2 : goal.returns-then-top-end-2
returns-then-top-end-2 c = ends_open c.loop-at.invariant (omega arith) (omega (arith, ltb-false)) c.loop-at-test.false c.if-top-end-2.true

pub returns-then-bound : goal.returns-then-bound
returns-then-bound c = rw c.if-bound.true at (ends_closed c.loop-at.invariant (omega arith) (omega (arith, ltb-false)) c.loop-at-test.false c.if-top-end-2.false)

pub returns-else-bound : goal.returns-else-bound
returns-else-bound c = rw c.fault.ensures (rw c.if-bound.false at (ends_closed c.loop-at.invariant (omega arith) (omega (arith, ltb-false)) c.loop-at-test.false c.if-top-end-2.false))
