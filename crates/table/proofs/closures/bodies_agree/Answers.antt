-- `bodies_agree` meets its contract. The invariant: the entries are right for the nodes passed.
use mathlib.Core.Path.{◌≡◌, refl}
use Prim.Native.Nat.{◌/◌}
use native.Mathlib.Omega.{arith}
use lib.ListN.{length}
use borrow.Author.Tests.{not-true, not-false}
use Rattle.table.proofs.Positions.{node_numbered}
use Rattle.table.proofs.Bodies.{firsts_none, firsts_pass, firsts_agree, AtBody, at_body, first_before, firsts_first, firsts_again, bodies_stand, firsts_differ}
use Rattle.table.proofs.closures.bodies_agree.Goals as goal
use Rattle.table.proofs.closures.bodies_agree.Goals.{Then-is, then-is+in-None, then-is+in-Some+else-not-same_bodies, else-is}

-- the node is that of an allocated abstraction, and what is kept for its location is right
at_six : (c : Then-is) → AtBody c.args.limit c.args.part.now (length c.args.part.now / 2) c.loop-i.i c.node_at-n.result.number c.forget_locations.new.first c.loop-i.first
at_six c = let k = c.forget_locations.auto.first in let z = c.loop-i.invariant.same_size in at_body c.requires.thread (omega arith) c.loop-i-test.true c.node_at-n.ensures c.if-is.ensures (omega arith) c.loop-i.invariant

pub loop-i-init : goal.loop-i-init
loop-i-init c = firsts_none _ (λ l m. c.forget_locations.ensures l (node_numbered (omega arith) m))

pub first_of-requires : goal.first_of-requires
first_of-requires c =
    (at_six (goal.at.first_of-requires c).Then-is).room

pub keep_first-requires-clause-l_in_bounds : goal.keep_first-requires-clause-l_in_bounds
keep_first-requires-clause-l_in_bounds c =
    (at_six (goal.at.keep_first-requires-clause-l_in_bounds c).Then-is).room

pub overflow_mul-f : goal.overflow_mul-f
overflow_mul-f c =
    omega (arith, first_before (at_six (goal.at.overflow_mul-f c).Then-is) c.in-Some.ensures.some.0)

pub offset_bounds-part-f : goal.offset_bounds-part-f
offset_bounds-part-f c =
    omega (arith, first_before (at_six (goal.at.offset_bounds-part-f c).Then-is) c.in-Some.ensures.some.0)

pub slice_bounds-same_bodies-count : goal.slice_bounds-same_bodies-count
slice_bounds-same_bodies-count c =
    omega (arith, first_before (at_six (goal.at.slice_bounds-same_bodies-count c).Then-is) c.in-Some.ensures.some.0)

pub slice_bounds-same_bodies-start : goal.slice_bounds-same_bodies-start
slice_bounds-same_bodies-start c =
    omega (arith, first_before (at_six (goal.at.slice_bounds-same_bodies-start c).Then-is) c.in-Some.ensures.some.0)

pub same_bodies-requires-clause-some_tree : goal.same_bodies-requires-clause-some_tree
same_bodies-requires-clause-some_tree c =
    (bodies_stand (at_six (goal.at.same_bodies-requires-clause-some_tree c).Then-is) c.in-Some.ensures.some.0 c.in-Some.ensures.some.1).0

pub same_bodies-requires-clause-some_tree_2 : goal.same_bodies-requires-clause-some_tree_2
same_bodies-requires-clause-some_tree_2 c =
    (bodies_stand (at_six (goal.at.same_bodies-requires-clause-some_tree_2 c).Then-is) c.in-Some.ensures.some.0 c.in-Some.ensures.some.1).1

pub returns-then-not-same_bodies : goal.returns-then-not-same_bodies
returns-then-not-same_bodies c =
    firsts_differ (at_six (goal.at.returns-then-not-same_bodies c).Then-is) c.in-Some.ensures.some.0 c.in-Some.ensures.some.1 c.same_bodies.ensures (not-true _ c.if-not-same_bodies.true-raw)

pub loop-i-preserved : goal.loop-i-preserved
loop-i-preserved c =
    let k = c.forget_locations.auto.first in
    let z = c.loop-i.invariant.same_size in
    let here = λ (e : c.node_at-n.result.kind ≡ 6). at_body c.requires.thread (omega arith) c.loop-i-test.true c.node_at-n.ensures e (omega arith) c.loop-i.invariant in
    elim c.if-is.branch [ then-is+in-None w ↦ rw (w.first-is, w.keep_first.ensures) (firsts_first (here w.if-is.ensures) refl w.in-None.ensures.none) | then-is+in-Some+else-not-same_bodies w ↦ rw w.first-is (firsts_again (here w.if-is.ensures) w.in-Some.ensures.some.0 w.in-Some.ensures.some.1 w.same_bodies.ensures (not-false _ w.if-not-same_bodies.false-raw)) | else-is w ↦ rw w.first-is (firsts_pass c.node_at-n.ensures w.if-is.ensures c.loop-i.invariant) ]

pub returns : goal.returns
returns c = firsts_agree c.requires.thread refl (omega arith) c.loop-i.invariant
