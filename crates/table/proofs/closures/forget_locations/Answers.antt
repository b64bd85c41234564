-- `forget_locations` meets its contract. The invariant: 0 stands at each location of the nodes passed.
use native.Mathlib.Omega.{arith}
use Rattle.table.proofs.Positions.{numbered_node}
use Rattle.table.proofs.Allocated.{met_here, met_in_range}
use Rattle.table.proofs.Bodies.{forgotten_pass, forgotten_put}
use Rattle.table.proofs.closures.forget_locations.Goals as goal
use Rattle.table.proofs.closures.forget_locations.Goals.{then-is, else-is}

pub keep_first-requires-clause-l_in_bounds : goal.keep_first-requires-clause-l_in_bounds
keep_first-requires-clause-l_in_bounds c =
    omega (arith, c.loop-i.invariant.same_size, met_in_range c.requires.thread (omega arith) (met_here _ c.node_at-n.ensures c.if-is.ensures c.loop-i-test.true))

pub loop-i-preserved : goal.loop-i-preserved
loop-i-preserved c = elim c.if-is.branch [
  | then-is w ↦ rw (w.first-is, w.keep_first.ensures) (forgotten_put (c.node_at-n.ensures) (c.loop-i.invariant) (omega (arith, c.loop-i.invariant.same_size, met_in_range c.requires.thread (omega arith) (met_here _ c.node_at-n.ensures w.if-is.ensures c.loop-i-test.true))))
  | else-is w ↦ rw w.first-is (forgotten_pass c.node_at-n.ensures c.loop-i.invariant w.if-is.ensures)
]

pub returns : goal.returns
returns c = λ l h. c.loop-i.invariant.zero_there l (numbered_node 6 _ l _ (omega arith) h)
