-- `first_end` meets its contract: the entry of the first thread, behind its alternative node, leads past it.
use Rattle.std.proofs.Common.{arith}
use Rattle.threads.proofs.Programs.{some_node, no_thread, second_size, end_bounds, first_ends}
use Rattle.threads.proofs.program.first_end.Goals as goal

pub node_at-requires : goal.node_at-requires
node_at-requires c = some_node _ _ c.requires

pub returns-then-is-clause-none : goal.returns-then-is-clause-none
returns-then-is-clause-none c = no_thread _ _ c.requires c.node_at.ensures c.if-is.ensures

pub size_at-requires : goal.size_at-requires
size_at-requires c = second_size _ _ c.requires c.node_at.ensures c.if-is.ensures

pub overflow_add-result : goal.overflow_add-result
overflow_add-result c = omega (arith, end_bounds _ _ c.requires c.node_at.ensures c.if-is.ensures c.size_at.ensures)

pub returns-clause-bounds : goal.returns-clause-bounds
returns-clause-bounds c = end_bounds _ _ c.requires c.node_at.ensures c.if-is.ensures c.size_at.ensures

pub returns-clause-some : goal.returns-clause-some
returns-clause-some c = first_ends _ _ c.requires c.node_at.ensures c.if-is.ensures c.size_at.ensures
