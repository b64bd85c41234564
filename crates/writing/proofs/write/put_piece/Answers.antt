-- `writing::write::put_piece` meets its contract.
use native.Mathlib.Omega.{arith}
use Rattle.writing.proofs.Pieces.{rest_inside, end_put, rest_cell, member_asked, member_put}
use Rattle.writing.proofs.write.put_piece.Goals as goal

pub node_at-n-requires : goal.node_at-n-requires
node_at-n-requires c = search rest_inside

pub overflow_add-next : goal.overflow_add-next
overflow_add-next c = omega (arith, rest_inside c.in-Rest.is c.requires)

pub returns-then-is : goal.returns-then-is
returns-then-is c = end_put c.in-Rest.is c.node_at-n.ensures c.if-is.ensures c.put-then-is.ensures

pub push-requires : goal.push-requires
push-requires c = rest_cell c.in-Rest.is c.node_at-n.ensures c.if-is.ensures c.requires

pub put_term-requires-in-Rest : goal.put_term-requires-in-Rest
put_term-requires-in-Rest c = member_asked c.in-Rest.is c.node_at-n.ensures c.if-is.ensures c.push.ensures c.requires

pub returns-else-is : goal.returns-else-is
returns-else-is c = member_put c.in-Rest.is c.node_at-n.ensures c.if-is.ensures c.push.ensures c.put_term-in-Rest.ensures
