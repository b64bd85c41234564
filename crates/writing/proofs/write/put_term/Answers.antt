-- `writing::write::put_term` meets its contract.
use native.Mathlib.Omega.{arith}
use Rattle.writing.proofs.Pieces.{term_inside, kind_there, head_asked, bracket_room, close_cell, part_cell, second_cell, leaf_put, body_put, fresh_put, pair_put}
use Rattle.writing.proofs.write.put_term.Goals as goal

pub node_at-n-requires : goal.node_at-n-requires
node_at-n-requires c = search term_inside

pub overflow_add-node : goal.overflow_add-node
overflow_add-node c = omega (arith, term_inside)

pub returns-in_default : goal.returns-in_default
returns-in_default c = absurd (omega (arith, kind_there c.node_at-n.ensures c.requires, c.in_default.ensures.1))

pub put_head-requires : goal.put_head-requires
put_head-requires c = search (head_asked, c.in-Ok.ensures)

pub put-requires : goal.put-requires
put-requires c = search (bracket_room, c.in-Ok.ensures)

pub returns-then-parts-eq0 : goal.returns-then-parts-eq0
returns-then-parts-eq0 c = search (leaf_put, c.in-Ok.ensures)

pub push-requires : goal.push-requires
push-requires c = search close_cell

pub put-requires-in-Abstraction : goal.put-requires-in-Abstraction
put-requires-in-Abstraction c = search (bracket_room, c.in-Ok.ensures)

pub push-requires-in-Abstraction : goal.push-requires-in-Abstraction
push-requires-in-Abstraction c = search (part_cell, c.in-Ok.ensures)

pub returns-in-Abstraction : goal.returns-in-Abstraction
returns-in-Abstraction c = search (body_put, c.in-Ok.ensures)

pub push-requires-in-Fresh : goal.push-requires-in-Fresh
push-requires-in-Fresh c = search (part_cell, c.in-Ok.ensures)

pub returns-in-Fresh : goal.returns-in-Fresh
returns-in-Fresh c = search (fresh_put, c.in-Ok.ensures)

pub push-requires-in_default-kind : goal.push-requires-in_default-kind
push-requires-in_default-kind c = search (part_cell, c.in-Ok.ensures)

pub push-requires-in_default-kind-2 : goal.push-requires-in_default-kind-2
push-requires-in_default-kind-2 c = search (second_cell, c.in-Ok.ensures)

pub returns-in_default-kind : goal.returns-in_default-kind
returns-in_default-kind c = search (pair_put, c.in-Ok.ensures)
