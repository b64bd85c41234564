-- `writing::write::node_bytes` meets its contract.
use Rattle.writing.proofs.Lengths.{plain_bytes, numbered_bytes, strange_bytes}
use Rattle.writing.proofs.write.node_bytes.Goals as goal

pub returns-in_default : goal.returns-in_default
returns-in_default c = strange_bytes _ _ c.in_default.ensures.1

pub returns-in_default-kind : goal.returns-in_default-kind
returns-in_default-kind c = search (numbered_bytes, c.in-Ok.ensures)

pub returns-in_default-2 : goal.returns-in_default-2
returns-in_default-2 c = search (plain_bytes, c.in-Ok.ensures)
