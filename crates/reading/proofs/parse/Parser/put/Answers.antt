-- `reading::parse::Parser::put` meets its contract.
use mathlib.Core.Path.{refl}
use native.Mathlib.Omega.{arith}
use Rattle.reading.proofs.Descents.{node_stored, node_counted}
use Rattle.reading.proofs.parse.Parser.put.Goals as goal
use Rattle.reading.proofs.parse.Parser.put.Goals.{then-self, else-self}

pub returns-clause-noted : goal.returns-clause-noted
returns-clause-noted c = elim c.if-self.branch [ then-self w ↦ rw (w.self-is, ← w.code.ensures) (node_stored w.put_node.ensures) | else-self w ↦ rw w.self-is (node_counted refl (omega arith)) ]
