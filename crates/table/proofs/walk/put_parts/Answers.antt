-- `table::walk::put_parts` meets its contract: the two writes are one lemma.
use mathlib.Core.Path.{◌∙◌}
use Rattle.table.proofs.Scans.{parts_put}
use Rattle.table.proofs.walk.put_parts.Goals as goal

pub returns : goal.returns
returns c = parts_put _ _ _ _ _ _ _ _ c.requires.le_top c.requires.top_in_bounds (c.cell.ensures ∙ c.last_part.ensures.part) c.cell-2.ensures c.parts.ensures
