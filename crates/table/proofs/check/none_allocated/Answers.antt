-- `table::check::none_allocated` meets its contract: the first nodes are a part of the table.
use Rattle.table.proofs.Allocated.{none_of_front}
use Rattle.table.proofs.check.none_allocated.Goals as goal

pub returns : goal.returns
returns c = none_of_front c.requires.count_in_bounds c.none_of.ensures
