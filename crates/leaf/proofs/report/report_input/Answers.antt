-- `leaf::report::report_input` meets its contract: the report of what the buffer holds is that of the whole input, for the buffer is longer than the text limit.
use Rattle.leaf.proofs.Once.{whole_reported}
use Rattle.leaf.proofs.report.report_input.Goals as goal

pub returns : goal.returns
returns c = whole_reported c.requires.small_limit_in_bounds c.report.ensures
