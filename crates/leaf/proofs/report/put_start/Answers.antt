-- `leaf::report::put_start` meets its contract: the bracket, the reason, the steps.
use borrow.Author.Rules.{rules}
use Rattle.leaf.proofs.Reporting.{start_reason, start_number, start_wrote}
use Rattle.leaf.proofs.report.put_start.Goals as goal

pub put_reason-requires : goal.put_reason-requires
put_reason-requires c = search start_reason

pub put_number-requires : goal.put_number-requires
put_number-requires c = start_number _ _ c.requires c.put.ensures c.put_reason.ensures (search rules)

pub returns : goal.returns
returns c = search start_wrote
