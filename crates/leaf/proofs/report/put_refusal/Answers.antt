-- `leaf::report::put_refusal` meets its contract: the atom, the number, the bracket.
use Rattle.leaf.proofs.Reporting.{refusal_number, refusal_closing, refusal_wrote}
use Rattle.leaf.proofs.report.put_refusal.Goals as goal

pub put_number-requires : goal.put_number-requires
put_number-requires c = search refusal_number

pub put-requires : goal.put-requires
put-requires c = search refusal_closing

pub returns : goal.returns
returns c = search refusal_wrote
