-- `checked` meets its contract: what the check admits is a program at the front of the table, with its column.
use Rattle.column.proofs.Admissions.{held_there}
use Rattle.threads.proofs.Programs.{held_lies, held_good}
use Rattle.threads.proofs.program.checked.Goals as goal

pub invariant_of-result : goal.invariant_of-result
invariant_of-result c = (held_lies (held_there c.in_ok-check_with.was c.check_with.ensures), tt)

pub returns-clause-good : goal.returns-clause-good
returns-clause-good c = held_good (held_there c.in_ok-check_with.was c.check_with.ensures) c.result-1.given.0
