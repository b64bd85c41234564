-- `operator::read` meets its contract: what the library's read accepts is accepted where it holds no closure, and what that refuses is turned away.
use mathlib.Core.Path.{ap}
use Rattle.calculus.specs.Answers.{Values, counted_values}
use Rattle.operator.proofs.Reading.{none_read, one_turned, refusal_turned}
use Rattle.operator.proofs.read.Goals as goal

pub returns-in-Ok : goal.returns-in-Ok
returns-in-Ok c = none_read c.read.ensures (ap counted_values c.in-Ok.is) c.none_allocated.ensures c.if-none_allocated.true

pub returns-in-Ok-2 : goal.returns-in-Ok-2
returns-in-Ok-2 c = one_turned c.read.ensures (ap counted_values c.in-Ok.is) c.none_allocated.ensures c.if-none_allocated.false

pub returns-in-Err : goal.returns-in-Err
returns-in-Err c = refusal_turned c.read.ensures c.in-Err.refusal _ (ap (λ (v : Values). v.refusal) (ap counted_values c.in-Err.is)) c.requires c.turned_away.ensures
