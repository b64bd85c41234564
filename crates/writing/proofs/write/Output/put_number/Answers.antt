-- `writing::write::Output::put_number` meets its contract. The loop's invariant: what the digits that are left make of the output is the whole decimal.
use native.Mathlib.Omega.{arith}
use Rattle.writing.proofs.Written.{length_room, colon_room, digits_start, digits_next, number_wrote}
use Rattle.writing.proofs.write.Output.put_number.Goals as goal

pub put-requires : goal.put-requires
put-requires c = search length_room

pub put-requires-2 : goal.put-requires-2
put-requires-2 c = search colon_room

pub loop-i-init : goal.loop-i-init
loop-i-init c = search digits_start

pub loop-i-preserved : goal.loop-i-preserved
loop-i-preserved c = digits_next c.loop-i.invariant c.loop-i-test.true

pub returns : goal.returns
returns c = number_wrote (omega arith) c.digits-d.ensures c.put.ensures c.put-2.ensures c.loop-i.invariant c.loop-i-test.false
