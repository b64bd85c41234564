-- `writing::write::text_length` meets its contract. The loop's invariant: what is counted and the bytes of the nodes that are left make those of the whole table.
use Rattle.writing.proofs.Lengths.{counting_start, counting_next, counting_end}
use Rattle.writing.proofs.write.text_length.Goals as goal

pub loop-at-init : goal.loop-at-init
loop-at-init c = search counting_start

pub loop-at-preserved : goal.loop-at-preserved
loop-at-preserved c = search counting_next

pub returns : goal.returns
returns c = search counting_end
