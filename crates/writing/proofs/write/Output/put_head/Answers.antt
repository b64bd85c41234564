-- `writing::write::Output::put_head` meets its contract.
use Rattle.writing.proofs.Written.{tag_room, number_room, numbered_head, plain_head}
use Rattle.writing.proofs.write.Output.put_head.Goals as goal

pub put_tag-requires : goal.put_tag-requires
put_tag-requires c = search tag_room

pub put_number-requires : goal.put_number-requires
put_number-requires c = search number_room

pub returns-then-has_number : goal.returns-then-has_number
returns-then-has_number c = search numbered_head

pub returns-else-has_number : goal.returns-else-has_number
returns-else-has_number c = search plain_head
