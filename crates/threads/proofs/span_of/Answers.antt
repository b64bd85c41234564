-- `threads::span_of` meets its contract: what the check admits is one program, and so many nodes from a thread's place on as its column says are its part of the
-- table.
use native.Mathlib.Omega.{arith}
use Rattle.table.proofs.Trees.{in_table}
use Rattle.column.proofs.Admissions.{held_there}
use Rattle.threads.proofs.Places.{held_program, thread_refused, thread_missing, part_refused, thread_held, part_there}
use Rattle.threads.proofs.span_of.Goals as goal

pub returns-in_default : goal.returns-in_default
returns-in_default c = part_refused (thread_refused _ c.in_default.is c.check_with.ensures)

pub place_of-requires : goal.place_of-requires
place_of-requires c = held_program (held_there c.in-Ok.is c.check_with.ensures)

pub returns-in_default-place_of : goal.returns-in_default-place_of
returns-in_default-place_of c = part_refused (thread_missing (held_there c.in-Ok.is c.check_with.ensures) c.in_default-place_of.is c.place_of.ensures)

pub overflow_mul-result : goal.overflow_mul-result
overflow_mul-result c = omega (arith, in_table (thread_held c.in-Ok.is c.check_with.ensures c.in-Some.is c.place_of.ensures).there)

pub size_at-requires : goal.size_at-requires
size_at-requires c = (thread_held c.in-Ok.is c.check_with.ensures c.in-Some.is c.place_of.ensures).sized.0

pub returns : goal.returns
returns c = (part_there (thread_held c.in-Ok.is c.check_with.ensures c.in-Some.is c.place_of.ensures) c.size_at.ensures).span
