-- `threads::place_of` meets its contract: where no thread is left, there is none of the number.
use mathlib.Core.Path.{sym}
use native.Mathlib.Omega.{arith}
use Rattle.threads.proofs.PlaceOfFacts.{none_left, sized, placed}
use Rattle.threads.proofs.place_of.Goals as goal

pub returns-in_err-start : goal.returns-in_err-start
returns-in_err-start c = rw c.from_residual.ensures (none_left c.loop.invariant (sym c.in_err-start.ensures) (omega arith))

pub size_at-requires : goal.size_at-requires
size_at-requires c = sized c.loop.invariant (sym c.in_ok-start.ensures)

pub returns-in_default : goal.returns-in_default
returns-in_default c = none_left c.loop.invariant (sym c.in_default.ensures) (omega arith)

pub returns : goal.returns
returns c = placed c.loop.invariant (omega arith) c.in-Some.ensures
