-- `leaf::report::put_reason` meets its contract: each reason has its own bytes.
use mathlib.Core.Path.{refl}
use Rattle.calculus.specs.Sexp.{digits, decimal, bytes}
use Rattle.leaf.specs.Written.{reason_atom}
use Rattle.leaf.proofs.Reporting.{reason_room, reason_wrote}
use Rattle.leaf.proofs.report.put_reason.Goals as goal

pub put_all-requires : goal.put_all-requires
unfolding reason_atom bytes decimal digits
put_all-requires c = reason_room c.in-Ended.is refl c.requires

pub put_all-requires-in-Steps : goal.put_all-requires-in-Steps
unfolding reason_atom bytes decimal digits
put_all-requires-in-Steps c = reason_room c.in-Steps.is refl c.requires

pub put_all-requires-in-Room : goal.put_all-requires-in-Room
unfolding reason_atom bytes decimal digits
put_all-requires-in-Room c = reason_room c.in-Room.is refl c.requires

pub returns-in-Ended : goal.returns-in-Ended
unfolding reason_atom bytes decimal digits
returns-in-Ended c = reason_wrote c.in-Ended.is refl c.put_all.ensures

pub returns-in-Steps : goal.returns-in-Steps
unfolding reason_atom bytes decimal digits
returns-in-Steps c = reason_wrote c.in-Steps.is refl c.put_all-in-Steps.ensures

pub returns-in-Room : goal.returns-in-Room
unfolding reason_atom bytes decimal digits
returns-in-Room c = reason_wrote c.in-Room.is refl c.put_all-in-Room.ensures
