-- `reading::parse::Parser::descend` meets its contract.
use mathlib.Core.Path.{refl, ap}
use native.Mathlib.Omega.{arith}
use lib.ListN.{length}
use Rattle.reading.proofs.Descents.{loop_again, same_again}
use Rattle.reading.proofs.parse.Parser.descend.Goals as goal

pub loop-self-smaller : goal.loop-self-smaller
loop-self-smaller c =
    let h = (c.in_ok-advance.ensures.advances.ahead _ _ _ refl).0 in
    let t = ap length c.advance.ensures.same.text in
    omega arith

pub loop-self-preserved : goal.loop-self-preserved
loop-self-preserved c =
    let l = c.loop-self.invariant in
    let s = c.advance.ensures.same in
    record { looping = loop_again l.looping (rw (l.same.limit, l.same.text) at c.in_ok-advance.ensures.advances) s.long_goals; same = same_again l.same s }
