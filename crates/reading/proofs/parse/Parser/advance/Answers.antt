-- `reading::parse::Parser::advance` meets its contract.
use Rattle.std.specs.Prelude.{Some, None}
use Rattle.reading.proofs.Descents.{next_open, next_close, next_end_close}
use Rattle.reading.proofs.parse.Parser.advance.Goals as goal
use Rattle.reading.proofs.parse.Parser.advance.Goals.{in-Open+in_ok-self-in-Open, in-Close+in_ok-self-in-Close, in-CloseBinder+in_ok-self-in-CloseBinder}

pub returns-in_err-self-in-CloseBinder-clause-advances : goal.returns-in_err-self-in-CloseBinder-clause-advances
returns-in_err-self-in-CloseBinder-clause-advances c = rw c.from_residual-in_err-self-in-CloseBinder.ensures (next_end_close c.requires.before_goal None c.requires.top_in_bounds c.in-CloseBinder.ensures c.in_err-self-in-CloseBinder.ensures)

pub returns-clause-advances : goal.returns-clause-advances
returns-clause-advances c =
    elim c.match-of.branch [ in-Open+in_ok-self-in-Open w ↦ rw w.self-is (next_open c.requires.before_goal (Some _) (record { on = c.requires.top_in_bounds; is = w.in-Open.ensures }) w.in_ok-self-in-Open.ensures) | in-Close+in_ok-self-in-Close w ↦ rw w.self-is (next_close c.requires.before_goal (Some _) (record { on = c.requires.top_in_bounds; is = w.in-Close.ensures }) w.in_ok-self-in-Close.ensures) | in-CloseBinder+in_ok-self-in-CloseBinder w ↦ rw w.self-is (next_end_close c.requires.before_goal (Some _) c.requires.top_in_bounds w.in-CloseBinder.ensures w.in_ok-self-in-CloseBinder.ensures) ]
