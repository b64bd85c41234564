-- `reading::parse::Parser::term` meets its contract.
use mathlib.Core.Path.{refl}
use Rattle.reading.proofs.Descents.{term_none, term_out, term_turn}
use Rattle.reading.proofs.Stacks.{room_there}
use Rattle.reading.proofs.parse.Parser.term.Goals as goal

pub returns-in_err-tag-clause-advances : goal.returns-in_err-tag-clause-advances
returns-in_err-tag-clause-advances c = rw c.from_residual.ensures (term_none c.in_err-tag.ensures)

pub returns-in_err-head-clause-advances : goal.returns-in_err-head-clause-advances
returns-in_err-head-clause-advances c = rw c.from_residual-in_err-head.ensures (term_out c.in_ok-tag.ensures.1 c.requires c.in_err-head.ensures.heads refl)

pub announced-self-requires : goal.announced-self-requires
announced-self-requires c =
    let h = c.head.ensures.stays in
    rw (h.ahead, h.goals) (room_there _ c.requires c.in_ok-tag.ensures.1)

pub returns-clause-advances : goal.returns-clause-advances
returns-clause-advances c =
    let h = c.head.ensures.stays in
    term_turn c.in_ok-tag.ensures.1 c.requires c.in_ok-head.ensures.heads refl (rw (h.ahead, h.goals) at c.announced-self.ensures) (rw h.goals at c.announced-self.auto.goals)
