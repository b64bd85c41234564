-- `reading::parse::Parser::member` meets its contract.
use Rattle.reading.proofs.Descents.{members_end, members_more}
use Rattle.reading.proofs.parse.Parser.member.Goals as goal

pub returns-in-Some-clause-advances : goal.returns-in-Some-clause-advances
returns-in-Some-clause-advances c =
    let h = c.put.ensures.stays in
    rw (c.put.ensures.cursor, h.ahead, h.goals) (members_end c.requires.before_goal c.requires.tops c.in-Some.ensures c.put.ensures.noted)

pub returns-clause-advances : goal.returns-clause-advances
returns-clause-advances c =
    let h = c.put-2.ensures.stays in
    members_more c.requires.before_goal c.requires.tops c.in_default.ensures c.put-2.ensures.noted (rw (h.same.limit, h.same.text, h.ahead, h.goals, c.put-2.ensures.cursor) at c.term.ensures.advances)
