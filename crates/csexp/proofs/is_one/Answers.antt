-- `csexp::is_one` meets its contract. The loop's invariant: what follows, with so many brackets open, decides whether the text is one expression. The measure is what is left of the text. Assumes nothing.
use Rattle.csexp.proofs.Closings.{Passed, stage_again, stage_end, item_taken, none_taken, not_item, not_closing, pass_open, pass_close, pass_atom}
use Rattle.csexp.proofs.is_one.Goals as goal
use Rattle.csexp.proofs.is_one.Goals.{in-Open, in-Close-2, in-Atom}

pub returns-in-Close : goal.returns-in-Close
returns-in-Close c = not_closing c.loop-item.invariant (item_taken c.take.ensures.takes _ _ c.in-Ok.is) c.in-Close.is c.if-depth-eq0.true

pub returns-then-depth-eq0-2 : goal.returns-then-depth-eq0-2
returns-then-depth-eq0-2 c =
    let stage = c.loop-item.invariant in
    let taken = item_taken c.take.ensures.takes _ _ c.in-Ok.is in
    let passed : Passed c.args.s.now c.loop-item.c.at c.in-Ok.next.at c.match-item.depth = (elim c.match-item.branch [ in-Open w ↦ pass_open stage taken _ w.in-Open.is w.depth-is | in-Close-2 w ↦ pass_close stage taken _ w.in-Close-2.is w.if-depth-eq0.false w.depth-is | in-Atom w ↦ pass_atom stage taken _ _ _ w.in-Atom.is w.depth-is ]) in
    stage_end passed c.if-depth-eq0-2.true

pub loop-item-preserved : goal.loop-item-preserved
loop-item-preserved c =
    let stage = c.loop-item.invariant in
    let taken = item_taken c.take.ensures.takes _ _ c.in-Ok.is in
    let passed : Passed c.args.s.now c.loop-item.c.at c.in-Ok.next.at c.match-item.depth = (elim c.match-item.branch [ in-Open w ↦ pass_open stage taken _ w.in-Open.is w.depth-is | in-Close-2 w ↦ pass_close stage taken _ w.in-Close-2.is w.if-depth-eq0.false w.depth-is | in-Atom w ↦ pass_atom stage taken _ _ _ w.in-Atom.is w.depth-is ]) in
    stage_again passed c.if-depth-eq0-2.false

pub returns : goal.returns
returns c = not_item c.loop-item.invariant (none_taken c.in_default.ensures.takes)
