-- `writing::write::put_text` meets its contract. The loop's invariant: what the pieces on the stack make of the output is the whole text. The measure: what is left of the output.
use mathlib.Core.Path.{refl, ◌∙◌}
use borrow.Author.Rules.{rules}
use native.Mathlib.Omega.{arith}
use Rattle.writing.specs.Writing.{TextWritten}
use Rattle.writing.proofs.Pieces.{opening_room, first_cell, text_start, top_within, top_asked, text_next, text_put}
use Rattle.writing.proofs.write.put_text.Goals as goal

pub put-requires : goal.put-requires
put-requires c = opening_room refl c.requires.room_for_text

pub push-requires : goal.push-requires
push-requires c = search first_cell

pub loop-piece-init : goal.loop-piece-init
loop-piece-init c = text_start refl c.requires.room_for_text c.requires.cells_for_text c.put.ensures c.push.ensures

pub pop-requires : goal.pop-requires
pop-requires c = top_within c.loop-piece.invariant

pub put_piece-node-requires : goal.put_piece-node-requires
put_piece-node-requires c = top_asked c.loop-piece.invariant c.in-Some.ensures.some

pub loop-piece-preserved : goal.loop-piece-preserved
loop-piece-preserved c = text_next c.loop-piece.invariant c.in-Some.ensures.some c.put_piece-node.ensures

pub loop-piece-smaller : goal.loop-piece-smaller
loop-piece-smaller c = let h = loop-piece-preserved c in omega (arith, h.left.to_come.room.fits, c.put_piece-node.ensures.later, c.put_piece-node.ensures.same_length)

pub returns : goal.returns
returns c =
    let same = c.loop-piece.invariant.same ∙ c.put.ensures.same in
    let h : TextWritten c.args.t.now c.args.out.now c.loop-piece.out.bytes.now = text_put c.loop-piece.invariant refl c.put.ensures (omega (arith, c.in_default.ensures.none)) in
    search (rules, same, h)
