-- `writing::store::write` meets its contract: the check of the table with its column refuses, or the length of the text decides.
use Rattle.std.proofs.Common.{rules, ◌≡◌, Err}
use mathlib.Core.Path.{refl}
use native.Mathlib.Omega.{arith}
use Rattle.calculus.specs.Sheets.{sheet}
use Rattle.table.proofs.Verdicts.{limit_in_force}
use Rattle.column.proofs.Admissions.{HeldIn, held_there}
use Rattle.writing.proofs.Stored.{write_refused, counted, write_no_room, write_room, write_cells, write_written}
use Rattle.writing.proofs.store.write.Goals.{In_ok-check_with}
use Rattle.writing.proofs.store.write.Goals as goal

-- the check admits a program
held : (c : In_ok-check_with) → HeldIn c.args.limit (sheet c.args.t.now c.args.column.now) c.args.count
held c = held_there {u = tt} refl (rw (limit_in_force _ _ c.requires.limit_bound c.requires.limit_in_bounds) at c.in_ok-check_with.ensures)

pub returns-in_err-check_with : goal.returns-in_err-check_with
returns-in_err-check_with c =
    let e : c.from_residual.result ≡ Err c.in_err-check_with.field-0.0 = search rules in
    rw e (write_refused refl (rw (limit_in_force _ _ c.requires.limit_bound c.requires.limit_in_bounds) at c.in_err-check_with.ensures))

pub text_length-n-requires-clause-counted_program : goal.text_length-n-requires-clause-counted_program
text_length-n-requires-clause-counted_program c = counted (held (goal.at.text_length-n-requires-clause-counted_program c).In_ok-check_with)

pub returns-then-out-n : goal.returns-then-out-n
returns-then-out-n c = write_no_room (held (goal.at.returns-then-out-n c).In_ok-check_with) c.text_length-n.ensures (omega arith)

pub put_text-requires-clause-room_for_text : goal.put_text-requires-clause-room_for_text
put_text-requires-clause-room_for_text c = write_room (held (goal.at.put_text-requires-clause-room_for_text c).In_ok-check_with) c.text_length-n.ensures (omega arith)

pub put_text-requires-clause-cells_for_text : goal.put_text-requires-clause-cells_for_text
put_text-requires-clause-cells_for_text c = write_cells (held (goal.at.put_text-requires-clause-cells_for_text c).In_ok-check_with) _ (omega arith)

pub returns : goal.returns
returns c = write_written (held (goal.at.returns c).In_ok-check_with) c.text_length-n.ensures (omega arith) c.put_text.ensures
