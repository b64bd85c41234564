-- `csexp::Cursor::take` meets its contract. Assumes nothing.
use mathlib.Core.Path.{refl}
use native.Mathlib.Omega.{arith}
use Rattle.csexp.proofs.Atoms.{cut_end, took_byte, bad_first}
use Rattle.csexp.proofs.Closings.{takes_number}
use Rattle.csexp.specs.declared.Item.TheVariants.{Open, Close}
use Rattle.csexp.proofs.Cursor.take.Goals as goal

pub returns-then-s-at-clause-takes : goal.returns-then-s-at-clause-takes
returns-then-s-at-clause-takes c = cut_end _ _ (omega arith)

pub returns-then-s-at-clause-takes_number : goal.returns-then-s-at-clause-takes_number
returns-then-s-at-clause-takes_number c = takes_number _ (returns-then-s-at-clause-takes c)

pub returns-in-40-clause-takes : goal.returns-in-40-clause-takes
returns-in-40-clause-takes c = took_byte _ _ Open 40 refl refl (omega arith) c.in-40.is

pub returns-in-40-clause-takes_number : goal.returns-in-40-clause-takes_number
returns-in-40-clause-takes_number c = takes_number _ (returns-in-40-clause-takes c)

pub returns-in-41-clause-takes : goal.returns-in-41-clause-takes
returns-in-41-clause-takes c = took_byte _ _ Close 41 refl refl (omega arith) c.in-41.is

pub returns-in-41-clause-takes_number : goal.returns-in-41-clause-takes_number
returns-in-41-clause-takes_number c = takes_number _ (returns-in-41-clause-takes c)

pub returns-in-48-to-57-clause-takes_number : goal.returns-in-48-to-57-clause-takes_number
returns-in-48-to-57-clause-takes_number c = takes_number _ c.atom_at.ensures

pub returns-in_default-clause-takes : goal.returns-in_default-clause-takes
returns-in_default-clause-takes c = bad_first _ _ (omega arith) (record { no_opening = λ e. omega arith; no_closing = λ e. omega arith; no_digit = λ l u. omega arith })

pub returns-in_default-clause-takes_number : goal.returns-in_default-clause-takes_number
returns-in_default-clause-takes_number c = takes_number _ (returns-in_default-clause-takes c)

pub returns-in_default-2-clause-takes : goal.returns-in_default-2-clause-takes
returns-in_default-2-clause-takes c = bad_first _ _ (omega arith) (record { no_opening = λ e. omega arith; no_closing = λ e. omega arith; no_digit = λ l u. omega arith })

pub returns-in_default-2-clause-takes_number : goal.returns-in_default-2-clause-takes_number
returns-in_default-2-clause-takes_number c = takes_number _ (returns-in_default-2-clause-takes c)
