-- `writing::write::digits` meets its contract.
use native.Mathlib.Omega.{arith}
use Rattle.writing.proofs.Lengths.{count_one, count_more}
use Rattle.writing.proofs.write.digits.Goals as goal

pub returns-in-0-to-9 : goal.returns-in-0-to-9
returns-in-0-to-9 c = count_one _ (omega arith)

pub returns-in-10-to-99 : goal.returns-in-10-to-99
returns-in-10-to-99 c = count_more 1 _ (omega arith) (omega arith) (omega arith)

pub returns-in-100-to-999 : goal.returns-in-100-to-999
returns-in-100-to-999 c = count_more 2 _ (omega arith) (omega arith) (omega arith)

pub returns-in-1000-to-9999 : goal.returns-in-1000-to-9999
returns-in-1000-to-9999 c = count_more 3 _ (omega arith) (omega arith) (omega arith)

pub returns-in_default : goal.returns-in_default
returns-in_default c = count_more 4 _ (omega arith) (omega arith) (omega arith)
