-- What the bytes of a report are, piece by piece, and how many.
use mathlib.Core.Path.{◌≡◌, ap}
use mathlib.Core.List.{List, [], ◌∷◌, ◌++◌, append_assoc, append-nil}
use Prim.Native.Nat.{ℕ, ◌≤◌, ◌<◌}
use native.Mathlib.Omega.{arith}
use lib.ListN.{length}
use Rattle.calculus.specs.declared.Reason.{Reason}
use Rattle.calculus.specs.declared.Reason.TheVariants.{Ended, Steps, Room}
use Rattle.calculus.specs.declared.Refusal.{Refusal}
use Rattle.calculus.specs.Tree.{term, Tree, program_of}
use Rattle.calculus.specs.Run.{End}
use Rattle.calculus.specs.Sexp.{decimal, digits, bytes}
use Rattle.calculus.specs.Text.{text, raw_text}
use Rattle.calculus.specs.Answers.{number}
use Rattle.calculus.specs.Known.{ascii}
use Rattle.calculus.specs.Report.{report, refusal_report, refused_bytes}
use Rattle.calculus.proofs.Decimals.{decimal_length}
use Rattle.writing.specs.Writer.{numeral}
use Rattle.writing.proofs.Written.{numeral_is}
use Rattle.leaf.specs.Written.{reason_atom, start_bytes}

-- a count of 16 bits takes at most 7 bytes
pub numeral_length : (n : ℕ) → n < 65536 → length (numeral n) ≤ 7
numeral_length n h = omega (arith, ap length (numeral_is n h), decimal_length 5 n (omega arith) (omega arith))

-- and so does a reason
pub reason_length : (r : Reason) → length (reason_atom r) ≤ 7
unfolding reason_atom bytes decimal digits
reason_length Ended = omega arith
reason_length Steps = omega arith
reason_length Room = omega arith

-- a bracket and the atom `refused`
abbrev pub refused_head : List ℕ
refused_head = 40 ∷ 55 ∷ 58 ∷ refused_bytes

-- a refusal's report: the atom, its number
pub refusal_is : (r : Refusal) → refusal_report r ≡ refused_head ++ (numeral (number r) ++ (41 ∷ []))
unfolding refusal_report bytes decimal digits numeral
refusal_is r = simp (append_assoc, append-nil)

three : (a b c : List ℕ) → 40 ∷ (a ++ (b ++ (c ++ []))) ++ (41 ∷ []) ≡ ((40 ∷ []) ++ (a ++ b)) ++ (c ++ (41 ∷ []))
three a b c = simp (append_assoc, append-nil)

-- a run's report: its reason, its steps, the text of its end program
pub report_is : (e : End (List (Tree term))) → report e ≡ start_bytes e.reason e.taken ++ (text (program_of e.last) ++ (41 ∷ []))
unfolding report bytes numeral text raw_text reason_atom
report_is e = three (reason_atom e.reason) (numeral e.taken) (text (program_of e.last))

-- a run that stopped for want of room after its first step
pub room_report : (ts : List (Tree term)) → report (record { reason = Room; taken = 1; last = ts }) ≡ ascii "(4:room1:1" ++ (text (program_of ts) ++ ascii ")")
unfolding ascii reason_atom numeral bytes decimal digits
room_report ts = report_is (record { reason = Room; taken = 1; last = ts })

-- a run that ended after three steps
pub three_steps_report : (ts : List (Tree term)) → report (record { reason = Ended; taken = 3; last = ts }) ≡ ascii "(5:ended1:3" ++ (text (program_of ts) ++ ascii ")")
unfolding ascii reason_atom numeral bytes decimal digits
three_steps_report ts = report_is (record { reason = Ended; taken = 3; last = ts })
