-- What the program's own functions ask for and leave: what they write stands at the front of the output.
use Rattle.std.specs.Prelude.{◌≡◌, List, [], ◌∷◌, ◌++◌, ℕ, ◌*◌, ◌≤◌, length}
use Rattle.calculus.specs.declared.Reason.{Reason}
use Rattle.calculus.specs.Tree.{term, program, Tree, threads, program_of}
use Rattle.calculus.specs.Good.{Good}
use Rattle.calculus.specs.Sheets.{Sheet}
use Rattle.calculus.specs.Run.{run}
use Rattle.calculus.specs.Sexp.{atom, bytes}
use Rattle.calculus.specs.Answers.{reason_bytes}
use Rattle.calculus.specs.Calls.{TableOf}
use Rattle.calculus.specs.Report.{report}
use Rattle.writing.specs.declared.write.Output.{Output}
use Rattle.writing.specs.Writer.{numeral, Wrote}
use Rattle.leaf.specs.Reported.{longest}
use Rattle.promises.specs.Worked.{Held}

-- the atom of a reason
unfoldable pub reason_atom : Reason → List ℕ
unfolding bytes
reason_atom r = bytes (atom (reason_bytes r))

-- what a run's report begins with: bracket, reason, steps
abbrev pub start_bytes : Reason → ℕ → List ℕ
start_bytes r k = (40 ∷ []) ++ (reason_atom r ++ numeral k)

-- nothing is written, and there is room for the longest report
pub record Blank (out : Output) : Type 0 where
  pub none : out.at ≡ 0
  pub room : longest ≤ length out.bytes.now

-- a program that document 01 admits stands in the table, and its column beside it
pub record HoldsGood (n : ℕ) (table : Sheet) (count : ℕ) : Type 0 where
  pub program_there : Tree program
  pub held : Held n table count program_there
  pub good : Good n program_there

-- in a table and a column of n nodes
pub record Loaded (n : ℕ) (table : Sheet) (count : ℕ) : Type 0 where
  pub good_there : HoldsGood n table count
  pub wide : length table.numbers ≡ 2 * n
  pub long : length table.sizes ≡ n

-- the report of an end: its reason, its steps, the program in the table
pub record EndWritten (n : ℕ) (reason : Reason) (steps : ℕ) (table : List ℕ) (count : ℕ) (out after : Output) : Type 0 where
  pub same : after.bytes.ghost_name ≡ out.bytes.ghost_name
  pub fits : after.at ≤ length out.bytes.now
  pub wrote : (ts : List (Tree term)) → TableOf n table count (program_of ts) → Wrote out after (report (record { reason = reason; taken = steps; last = ts }))

-- the report of the run, with the step limit k, of the program in the table
pub record RunWritten (n k : ℕ) (table : List ℕ) (count : ℕ) (out after : Output) : Type 0 where
  pub same : after.bytes.ghost_name ≡ out.bytes.ghost_name
  pub fits : after.at ≤ length out.bytes.now
  pub wrote : (p : Tree program) → TableOf n table count p → Wrote out after (report (run n k (threads p)))
