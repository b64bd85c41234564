-- What writing a program's text leaves.
use Rattle.std.specs.Prelude.{◌≡◌, List, ℕ, ◌≤◌, length}
use Rattle.std.proofs.lemmas.List.Edits.{sets}
use Rattle.calculus.specs.Tree.{program, Tree, nodes}
use Rattle.calculus.specs.Text.{text}
use Rattle.table.specs.Nodes.{Stands}

-- a program stands at the front of the table, with so many nodes
pub record CountedProgram (t : List ℕ) (count : ℕ) : Type 0 where
  pub program_there : Tree program
  pub stands : Stands t 0 program_there
  pub counts : nodes program_there ≡ count

-- how many bytes its text has
pub record TextLength (t : List ℕ) (r : ℕ) : Type 0 where
  pub is : (p : Tree program) → Stands t 0 p → r ≡ length (text p)

-- the program at the front and an output that holds its text
pub record RoomForText (t out : List ℕ) : Type 0 where
  pub program_there : Tree program
  pub stands : Stands t 0 program_there
  pub room : length (text program_there) ≤ length out

-- and a stack that has a cell for each of its nodes
pub record CellsForText (t stack : List ℕ) : Type 0 where
  pub enough : (p : Tree program) → Stands t 0 p → nodes p ≤ length stack

-- the text at the front of the output, the rest as it was
pub record TextWritten (t out after : List ℕ) : Type 0 where
  pub is : (p : Tree program) → Stands t 0 p → after ≡ sets out 0 (text p)
