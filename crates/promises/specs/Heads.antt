-- Demand 3 over the run's contract, on numbers alone: with further alternatives put behind, as many steps and room for them, a finished alternative is never revised.
use Rattle.std.specs.Prelude.{◌≡◌, ◌⊎◌, List, [], ◌∷◌, ℕ, ◌+◌, ◌*◌, ◌-◌, ◌≤◌, get_or, take}
use Rattle.calculus.specs.Tree.{term, program, Tree, threads}
use Rattle.calculus.specs.Sheets.{Sheet}
use Rattle.calculus.specs.Run.{size, room_of, finished_head}
use Rattle.calculus.specs.Answers.{Values}
use Rattle.calculus.specs.Calls.{TableOf, RunsWith}
use Rattle.promises.specs.Worked.{HasRun}

-- the node count that an accepted run tells, the second of its values
abbrev pub size_told : Values → ℕ
size_told v = get_or v.values 1 0

-- An accepted run with the node limit n: what was lent and asked, what it told, what it left in the table and in the work table, each with its column.
pub record Run (n : ℕ) : Type 0 where
  pub table : Sheet
  pub count : ℕ
  pub work : Sheet
  pub limit : ℕ
  pub told : Values
  pub left : Sheet
  pub cleared : Sheet
  pub runs : RunsWith n table count work limit told left cleared
  pub accepted : told.refusal ≡ 0

-- The run b has the alternatives of a and further ones behind them: its table begins with a's numbers but for the last node, the empty program. It has at least as
-- many steps, and room for the further nodes, each room read from both tables and both columns.
pub record Further (n : ℕ) (a b : Run n) : Type 0 where
  pub nodes : a.count ≤ b.count
  pub begins : take (2 * (a.count - 1)) b.table.numbers ≡ take (2 * (a.count - 1)) a.table.numbers
  pub steps : a.limit ≤ b.limit
  pub room : room_of n a.table a.work + (b.count - a.count) ≤ room_of n b.table b.work

-- The numbers of the threads ts, without the last node, begin what a left and what b left. This is said of the tables and not of their columns: an alternative node's
-- entry counts what stands behind it too. `(c1)` has the column 3 1 1, and with `c2` put behind it 5 1 3 1 1 (`alternatives_change_entries` of calculus).
abbrev pub SameHead : (n : ℕ) → Run n → Run n → List (Tree term) → Type 0
SameHead n a b ts = let m = 2 * (size ts - 1) in take m b.left.numbers ≡ take m a.left.numbers

-- the finished head of the program that a left stands at the head of what b left
abbrev pub DemandThreeTables : Type 0
DemandThreeTables = (n : ℕ) (a b : Run n) → Further n a b → (e : Tree program) → TableOf n a.left.numbers (size_told a.told) e → SameHead n a b (finished_head (threads e))

-- so does that of a's end, as the run is defined
abbrev pub DemandThreeEnd : Type 0
DemandThreeEnd = (n : ℕ) (a b : Run n) → Further n a b → (h : HasRun n a.table a.count a.work a.limit a.told a.left a.cleared) → SameHead n a b (finished_head h.end.last)

-- what the standing call says of a finished thread: answer, partial or stuck
abbrev pub SaysFinished : Values → Type 0
SaysFinished s = (s.refusal ≡ 0) × ((s.values ≡ 1 ∷ []) ⊎ ((s.values ≡ 4 ∷ []) ⊎ (s.values ≡ 2 ∷ [])))
