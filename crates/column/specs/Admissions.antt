-- What a check of a table with its column answers.
use Rattle.std.specs.Prelude.{ℕ}
use Rattle.calculus.specs.declared.Refusal.{Refusal}
use Rattle.calculus.specs.Tree.{program, Tree}
use Rattle.calculus.specs.Good.{Good}
use Rattle.calculus.specs.Answers.{number}
use Rattle.calculus.specs.Sheets.{Sheet}
use Rattle.calculus.specs.Column.{ColumnOf}
use Rattle.calculus.specs.Calls.{Accepts, Refuses, TableOf, table_refusals}

-- the first of the conditions 1, 14, 6 and 8 that holds under the limit n; or a good program stands there with its column, and none holds
pub data ChecksWith (n : ℕ) (table : Sheet) (count : ℕ) : ℕ → Type 0 where
  admitted : (p : Tree program) → TableOf n table.numbers count p → Good n p → ColumnOf table.sizes count p → Accepts (table_refusals n table count) → ChecksWith n table count 0
  refused : (r : Refusal) → Refuses (table_refusals n table count) r → ChecksWith n table count (number r)
