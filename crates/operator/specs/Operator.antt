-- Reading an operator's text: "The program on standard input should turn away a text that holds kind 6 anywhere."
use Rattle.std.specs.Prelude.{◌≡◌, List, [], ◌∷◌, ℕ, ◌≤◌}
use Rattle.calculus.specs.declared.Refusal.{Refusal}
use Rattle.calculus.specs.declared.Refusal.TheVariants.{Incoherent, Closure}
use Rattle.calculus.specs.Tree.{program, Tree, nodes}
use Rattle.calculus.specs.Good.{Closed, HoldsClosure}
use Rattle.calculus.specs.Sheets.{Sheet}
use Rattle.calculus.specs.Answers.{number, Values}
use Rattle.calculus.specs.Calls.{Accepts, Refuses, put_front, TextOf, Reads}
use Rattle.calculus.specs.Report.{operator_refusals}

-- what the read of an operator's text b into `out` returns, and what it leaves there: of a text that is turned away, what the library's read leaves
pub data ReadsOperators (n : ℕ) (b : List ℕ) (out : Sheet) : Values → Sheet → Type 0 where
  read : (p : Tree program) → Accepts (operator_refusals n b out) → TextOf n b p → ReadsOperators n b out (record { refusal = 0; values = nodes p ∷ [] }) (put_front p out)
  turned_away : (r : Refusal) (v : Values) (after : Sheet) → Refuses (operator_refusals n b out) r → Reads n b out v after → ReadsOperators n b out (record { refusal = number r; values = 0 ∷ [] }) after

-- the refusal q of an operator's text that the library's read refuses with r
pub record TurnedAway (r q : Refusal) : Type 0 where
  pub incoherent : r ≡ Incoherent → q ≡ Closure
  pub other : (r ≡ Incoherent → ⊥) → q ≡ r

-- "a closure in an operator's text": of a program that 2 to 7 let pass, and that holds one
pub record ClosureText (n : ℕ) (b : List ℕ) : Type 0 where
  pub program_there : Tree program
  pub text_of : TextOf n b program_there
  pub closed : Closed 0 program_there
  pub small : nodes program_there ≤ n
  pub closure : HoldsClosure program_there
