-- What a parse of a text finds.
use Rattle.std.specs.Prelude.{◌≡◌, List, [], ◌∷◌, ℕ, ◌*◌, ◌≤◌, length, take, Result}
use Rattle.calculus.specs.declared.Refusal.{Refusal}
use Rattle.calculus.specs.declared.Refusal.TheVariants.{OutOfPlace, BadNumber, NoBinder}
use Rattle.calculus.specs.Tree.{program, Tree, nodes, preorder}
use Rattle.calculus.specs.Good.{Closed}
use Rattle.calculus.specs.Text.{Raw, raw_text}
use Rattle.calculus.specs.Answers.{number, Values, counted_values}
use Rattle.calculus.specs.Calls.{TextOf}

-- no program is found: document 01's number, and a count of 0
abbrev pub none_found : Refusal → Values
none_found r = record { refusal = number r; values = 0 ∷ [] }

-- document 01's number and the nodes for each answer
abbrev pub parsed_values : Result ℕ Refusal → Values
parsed_values r = counted_values r

-- The text is not in the grammar; it is, and an N is not a plain decimal in its range; it is a program's, and an index has no binder;
-- or it is that of a closed program, of so many nodes, which then stand at the front of the build table if that holds them.
pub data Parses (n : ℕ) (s build : List ℕ) : Values → Type 0 where
  out : ((r : Raw program) → raw_text r ≡ s → ⊥) → Parses n s build (none_found OutOfPlace)
  bad : (r : Raw program) → raw_text r ≡ s → ((p : Tree program) → TextOf n s p → ⊥) → Parses n s build (none_found BadNumber)
  loose : (p : Tree program) → TextOf n s p → (Closed 0 p → ⊥) → Parses n s build (none_found NoBinder)
  of_nodes : (p : Tree program) → TextOf n s p → Closed 0 p → (2 * nodes p ≤ length build → take (2 * nodes p) build ≡ preorder p) → Parses n s build (record { refusal = 0; values = nodes p ∷ [] })
