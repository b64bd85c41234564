-- A program and a thread that lie in lent slices: the trees whose nodes and sizes these are.
use Rattle.std.specs.Prelude.{◌≡◌, List, ◌++◌, ℕ, ◌*◌, ◌-◌, length, take, drop, Result, Ok, Err}
use Rattle.std.proofs.Common.{ap, sym, ◌∙◌}
use Rattle.std.proofs.Props.{props}
use Rattle.std.proofs.lemmas.List.{take-append-drop}
use mathlib.Core.HLevel.{Σ_prop_path}
use Rattle.std.specs.Coded.{Coded, coded_list, coded_ℕ}
use Rattle.calculus.specs.declared.Refusal.{Refusal}
use Rattle.calculus.specs.Tree.{Sort, term, program, Tree, alt, preorder, nodes}
use Rattle.calculus.specs.Answers.{number}
use Rattle.calculus.specs.Column.{column}
use Rattle.calculus.proofs.Preorders.{preorder_prefix, preorder_injective}

-- a program at the front, with its column at the front: behind both anything may stand
abbrev pub ProgramLies : List ℕ → List ℕ → Type 0
ProgramLies numbers sizes = (p : Tree program) × ((take (2 * nodes p) numbers ≡ preorder p) × (take (nodes p) sizes ≡ column p))

-- a thread's nodes, with its column at the front
abbrev pub ThreadLies : List ℕ → List ℕ → Type 0
ThreadLies numbers sizes = (x : Tree term) × ((preorder x ≡ numbers) × (take (nodes x) sizes ≡ column x))

whole_of : {s : Sort} (l : List ℕ) (x : Tree s) → take (2 * nodes x) l ≡ preorder x → preorder x ++ drop (2 * nodes x) l ≡ l
whole_of l x e = ap (λ (f : List ℕ). f ++ drop (2 * nodes x) l) (sym e) ∙ take-append-drop (2 * nodes x) l

-- one program at most lies there
pub one_program : (numbers sizes : List ℕ) → IsProp (ProgramLies numbers sizes)
one_program numbers sizes = λ u v. Σ_prop_path (λ x. hlevel props) (preorder_prefix u.0 v.0 _ _ (whole_of numbers u.0 u.1.0 ∙ sym (whole_of numbers v.0 v.1.0))).0

-- and one thread
pub one_thread : (numbers sizes : List ℕ) → IsProp (ThreadLies numbers sizes)
one_thread numbers sizes = λ u v. Σ_prop_path (λ x. hlevel props) (preorder_injective u.0 v.0 (u.1.0 ∙ sym v.1.0))

-- the first thread ends before the node e, and the program of the others lies from there on
pub record FirstEnds (numbers sizes : List ℕ) (e : ℕ) : Type 0 where
  pub first : ThreadLies (take (2 * e - 2) (drop 2 numbers)) (take (length sizes - 1) (drop 1 sizes))
  pub others : ProgramLies (take (length numbers - 2 * e) (drop (2 * e) numbers)) (take (length sizes - e) (drop e sizes))
  pub is : (p : ProgramLies numbers sizes) → p.0 ≡ alt first.0 others.0

-- a tree is stored as its preorder
abbrev pub tree_code : (s : Sort) → Coded (Tree s)
tree_code s = record { code = λ x. (coded_list coded_ℕ).code (preorder x); inj = λ x y p. preorder_injective x y ((coded_list coded_ℕ).inj (preorder x) (preorder y) p) }

-- document 01's number for what the check that makes a program answers: 0 where it refuses nothing
abbrev pub admission_number : Result (Tree program) Refusal → ℕ
admission_number (Ok p) = 0
admission_number (Err r) = number r
