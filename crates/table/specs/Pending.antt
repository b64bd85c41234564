-- What a walk over a table keeps: the trees that are still to stand, next first.
use Rattle.std.specs.Prelude.{◌≡◌, Bool, true, false, cond, List, [], ◌∷◌, ◌++◌, map, ℕ, suc, ◌+◌, ◌-◌, ◌≤◌, ◌/◌, ◌%◌, eqb, ltb, get_or, drop}
use Rattle.calculus.specs.Tree.{Sort, term, program}
use Rattle.calculus.specs.Good.{constructors}
use Rattle.table.specs.Nodes.{parts}
use Rattle.table.specs.declared.walk.Sort as sorts
use Rattle.table.specs.declared.walk.Sort.TheVariants.{Program, Term}

-- a tree that is still to stand: its sort, and how many binders are around it
pub data Want : Type 0 where
  want : Sort → ℕ → Want

abbrev pub sort_where : Bool → Sort
sort_where true = program
sort_where false = term

-- the sort that the code names
abbrev pub sort_of : sorts.Sort → Sort
sort_of Program = program
sort_of Term = term

-- one number keeps it: twice the binders, and 1 more for a program
abbrev pub kept : ℕ → Want
kept p = want (sort_where (eqb (p % 2) 1)) (p / 2)

-- by kind: has a node the right number m, where a tree of the sort is wanted, under the limit n
unfoldable pub tests : ℕ → Sort → ℕ → List Bool
tests n program m = eqb m 0 ∷ eqb m 0 ∷ []
tests n term m =
    false ∷ false ∷ ltb m n ∷ ltb m n ∷ ltb m constructors ∷ eqb m 0 ∷ ltb m n ∷ eqb m 0 ∷ eqb m 0 ∷ eqb m 0 ∷ eqb m 0 ∷ []

-- may a node of this kind and number stand where a tree of the sort is wanted
unfoldable pub may : ℕ → Sort → ℕ → ℕ → Bool
may n s k m = get_or (tests n s m) k false

-- the sort of the last part of a node of the kind k: a program's for an alternative and the two abstractions, else a term's
abbrev pub last_sort : ℕ → Sort
last_sort k = get_or (term ∷ program ∷ term ∷ term ∷ term ∷ program ∷ program ∷ []) k term

-- how many binders a node of the kind k is: 1 for the two abstractions and a fresh node, else none
abbrev pub binds : ℕ → ℕ
binds k = get_or (0 ∷ 0 ∷ 0 ∷ 0 ∷ 0 ∷ 1 ∷ 1 ∷ 0 ∷ 1 ∷ []) k 0

-- the last part of a node of the kind k, with d binders around it; a term with as many where that is no other
unfoldable pub last_part : Bool → ℕ → ℕ → Want
last_part within d k =
    cond (eqb k 1)
    (want program d)
    (cond (eqb k 5)
    (want program (suc d))
    (cond (eqb k 6) (want program (cond within 1 (suc d))) (cond (eqb k 8) (want term (suc d)) (want term d))))

-- the parts of a node of the kind k: the first of two is a term
unfoldable pub wants : Bool → ℕ → ℕ → List Want
wants within d k = drop (2 - get_or parts k 0) (want term d ∷ last_part within d k ∷ [])

-- the parts of a node were put on top of what was pending from `top` on; r is the new top
pub record PartsPut (within : Bool) (d k top : ℕ) (before after : List ℕ) (r : ℕ) : Type 0 where
  pub low : r ≤ top
  pub high : top ≤ r + 2
  pub pending : map kept (drop r after) ≡ wants within d k ++ map kept (drop top before)
