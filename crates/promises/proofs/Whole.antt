-- Request 3 over the calls: an answer is told from the other finished threads by the kinds of its nodes alone.
use mathlib.Core.Path.{◌≡◌, refl, sym, ◌∙◌}
use mathlib.Core.Logic.Iff
use mathlib.Core.Logic.{◌↔◌, inl, inr}
use mathlib.Core.Bool.{true}
use mathlib.Core.List.{List}
use Prim.Native.Nat.{ℕ, ◌+◌, ◌/◌}
use native.Mathlib.Omega.{arith}
use lib.ListN.{length}
use Rattle.calculus.specs.Tree.{term, Tree, preorder}
use Rattle.calculus.specs.Whole.{Holding}
use Rattle.calculus.specs.Calls.{stands, not_stood, part}
use Rattle.calculus.proofs.Answers.{number_positive}
use Rattle.calculus.proofs.Outcomes.{parts_once}
use Rattle.table.specs.Nodes.{number_at}
use Rattle.table.specs.Marks.{numbered}
use Rattle.table.proofs.Positions.{uses_numbered, stored_numbered, numbered_node, node_numbered}
use Rattle.promises.specs.Worked.{NoNodeOf, AnswerByKinds}
use Rattle.promises.proofs.Worked.{told_finished}

-- a node of the kind is there exactly if it has some number
none_numbered : (kind : ℕ) (l : List ℕ) → NoNodeOf kind l ↔ ((m : ℕ) → numbered kind l m ≡ true → ⊥)
none_numbered kind l = (
  (λ f m e. let w = numbered_node kind l m (length l / 2) (omega arith) e in f w.node (omega (arith, w.below)) w.kind_is),
  (λ f i b e. f (number_at l i) (node_numbered {kind = kind} {l = l} {end = i + 1} (omega arith) (record { node = i; below = omega arith; kind_is = e; number_is = refl }))),
)

-- no free variable and no location stands in a thread exactly if none of its nodes has kind 3 or 6
holding_nodes : (t : Tree term) → (Holding t → ⊥) ↔ (NoNodeOf 3 (preorder t) × NoNodeOf 6 (preorder t))
holding_nodes t = (
  (λ f. ((none_numbered 3 (preorder t)).1 (λ x e. f (inl (x, uses_numbered x t ∙ e))), (none_numbered 6 (preorder t)).1 (λ l e. f (inr (l, stored_numbered l t ∙ e))))),
  go,
)
  where
    go : NoNodeOf 3 (preorder t) × NoNodeOf 6 (preorder t) → Holding t → ⊥
    go (a, b) (inl (x, u)) = (none_numbered 3 (preorder t)).0 a x (sym (uses_numbered x t) ∙ u)
    go (a, b) (inr (l, u)) = (none_numbered 6 (preorder t)).0 b l (sym (stored_numbered l t) ∙ u)

-- an answer is told by the kinds of its nodes
pub answer_by_kinds : AnswerByKinds
answer_by_kinds n table count k v start l (stands t a o) z f p = rw (parts_once p (part t a o)).1 (Iff.trans (told_finished {table = table} t a o f) (holding_nodes t))
answer_by_kinds n table count k v start l (not_stood r g) z f p = absurd (omega (arith, number_positive r))
