-- The two values of a goal, met on fresh links: what solves the goal is what respects the links, or nothing does. For the proof of `solve`.
use mathlib.Core.Path.{◌≡◌, refl, sym, ◌∙◌}
use mathlib.Core.Bool.{Bool, true, false, ◌||◌}
use mathlib.Core.List.{List}
use Prim.Native.Nat.{ℕ, ◌+◌, ◌*◌, ◌≤◌}
use native.Mathlib.Omega.{arith}
use lib.ListN.{length}
use borrow.Author.Tests.{eq-eqb}
use Rattle.calculus.specs.Tree.{term, unif, Tree, free, two, nodes, preorder, uses}
use Rattle.calculus.specs.Unifier.{Substitution, Solves}
use Rattle.calculus.proofs.Preorders.{preorder_injective}
use Rattle.calculus.proofs.Substitutes.{either, or_left, or_right}
use Rattle.table.specs.Nodes.{Stands, SomeTree, Ends}
use Rattle.table.proofs.Trees.{see, ends_in, moved}
use Rattle.unify.specs.Classes.{Goal, Lent}
use Rattle.descent.specs.Descent.{identity_of, OfThread, variable, Respects, Joined}
use Rattle.descent.specs.Meeting.{Threaded, LinksHold, Fresh, Within, Meant, Linked, Meets, Met, clashed}
use Rattle.descent.proofs.Places.{identity_means, occurs}
use Rattle.descent.proofs.Descents.{sane, class_solves, merged_of}

-- the goal's thread
pub goal_threaded : {n : ℕ} {t : List ℕ} {goal : ℕ} → Goal n t goal → Threaded n t
goal_threaded g = record { thread = g.thread; worked = g.worked }

-- the lent links, set up
pub lent_room : {n : ℕ} {before after sizes : List ℕ} → Lent n before sizes → length after ≡ length before → LinksHold n after
lent_room l e = record { holds = rw e l.links_hold; fits = l.numbers_fit }

own_variable : {vs : ℕ → Bool} (x : ℕ) → Within vs (free x) → vs x ≡ true
unfolding uses
own_variable x w = w.among x (eq-eqb x x refl)

module _ {n : ℕ} {t : List ℕ} {goal : ℕ} (g : Goal n t goal) where
  -- the goal's variables
  abbrev vs : ℕ → Bool
  vs y = uses y g.left_value || uses y g.right_value

  stand : Stands t (goal + 1) g.left_value × Stands t (goal + 1 + nodes g.left_value) g.right_value
  stand = (see (two unif g.left_value g.right_value) g.stands).parts_stand

  first_within : Within vs g.left_value
  first_within = record { is_value = g.is_left; among = λ y u. or_left (uses y g.left_value) (uses y g.right_value) u }

  second_within : Within vs g.right_value
  second_within = record { is_value = g.is_right; among = λ y u. or_right (uses y g.left_value) (uses y g.right_value) u }

  first : Meant vs n t (identity_of n t (goal + 1))
  first = record { tree = g.left_value; means = identity_means g.worked g.left_value stand.0; within = first_within }

  -- the left value stands behind the goal's node
  pub goal_left : SomeTree t (goal + 1)
  goal_left = record { sort = term; tree = g.left_value; stands = stand.0 }

  -- the goal ends in the thread
  pub goal_inside : {e : ℕ} → Ends t goal e → 2 * e ≤ length t
  goal_inside h = omega (arith, ends_in g.stands, h.ends (two unif g.left_value g.right_value) g.stands)

  -- the node after the left value
  module _ {b : ℕ} (h : Ends t (goal + 1) b) where
    right_stands : Stands t b g.right_value
    right_stands = moved (sym (h.ends g.left_value stand.0)) stand.1

    -- and the right value there
    pub goal_right : SomeTree t b
    goal_right = record { sort = term; tree = g.right_value; stands = right_stands }

    second : Meant vs n t (identity_of n t b)
    second = record { tree = g.right_value; means = identity_means g.worked g.right_value right_stands; within = second_within }

    -- fresh links
    module _ {links : List ℕ} (f : Fresh n t links) where
      fresh_linked : Linked vs n t links
      fresh_linked = record { linked = λ i x m k. absurd (omega (arith, f.alone i x m)) }

      -- nothing is linked, so everything respects the links
      fresh_respects : (τ : Substitution) → Respects n t links τ
      fresh_respects τ = record { alike = λ i x y k m. absurd (omega (arith, f.alone i x m)) }

      -- the two values may meet
      pub goal_meets : LinksHold n links → Meets n t links (identity_of n t (goal + 1)) (identity_of n t b)
      unfolding first second
      goal_meets r = record { threaded = goal_threaded g; room = r; variables = vs; linked = fresh_linked; first = first; second = second }

      module _ {after : List ℕ} where
        -- they have met
        pub goal_joined : Met n t links after (identity_of n t (goal + 1)) (identity_of n t b) true → Joined n t after g.left_value g.right_value
        unfolding first second
        goal_joined m =
            let k = merged_of m in
            let l = k.linked vs fresh_linked first second in
            record {
              sane = sane l;
              respects = λ τ s. k.respects τ g.left_value g.right_value first.means second.means (fresh_respects τ) s;
              solves = λ τ s. class_solves τ (sane l) s k.one_class first.means second.means;
              agree = λ i x y d s o u. k.agree i x y d (f.alone i x o) s o u;
              moved = λ thread d x u s. either (uses x g.left_value) (uses x g.right_value) (own_variable x (l.linked (n + x) (free x) (variable x (there thread d x u) refl) s).0);
            }
          where
            there : (thread : Tree term) → t ≡ preorder thread → (x : ℕ) → uses x thread ≡ true → OfThread n t x
            there thread d x u = occurs (rw (preorder_injective thread g.thread (sym d ∙ g.worked.is)) g.worked) x u

        -- they clash: nothing solves the goal
        pub goal_clash : Met n t links after (identity_of n t (goal + 1)) (identity_of n t b) false → (τ : Substitution) → Solves τ g.left_value g.right_value → ⊥
        unfolding first second
        goal_clash (clashed k) τ s = k τ g.left_value g.right_value first.means second.means (fresh_respects τ) s
