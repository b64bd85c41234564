-- What comparing the bodies of the allocated abstractions of a thread shows.
use mathlib.Core.Path.{◌≡◌, refl, sym, ap, ◌∙◌}
use mathlib.Core.Bool.{Bool, true, false, true≢false}
use mathlib.Core.List.{List}
use Prim.Native.Nat.{ℕ, ◌+◌, ◌*◌, ◌-◌, ◌/◌, ◌≤◌, ◌<◌}
use native.Mathlib.Omega.{arith}
use native.Mathlib.Decide.{ℕ_discrete}
use lib.ListN.{length, get_or, take, drop, set, length-drop, length-set}
use lib.Seq.{take_all, get_or-set_same, get_or-set_other}
use Rattle.calculus.specs.Tree.{Sort, term, program, Tree, preorder}
use Rattle.calculus.proofs.Preorders.{preorder_length, preorder_injective}
use Rattle.table.specs.Nodes.{kind_at, number_at, NodeIs, Stands, SomeTree, SameBodies}
use Rattle.table.specs.Checks.{IsThread, BodiesAgree}
use Rattle.table.proofs.Allocated.{Met, Held, met_held, held_met, met_here, met_in_range}
use Rattle.table.proofs.Trees.{one_tree, in_part, moved}

module _ {part : List ℕ} {i l : ℕ} where
  -- among one node more
  abbrev more : Met part i l → Met part (i + 1) l
  more m = record { node = m.node; below = omega arith; kind_is = m.kind_is; number_is = m.number_is }

  -- or among one node fewer, where it isn't the last
  abbrev fewer : (m : Met part (i + 1) l) → (m.node ≡ i → ⊥) → Met part i l
  fewer m h = record { node = m.node; below = omega arith; kind_is = m.kind_is; number_is = m.number_is }

  other_kind : (kind_at part i ≡ 6 → ⊥) → (m : Met part (i + 1) l) → m.node ≡ i → ⊥
  other_kind h m e = h (rw e at m.kind_is)

  other_number : (number_at part i ≡ l → ⊥) → (m : Met part (i + 1) l) → m.node ≡ i → ⊥
  other_number h m e = h (rw e at m.number_is)

-- the entry 0 stands at each location among the first i nodes
pub record Forgotten (part : List ℕ) (i : ℕ) (first₀ first : List ℕ) : Type 0 where
  pub same_size : length first ≡ length first₀
  pub zero_there : (l : ℕ) → Met part i l → get_or first l 0 ≡ 0

pub forgotten_none : {part first : List ℕ} → Forgotten part 0 first first
forgotten_none = record { same_size = refl; zero_there = λ l m. absurd (omega arith) }

module _ {part : List ℕ} {i k m : ℕ} {first₀ first : List ℕ} (n : NodeIs part i k m) (f : Forgotten part i first₀ first) where
  pub forgotten_pass : (k ≡ 6 → ⊥) → Forgotten part (i + 1) first₀ first
  forgotten_pass h = record { same_size = f.same_size; zero_there = λ l a. f.zero_there l (fewer a (other_kind (λ e. h (n.kind_is ∙ e)) a)) }

  pub forgotten_put : m < length first → Forgotten part (i + 1) first₀ (set first m 0)
  forgotten_put b = record {
    same_size = simp length-set f.same_size;
    zero_there = λ l a. elim (ℕ_discrete l m) [ yes q ↦ rw q (get_or-set_same first m 0 0 b) | no q ↦ rw (get_or-set_other first m l 0 0 q) (f.zero_there l (fewer a (other_number (λ e. q (sym (n.number_is ∙ e))) a))) ];
  }

-- the programs that stand behind the nodes i and j are one
abbrev Same : List ℕ → ℕ → ℕ → Type 0
Same part i j = (p q : Tree program) → Stands part (i + 1) p → Stands part (j + 1) q → p ≡ q

-- the part of the table from a node on, as the code takes it
abbrev from : List ℕ → ℕ → List ℕ
from part i = take (length part - 2 * i) (drop (2 * i) part)

from_stands : {s : Sort} {part : List ℕ} {i : ℕ} {x : Tree s} → Stands part i x → Stands (from part i) 0 x
from_stands {part} {i} w = rw (take_all (length part - 2 * i) (drop (2 * i) part) (omega (arith, length-drop (2 * i) part))) (in_part i (moved (omega arith) w))

some_body : {s : Sort} {part : List ℕ} {i l : ℕ} {x : Tree s} → Held part i l x → SomeTree (from part i) 0
some_body h = record { sort = program; tree = h.body; stands = from_stands h.stands }

-- what the entry of a location says after i nodes: 0 where none of them has the location; else the node behind the first that has it, whose body is that of all that have it
pub data Entry (part : List ℕ) (i l : ℕ) : ℕ → Type 0 where
  new : (Met part i l → ⊥) → Entry part i l 0
  old : (f : Met part i l) → ((m : Met part i l) → Same part f.node m.node) → Entry part i l (f.node + 1)

module _ {part : List ℕ} {i l : ℕ} where
  entry_before : {v : ℕ} → Entry part i l v → v ≤ i
  entry_before (new a) = omega arith
  entry_before (old f s) = omega arith

  -- the node i has not the location
  entry_pass : {v : ℕ} → ((m : Met part (i + 1) l) → m.node ≡ i → ⊥) → Entry part i l v → Entry part (i + 1) l v
  entry_pass h (new a) = new (λ m. a (fewer m (h m)))
  entry_pass h (old f s) = old (more f) (λ m. s (fewer m (h m)))

  -- it has it first
  entry_first : {v : ℕ} (f : Met part (i + 1) l) → f.node ≡ i → v ≡ 0 → Entry part i l v → Entry part (i + 1) l (f.node + 1)
  entry_first f e z (new a) = old f (λ m p q v w. elim (ℕ_discrete m.node i) [ yes d ↦ one_tree p q (moved (omega arith) v) w | no d ↦ absurd (a (fewer m d)) ])
  entry_first f e z (old g s) = absurd (omega arith)

  -- it has it again, with the same body
  entry_again : {v : ℕ} {r : Bool} → (v ≡ 0 → ⊥) → SameBodies (from part v) (from part (i + 1)) r → r ≡ true → Entry part i l v → Entry part (i + 1) l v
  entry_again z s e (new a) = absurd (z refl)
  entry_again z s e (old f t) =
      old (more f) (λ m p q v w. elim (ℕ_discrete m.node i) [ yes d ↦ preorder_injective p q (s.same e p q (from_stands v) (from_stands (moved (omega arith) w))) | no d ↦ t (fewer m d) p q v w ])

  module _ {x : Tree term} (h : (m : Met part i l) → Held part (m.node + 1) l x) where
    -- what has one location has one body
    entry_agrees : {v : ℕ} → Entry part i l v → (m k : Met part i l) → Same part m.node k.node
    entry_agrees (new a) m k = absurd (a m)
    entry_agrees (old f s) m k = let b = h f in λ p q v w. sym (s m b.body p b.stands v) ∙ s k b.body q b.stands w

    -- the body of the first that has the location
    entry_body : {v : ℕ} → (v ≡ 0 → ⊥) → Entry part i l v → Held part v l x
    entry_body z (new a) = absurd (z refl)
    entry_body z (old f s) = h f

-- what the entries say after i nodes, for each location of the first `end` nodes
pub record Firsts (part : List ℕ) (end i : ℕ) (first₀ first : List ℕ) : Type 0 where
  pub same_size : length first ≡ length first₀
  pub entry : (l : ℕ) → Met part end l → Entry part i l (get_or first l 0)

pub firsts_none : {part first : List ℕ} (end : ℕ) → ((l : ℕ) → Met part end l → get_or first l 0 ≡ 0) → Firsts part end 0 first first
firsts_none end z = record { same_size = refl; entry = λ l m. rw (z l m) (new (λ k. absurd (omega arith))) }

pub firsts_pass : {part : List ℕ} {end i k m : ℕ} {first₀ first : List ℕ} → NodeIs part i k m → (k ≡ 6 → ⊥) → Firsts part end i first₀ first → Firsts part end (i + 1) first₀ first
firsts_pass n h f = record { same_size = f.same_size; entry = λ l m. entry_pass (other_kind (λ e. h (n.kind_is ∙ e))) (f.entry l m) }

-- what all entries say of the thread
pub firsts_agree : {n : ℕ} {part : List ℕ} {end i : ℕ} {first₀ first : List ℕ} → IsThread n part → end ≡ length part / 2 → i ≡ end → Firsts part end i first₀ first → BodiesAgree part true
firsts_agree {part} {end} {i} t b c f =
    let whole : 2 * end ≡ length part = omega (arith, ap length t.is, preorder_length t.thread) in
    let all : Firsts part end end _ _ = rw c at f in
    record {
      agree = λ _ x is l p q h k.
          let m = held_met part x is end l p whole h in
          let n = held_met part x is end l q whole k in
          entry_agrees (met_held part x is end l (omega arith)) (all.entry l m.0) m.0 n.0 p q m.1 n.1;
      differ = λ e. absurd (true≢false e);
    }

-- what is known at the node i, an allocated abstraction's with the location m
pub record AtBody (n : ℕ) (part : List ℕ) (end i m : ℕ) (first₀ first : List ℕ) : Type 0 where
  pub thread : IsThread n part
  pub fits : 2 * end ≤ length part
  pub below : i < end
  pub kind_is : kind_at part i ≡ 6
  pub number_is : number_at part i ≡ m
  pub room : m < length first
  pub firsts : Firsts part end i first₀ first

pub at_body : {n : ℕ} {part : List ℕ} {end i k m : ℕ} {first₀ first : List ℕ} → IsThread n part → 2 * end ≤ length part → i < end → NodeIs part i k m → k ≡ 6 → n ≤ length first → Firsts part end i first₀ first → AtBody n part end i m first₀ first
at_body t h b r e s f =
    record { thread = t; fits = h; below = b; kind_is = sym r.kind_is ∙ e; number_is = sym r.number_is; room = omega (arith, met_in_range t h (met_here _ r e b)); firsts = f }

module _ {n : ℕ} {part : List ℕ} {end i m : ℕ} {first₀ first : List ℕ} (a : AtBody n part end i m first₀ first) where
  abbrev this : (j : ℕ) → i < j → Met part j m
  this j h = record { node = i; below = h; kind_is = a.kind_is; number_is = a.number_is }

  others : (l : ℕ) → (l ≡ m → ⊥) → Met part end l → Entry part (i + 1) l (get_or first l 0)
  others l h k = entry_pass (other_number (λ e. h (sym e ∙ a.number_is))) (a.firsts.entry l k)

  this_body : (x : Tree term) → part ≡ preorder x → Held part (i + 1) m x
  this_body x e = met_held part x e (i + 1) m (omega arith) (this (i + 1) (omega arith))

  -- what is kept for its location
  module _ {v : ℕ} (kept : v ≡ get_or first m 0) where
    this_entry : Entry part i m v
    this_entry = rw kept (a.firsts.entry m (this end a.below))

    pub first_before : v ≤ i
    first_before = entry_before this_entry

    pub firsts_first : v ≡ 0 → Firsts part end (i + 1) first₀ (set first m (i + 1))
    firsts_first z = record {
      same_size = simp length-set a.firsts.same_size;
      entry = λ l k. elim (ℕ_discrete l m) [ yes e ↦ rw (e, get_or-set_same first m (i + 1) 0 a.room) (entry_first (this (i + 1) (omega arith)) refl z this_entry) | no e ↦ rw (get_or-set_other first m l (i + 1) 0 e) (others l e k) ];
    }

    module _ (z : v ≡ 0 → ⊥) where
      pub firsts_again : {r : Bool} → SameBodies (from part v) (from part (i + 1)) r → r ≡ true → Firsts part end (i + 1) first₀ first
      firsts_again s t = record { same_size = a.firsts.same_size; entry = λ l k. elim (ℕ_discrete l m) [ yes e ↦ rw (e, ← kept) (entry_again z s t this_entry) | no e ↦ others l e k ] }

      first_body : (x : Tree term) → part ≡ preorder x → Held part v m x
      first_body x is = entry_body (met_held part x is i m (omega arith)) z this_entry

      pub bodies_stand : SomeTree (from part v) 0 × SomeTree (from part (i + 1)) 0
      bodies_stand = let x = a.thread.thread in let e = a.thread.is in (some_body (first_body x e), some_body (this_body x e))

      pub firsts_differ : {r : Bool} → SameBodies (from part v) (from part (i + 1)) r → r ≡ false → BodiesAgree part false
      firsts_differ s t = record {
        agree = λ e. absurd (true≢false (sym e));
        differ = λ _ x e one.
            let f = first_body x e in
            let g = this_body x e in
            s.apart t f.body g.body (from_stands f.stands) (from_stands g.stands) (ap preorder (one m _ _ f.holds g.holds));
      }
