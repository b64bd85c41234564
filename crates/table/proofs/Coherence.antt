-- Coherence (2) of the threads of a program, one after the other.
use mathlib.Core.Path.{◌≡◌, sym, ap, ◌∙◌}
use mathlib.Core.Logic.{◌↔◌}
use mathlib.Core.Bool.{Bool, true, false, true≢false}
use mathlib.Core.List.{List}
use Prim.Native.Nat.{ℕ, ◌+◌, ◌*◌, ◌-◌, ◌≤◌, ◌<◌}
use native.Mathlib.Omega.{arith}
use lib.ListN.{length, take, drop}
use Rattle.calculus.specs.Tree.{term, program, Tree, preorder, nodes, threads}
use Rattle.calculus.specs.Good.{InRange, All}
use Rattle.calculus.proofs.Preorders.{nodes_positive, preorder_length}
use Rattle.table.specs.Nodes.{NodeIs, Stands, SomeTree, Ends}
use Rattle.table.specs.Checks.{IsThread, OneBody, BodiesAgree, ProgramIn, ThreadsAgree}
use Rattle.table.proofs.Trees.{one_tree, in_table, own_part, ends_in, moved, program_at, alt_at}

-- at the node i the rest of the program stands, and coherence (2) of its threads is that of all
pub record Going (n : ℕ) (t : List ℕ) (i : ℕ) : Type 0 where
  pub others : Tree program
  pub stands : Stands t i others
  pub ranges : InRange n others
  pub small : i + nodes others ≤ n
  pub fits : 2 * i + 2 ≤ length t
  pub as_all : (p : Tree program) → Stands t 0 p → All OneBody (threads others) ↔ All OneBody (threads p)

-- the whole program at first
pub going_start : {n : ℕ} {t : List ℕ} → ProgramIn n t → Going n t 0
going_start {n} {t} h = record {
  others = h.program_there;
  stands = h.stands;
  ranges = h.ranges;
  small = omega (arith, h.small);
  fits = in_table h.stands;
  as_all = λ p w. rw (one_tree p h.program_there w h.stands) ((λ a. a), (λ a. a));
}

-- nothing is left
pub going_end : {n : ℕ} {t : List ℕ} {i k m : ℕ} → Going n t i → NodeIs t i k m → k ≡ 0 → ThreadsAgree t true
unfolding threads
going_end g r e = record {
  agree = λ _ p w. let z = program_at g.others 0 (sym r.kind_is ∙ e) g.stands in (g.as_all p w).0 (rw z tt);
  differ = λ f. absurd (true≢false f);
}

-- at the node i a thread begins
pub record ThreadHere (n : ℕ) (t : List ℕ) (i : ℕ) : Type 0 where
  pub thread : Tree term
  pub others : Tree program
  pub stands : Stands t (i + 1) thread
  pub next : Stands t (i + 1 + nodes thread) others
  pub ranges : InRange n thread × InRange n others
  pub small : i + 1 + nodes thread + nodes others ≤ n
  pub as_all : (p : Tree program) → Stands t 0 p → (OneBody thread × All OneBody (threads others)) ↔ All OneBody (threads p)

pub thread_here : {n : ℕ} {t : List ℕ} {i k m : ℕ} → Going n t i → NodeIs t i k m → (k ≡ 0 → ⊥) → ThreadHere n t i
unfolding threads nodes
thread_here {n} {t} {i} g r f =
    let a = alt_at g.others (λ e. f (r.kind_is ∙ e)) g.stands in
    record {
      thread = a.thread;
      others = a.others;
      stands = a.stands;
      next = a.next;
      ranges = rw a.is at g.ranges;
      small = omega (arith, ap nodes a.is, g.small);
      as_all = rw a.is at g.as_all;
    }

module _ {n : ℕ} {t : List ℕ} {i : ℕ} (h : ThreadHere n t i) where
  pub here_stands : SomeTree t (i + 1)
  here_stands = record { sort = term; tree = h.thread; stands = h.stands }

  module _ {r : ℕ} (e : Ends t (i + 1) r) where
    here_ends : r ≡ i + 1 + nodes h.thread
    here_ends = e.ends h.thread h.stands

    abbrev here_part : List ℕ
    here_part = take (2 * r - 2 * (i + 1)) (drop (2 * (i + 1)) t)

    here_is : here_part ≡ preorder h.thread
    here_is = let d : 2 * r - 2 * (i + 1) ≡ 2 * nodes h.thread = omega (arith, here_ends) in rw d (own_part h.stands)

    pub here_bounds : (2 * r ≤ length t) × (r < n)
    here_bounds = (omega (arith, here_ends, ends_in h.stands), omega (arith, here_ends, h.small, nodes_positive h.others))

    pub here_thread : IsThread n here_part
    here_thread = record { thread = h.thread; is = here_is; ranges = h.ranges.0 }

    pub here_short : n < 32768 → length here_part < 65536
    here_short b = omega (arith, ap length here_is, preorder_length h.thread, here_bounds.1, here_ends)

    pub going_next : {b : Bool} → BodiesAgree here_part b → b ≡ true → Going n t r
    going_next a z =
        let w = moved (sym here_ends) h.next in
        record {
          others = h.others;
          stands = w;
          ranges = h.ranges.1;
          small = omega (arith, here_ends, h.small);
          fits = in_table w;
          as_all = λ p v. ((λ b. (h.as_all p v).0 (a.agree z h.thread here_is, b)), (λ b. ((h.as_all p v).1 b).1));
        }

    pub going_not : {b : Bool} → BodiesAgree here_part b → b ≡ false → ThreadsAgree t false
    going_not a z = record { agree = λ f. absurd (true≢false (sym f)); differ = λ _ p w all. a.differ z h.thread here_is ((h.as_all p w).1 all).0 }
