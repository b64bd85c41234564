-- The loop of `threads::place_of`: i threads are passed, and the rest of the program stands at the node `at`.
use mathlib.Core.Path.{◌≡◌, refl, sym, ◌∙◌}
use mathlib.Core.Bool.{Bool, true, false}
use mathlib.Core.List.{List, [], ◌∷◌, ◌++◌, append-nil}
use Prim.Native.Nat.{ℕ, ◌+◌, ◌*◌, ◌≤◌, ◌<◌}
use native.Mathlib.Omega.{arith}
use borrow.Author.Tests.{eqb-true, eqb-false}
use lib.Dec.{eqb}
use lib.ListN.{length, get_or, length-append}
use Rattle.std.specs.Prelude.{cond, Option, Some, None}
use Rattle.calculus.specs.Tree.{term, program, Tree, nodes, threads, program_of}
use Rattle.calculus.proofs.Preorders.{threads_of_program}
use Rattle.table.specs.Nodes.{kind_at, Stands}
use Rattle.table.proofs.Trees.{IsAlt, Reached, in_table, program_at, alt_at, reached_none, reached_more}
use Rattle.column.specs.Sizes.{SizeAt}
use Rattle.threads.specs.Places.{thread_behind, ProgramAt, place_values, PlaceOf, from, missing}
use Rattle.threads.proofs.Places.{thread_size}

pub record Placing (t c : List ℕ) (at i : ℕ) : Type 0 where
  pub lent : ProgramAt t c
  pub before : List (Tree term)
  pub others : Tree program
  pub reached : Reached t at before others
  pub count : length before ≡ i
  pub room : 2 * at + 2 ≤ length t

-- no thread is passed
pub start : {t c : List ℕ} → ProgramAt t c → Placing t c 0 0
start p = record { lent = p; before = []; others = p.program_there; reached = reached_none p.program_there p.stands; count = refl; room = in_table p.stands }

-- what the answer tells of the node
told : (a : Bool) (at : ℕ) {s : ℕ} → cond a None (Some (at + 1)) ≡ Some s → (a ≡ false) × (at + 1 ≡ s)
told true at e = cc
told false at e = (refl, cc)

none_told : (a : Bool) (at : ℕ) → cond a None (Some (at + 1)) ≡ None → a ≡ true
none_told true at e = refl
none_told false at e = cc

module _ {t c : List ℕ} {at i : ℕ} (h : Placing t c at i) where
  -- the empty node ends the program
  pub ended : kind_at t at ≡ 0 → {k : ℕ} → i ≤ k → PlaceOf t k (place_values None)
  unfolding threads
  ended e {k} small =
      let w = h.reached in
      let z : threads h.others ≡ [] = rw (program_at h.others 0 e w.stands) in
      let l : length (threads (program_of (h.before ++ threads h.others))) ≡ i = rw (threads_of_program, z, append-nil) h.count in
      missing (program_of (h.before ++ threads h.others)) w.whole (omega arith)

  pub none_left : thread_behind t at ≡ None → {k : ℕ} → i ≤ k → PlaceOf t k (place_values None)
  none_left e = ended (eqb-true (kind_at t at) 0 (none_told (eqb (kind_at t at) 0) at e))

  module _ (f : kind_at t at ≡ 0 → ⊥) where
    one_more : IsAlt t at h.others
    one_more = alt_at h.others f h.reached.stands

    -- a thread stands behind an alternative node
    whole : Stands t 0 (program_of (h.before ++ (one_more.thread ∷ threads one_more.others)))
    unfolding threads
    whole = rw one_more.is at h.reached.whole

    standing : PlaceOf t i (place_values (Some (at + 1)))
    standing = rw (← h.reached.place) (from h.before one_more.thread (threads one_more.others) whole h.count)

    -- and has its size in the column
    size_there : (at + 1 < length c) × (get_or c (at + 1) 0 ≡ nodes one_more.thread)
    size_there = thread_size h.lent h.before (threads one_more.others) one_more.thread whole h.reached.place

    -- past the thread
    next : {e : ℕ} → SizeAt c (at + 1) e → Placing t c (at + 1 + e) (i + 1)
    next d =
        let a = one_more in
        let z = rw (← (d.is ∙ size_there.1)) at (reached_more h.reached a) in
        record {
          lent = h.lent;
          before = h.before ++ (a.thread ∷ []);
          others = a.others;
          reached = z;
          count = rw length-append (omega (arith, h.count));
          room = in_table z.stands;
        }

  module _ {s : ℕ} (q : thread_behind t at ≡ Some s) where
    behind : (kind_at t at ≡ 0 → ⊥) × (at + 1 ≡ s)
    behind = let e = told (eqb (kind_at t at) 0) at q in (eqb-false (kind_at t at) 0 e.0, e.1)

    pub sized : s < length c
    sized = omega (arith, behind.1, (size_there behind.0).0)

    pub past : {e : ℕ} → SizeAt c s e → Placing t c (s + e) (i + 1)
    past {e} d = let d' : SizeAt c (at + 1) e = rw (← behind.1) at d in rw behind.1 at (next behind.0 d')

    -- the thread is there
    pub standing_there : PlaceOf t i (place_values (Some s))
    standing_there = rw behind.1 at (standing behind.0)

-- the thread at which the loop ends, if there is one
pub placed : {t c : List ℕ} {at i k : ℕ} {r : Option ℕ} → Placing t c at i → i ≡ k → r ≡ thread_behind t at → PlaceOf t k (place_values r)
placed {r = Some s} h q e = rw q at (standing_there h (sym e))
placed {r = None} h q e = none_left h (sym e) (omega arith)

pub ruleset placing = (start, past, placed)
