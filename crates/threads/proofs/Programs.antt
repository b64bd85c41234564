-- A program that lies in lent slices, cut behind its first thread; and its threads one after the other.
use Rattle.std.proofs.Common.{◌≡◌, List, [], ◌∷◌, ◌++◌, ℕ, suc, ◌+◌, ◌-◌, ◌*◌, ◌≤◌, ◌<◌, length, get_or, take, drop, ap, sym, refl, ◌∙◌, arith, length-append, length-drop, append_assoc, slice_get, Some, get_or-drop, take-append-drop, take_all, take_at, drop_at, drop-cons, drop-drop, length-take}
use Rattle.std.proofs.lemmas.Option.{slice_get-get_or, slice_get_within, get_or_from_slice_get}
use Rattle.calculus.specs.Tree.{term, program, Tree, empty, alt, nodes, threads}
use Rattle.calculus.specs.Column.{column}
use Rattle.calculus.specs.Sheets.{sheet}
use Rattle.calculus.specs.Good.{Good}
use Rattle.calculus.specs.Calls.{TableOf, ThreadOf}
use Rattle.calculus.proofs.Preorders.{nodes_positive, preorder_length, program_of_threads}
use Rattle.calculus.proofs.Columns.{column_length, column_first}
use Rattle.table.specs.Nodes.{NodeIs, Stands}
use Rattle.table.proofs.Trees.{IsAlt, alt_at, program_at, at_front, in_table, ends_in, own_part, one_tree}
use Rattle.table.proofs.Verdicts.{table_stands}
use Rattle.column.specs.Sizes.{Beside, SizeAt}
use Rattle.column.proofs.Admissions.{HeldIn}
use Rattle.column.proofs.Locals.{column_sizes}
use Rattle.threads.specs.Places.{ProgramAt}
use Rattle.threads.specs.Programs.{ProgramLies, ThreadLies, FirstEnds, one_program}
use Rattle.threads.proofs.Places.{held_program}

module _ (l c : List ℕ) (h : ProgramLies l c) where
  -- it stands at the front
  pub lies_there : Stands l 0 h.0
  lies_there = record { rest = drop (2 * nodes h.0) l; here = sym (take-append-drop (2 * nodes h.0) l) ∙ ap (λ (f : List ℕ). f ++ drop (2 * nodes h.0) l) h.1.0 }

  -- and has a first node
  pub some_node : 2 ≤ length l
  some_node = in_table lies_there

  -- which is its only one where it is the empty node
  pub no_thread : {k m : ℕ} → NodeIs l 0 k m → k ≡ 0 → (p : ProgramLies l c) → p.0 ≡ empty
  no_thread n e p = ap (λ (v : ProgramLies l c). v.0) (one_program l c p h) ∙ program_at h.0 0 (sym n.kind_is ∙ e) lies_there

-- the entries of a thread and of those behind it
record Cut (c : List ℕ) (t : Tree term) (p : Tree program) : Type 0 where
  pub many : get_or c 1 0 ≡ nodes t
  pub long : 1 + nodes t + nodes p ≤ length c
  pub first : take (nodes t) (drop 1 c) ≡ column t
  pub others : take (nodes p) (drop (1 + nodes t) c) ≡ column p

-- by what stands in the column
cut_at : (c r : List ℕ) (a : ℕ) (t : Tree term) (p : Tree program) → c ≡ a ∷ (column t ++ (column p ++ r)) → Cut c t p
cut_at c r a t p w =
    let s : 1 + nodes t ≡ suc (nodes t) = omega arith in
    let d : drop (1 + nodes t) c ≡ column p ++ r = rw (s, w) (drop_at (column t) (column p ++ r) (nodes t) (column_length t)) in
    record {
      many = rw w (column_first t (column p ++ r));
      long = omega (arith, ap length w, length-append (column t) (column p ++ r), length-append (column p) r, column_length t, column_length p);
      first = rw w (take_at (column t) (column p ++ r) (nodes t) (column_length t));
      others = rw d (take_at (column p) r (nodes p) (column_length p));
    }

cut : (c : List ℕ) (t : Tree term) (p : Tree program) → take (nodes (alt t p)) c ≡ column (alt t p) → Cut c t p
unfolding nodes column
cut c t p e =
    let n = nodes (alt t p) in
    let r = drop n c in
    let a = suc (nodes t + nodes p) in
    cut_at c r a t p (sym (take-append-drop n c) ∙ ap (λ (f : List ℕ). f ++ r) e ∙ ap (λ (f : List ℕ). a ∷ f) (append_assoc (column t) (column p) r))

-- what is left of a list is all that is left of it
to_end : (l : List ℕ) (i : ℕ) → take (length l - i) (drop i l) ≡ drop i l
to_end l i = take_all (length l - i) (drop i l) (omega (arith, length-drop i l))

-- where it is no empty node
module _ (l c : List ℕ) (h : ProgramLies l c) {k m : ℕ} (n : NodeIs l 0 k m) (f : k ≡ 0 → ⊥) where
  one_more : IsAlt l 0 h.0
  one_more = alt_at h.0 (λ e. f (n.kind_is ∙ e)) (lies_there l c h)

  entries : Cut c one_more.thread one_more.others
  entries = cut c one_more.thread one_more.others (rw one_more.is at h.1.1)

  pub second_size : 1 < length c
  second_size = omega (arith, entries.long, nodes_positive one_more.thread)

  module _ {r : ℕ} (e : SizeAt c 1 r) where
    many : nodes one_more.thread ≡ r
    many = sym (e.is ∙ entries.many)

    pub end_bounds : (1 ≤ 1 + r) × ((2 * (1 + r) ≤ length l) × (1 + r ≤ length c))
    end_bounds = (omega (arith, many), (omega (arith, many, ends_in one_more.stands), omega (arith, many, entries.long)))

    pub first_ends : FirstEnds l c (1 + r)
    first_ends =
        let a = one_more in
        let n : 2 * (1 + r) - 2 ≡ 2 * nodes a.thread = omega (arith, many) in
        let w : Stands l (1 + r) a.others = rw many at a.next in
        let q : take (nodes a.others) (drop (1 + r) c) ≡ column a.others = rw many at entries.others in
        record {
          first = (a.thread, (rw n (sym (own_part a.stands)), rw (to_end c 1) entries.first));
          others = (a.others, (rw (to_end l (2 * (1 + r))) (own_part w), rw (to_end c (1 + r)) q));
          is = λ p. ap (λ (v : ProgramLies l c). v.0) (one_program l c p h) ∙ a.is;
        }

-- The threads of a program, one after the other: so many are passed, then t is the next, and r the program of those behind it.
module _ (p : Tree program) where
  -- there is none
  pub none_there : (k : ℕ) → p ≡ empty → length (threads p) ≤ k
  unfolding threads
  none_there k e = rw e (omega arith)

  -- none is passed
  pub first_there : (t : Tree term) (r : Tree program) → p ≡ alt t r → drop 0 (threads p) ≡ t ∷ threads r
  unfolding threads
  first_there t r e = rw e refl

  -- behind t there is none
  pub no_more : (i k : ℕ) (t : Tree term) (r : Tree program) → drop i (threads p) ≡ t ∷ threads r → r ≡ empty → i < k → length (threads p) ≤ k
  unfolding threads
  no_more i k t r h e l = let q : drop i (threads p) ≡ t ∷ [] = h ∙ rw e refl in omega (arith, ap length q, length-drop i (threads p))

  -- t is passed
  pub next_there : (i : ℕ) (t u : Tree term) (r s : Tree program) → drop i (threads p) ≡ t ∷ threads r → r ≡ alt u s → drop (i + 1) (threads p) ≡ u ∷ threads s
  unfolding threads
  next_there i t u r s h e = sym (drop-drop 1 i (threads p)) ∙ ap (drop 1) h ∙ rw e refl

  -- t is the thread of that number
  pub is_there : (k : ℕ) (t : Tree term) (r : Tree program) → drop k (threads p) ≡ t ∷ threads r → slice_get (threads p) k ≡ Some t
  is_there k t r h =
      let q : k < length (threads p) = omega (arith, ap length h, length-drop k (threads p)) in
      let z : k + 0 ≡ k = omega arith in
      let g : get_or (threads p) k t ≡ t = rw (← z) (sym (get_or-drop k (threads p) 0 t) ∙ ap (λ (l : List (Tree term)). get_or l 0 t) h) in
      slice_get-get_or (threads p) k t q ∙ ap Some g

pub ruleset passing = (none_there, first_there, no_more, next_there, is_there)

-- what stands at the front with its column lies there
pub program_lies : (l c : List ℕ) → ProgramAt l c → ProgramLies l c
program_lies l c h = (h.program_there, (own_part h.stands, h.column_of.is))

module _ {n count : ℕ} {l c : List ℕ} (a : HeldIn n (sheet l c) count) where
  -- so does what the check admits
  pub held_lies : ProgramLies l c
  held_lies = program_lies l c (held_program a)

  -- and is the program that is seen there
  pub held_good : (p : ProgramLies l c) → TableOf n l count p.0 × Good n p.0
  held_good p = rw (one_tree p.0 a.program_there (lies_there l c p) (table_stands a.table_of)) (a.table_of, a.good)

-- the column of a thread goes with its nodes
pub thread_beside : (l c : List ℕ) → ThreadLies l c → Beside l c
thread_beside l c h =
    let x = h.0 in
    let m : nodes x ≤ length c = omega (arith, ap length h.1.1, column_length x, length-take (nodes x) c) in
    let w = column_sizes x (at_front x (sym h.1.0)) refl (record { long = m; is = h.1.1 }) in
    let e : length l ≡ 2 * nodes x = omega (arith, ap length h.1.0, preorder_length x) in
    record {
      long = omega (arith, e, m);
      sizes = record { sized = λ y j g lo hi. w.sized y j g lo (omega (arith, ends_in g, e)) };
    }

-- the thread k of a program in a table, with those before and after it
pub thread_of : {n count k : ℕ} {l : List ℕ} {p : Tree program} {x : Tree term} → TableOf n l count p → slice_get (threads p) k ≡ Some x → ThreadOf n l count k x
thread_of {k = k} {p = p} {x = x} o e =
    let ts = threads p in
    let m : k < length ts = slice_get_within ts k x e in
    let d : drop k ts ≡ x ∷ drop (suc k) ts = drop-cons ts k x m ∙ ap (λ (y : Tree term). y ∷ drop (suc k) ts) (get_or_from_slice_get ts k x x e) in
    let s : take k ts ++ (x ∷ drop (suc k) ts) ≡ ts = ap (λ (f : List (Tree term)). take k ts ++ f) (sym d) ∙ take-append-drop k ts in
    record {
      before = take k ts;
      after = drop (suc k) ts;
      table_of = rw (s, program_of_threads p) o;
      place = omega (arith, m, length-take k ts);
    }
