-- Where the allocated abstractions of a tree stand in a table.
use mathlib.Core.Path.{◌≡◌, refl, sym, ap, ◌∙◌}
use mathlib.Core.Logic.{inl, inr, ⊎_elim}
use mathlib.Core.Bool.{Bool, true, false}
use mathlib.Core.List.{List}
use Prim.Native.Nat.{ℕ, ◌+◌, ◌*◌, ◌/◌, ◌≤◌, ◌<◌}
use native.Mathlib.Omega.{arith}
use native.Mathlib.Nat.{eq-or-lt_of_le}
use native.Mathlib.Decide.{dec_lt}
use lib.Dec.{eqb}
use lib.ListN.{length, take}
use lib.Seq.{length-take-le, get_or-take}
use borrow.Author.Tests.{eqb-true, eqb-false}
use Rattle.calculus.specs.Tree.{Sort, term, program, Head, code, at, Tree, empty, alt, bound, free, con, abs, fresh, two, preorder, nodes}
use Rattle.calculus.specs.Good.{HeadInRange, InRange, Here, Holds, HoldsClosure}
use Rattle.calculus.proofs.Preorders.{preorder_length}
use Rattle.calculus.proofs.Preservation.{Among}
use Rattle.table.specs.Nodes.{kind_at, number_at, NodeIs, NoneOf, Stands}
use Rattle.table.specs.Checks.{IsThread, NoneAllocated}
use Rattle.table.proofs.Positions.{NodeWith}
use Rattle.table.proofs.Trees.{Seen, see, IsBody, term_at, program_at, moved, at_front}

-- an allocated abstraction with the location l and the body q stands at a node from `lo` on, before `hi`
record Closure (t : List ℕ) (lo hi l : ℕ) (q : Tree program) : Type 0 where
  closure : NodeWith 6 t hi l
  from : lo ≤ closure.node
  stands : Stands t (closure.node + 1) q

wider : {t : List ℕ} {lo hi l : ℕ} {q : Tree program} (lo' hi' : ℕ) → lo' ≤ lo → hi ≤ hi' → Closure t lo hi l q → Closure t lo' hi' l q
wider lo' hi' f g c =
    let n = c.closure in
    record { closure = record { node = n.node; below = omega arith; kind_is = n.kind_is; number_is = n.number_is }; from = omega arith; stands = c.stands }

module _ (t : List ℕ) (l : ℕ) (q : Tree program) where
  here_stands : (i hi : ℕ) (h : Head) (p : Tree program) → Seen t i (abs h p) → Here l q h p → i < hi → Closure t i hi l q
  here_stands i hi code p w e b = absurd e
  here_stands i hi (at m) p w e b =
      record { closure = record { node = i; below = b; kind_is = w.kind_is; number_is = w.number_is ∙ e.0 }; from = omega arith; stands = rw e.1 at w.parts_stand }

  -- what a tree holds stands in it
  holds_stands : {s : Sort} (i : ℕ) (x : Tree s) → Stands t i x → Holds l q x → Closure t i (i + nodes x) l q
  unfolding nodes
  holds_stands i empty w h = absurd h
  holds_stands i (alt a p) w (inl h) = wider _ _ (omega arith) (omega arith) (holds_stands (i + 1) a (see _ w).parts_stand.0 h)
  holds_stands i (alt a p) w (inr h) = wider _ _ (omega arith) (omega arith) (holds_stands (i + 1 + nodes a) p (see _ w).parts_stand.1 h)
  holds_stands i (bound m) w h = absurd h
  holds_stands i (free m) w h = absurd h
  holds_stands i (con m) w h = absurd h
  holds_stands i (abs b p) w (inl h) = here_stands i _ b p (see _ w) h (omega arith)
  holds_stands i (abs b p) w (inr h) = wider _ _ (omega arith) (omega arith) (holds_stands (i + 1) p (see _ w).parts_stand h)
  holds_stands i (fresh a) w h = wider _ _ (omega arith) (omega arith) (holds_stands (i + 1) a (see _ w).parts_stand h)
  holds_stands i (two o a b) w (inl h) = wider _ _ (omega arith) (omega arith) (holds_stands (i + 1) a (see _ w).parts_stand.0 h)
  holds_stands i (two o a b) w (inr h) = wider _ _ (omega arith) (omega arith) (holds_stands (i + 1 + nodes a) b (see _ w).parts_stand.1 h)

-- the body of an allocated abstraction with the location l that the tree x holds stands at the node i
pub record Held {s : Sort} (t : List ℕ) (i l : ℕ) (x : Tree s) : Type 0 where
  pub body : Tree program
  pub stands : Stands t i body
  pub holds : Holds l body x

up : {s u : Sort} {t : List ℕ} {i l : ℕ} (a : Tree s) (x : Tree u) → Among a x → Held t i l a → Held t i l x
up a x f h = record { body = h.body; stands = h.stands; holds = f _ _ h.holds }

body_held : {t : List ℕ} {i m : ℕ} {x : Tree term} → IsBody t i (at m) x → Held t (i + 1) m x
body_held b = record { body = b.body; stands = b.stands; holds = rw b.is (inl (refl, refl)) }

-- the tree whose first node has the kind 6
first_held : {s : Sort} (t : List ℕ) (i : ℕ) (x : Tree s) → Stands t i x → kind_at t i ≡ 6 → Held t (i + 1) (number_at t i) x
first_held {s = term} t i x w e = body_held (term_at x 6 e w)
first_held {s = program} t i p w e = absurd (program_at p 6 e w)

module _ (t : List ℕ) (j : ℕ) (k : kind_at t j ≡ 6) where
  -- what is shown of the nodes below a tree's first one holds of its first one too
  at_or_below : {s u : Sort} (i : ℕ) (a : Tree s) (x : Tree u) → Stands t i a → Among a x → (i < j → j < i + nodes a → Held t (j + 1) (number_at t j) a) → i ≤ j → j < i + nodes a → Held t (j + 1) (number_at t j) x
  at_or_below i a x w f deep lo hi =
      up a x f (⊎_elim (λ (e : i ≡ j). first_held t j a (moved e w) k) (λ (h : i < j). deep h hi) (eq-or-lt_of_le lo))

  first_or_second : {s u v : Sort} (i : ℕ) (a : Tree s) (b : Tree u) (x : Tree v) → Stands t i a × Stands t (i + nodes a) b → Among a x → Among b x →
      (i < j → j < i + nodes a → Held t (j + 1) (number_at t j) a) → (i + nodes a < j → j < i + nodes a + nodes b → Held t (j + 1) (number_at t j) b) → i ≤ j → j < i + nodes a + nodes b → Held t (j + 1) (number_at t j) x
  first_or_second i a b x w f g deep deeper lo hi =
      elim (dec_lt j (i + nodes a)) [ yes h ↦ at_or_below i a x w.0 f deep lo h | no h ↦ at_or_below (i + nodes a) b x w.1 g deeper (omega arith) hi ]

  below : {s : Sort} (i : ℕ) (x : Tree s) → Stands t i x → i < j → j < i + nodes x → Held t (j + 1) (number_at t j) x
  unfolding nodes
  below i empty w lo hi = absurd (omega arith)
  below i (alt a p) w lo hi =
      let v = (see _ w).parts_stand in
      first_or_second (i + 1) a p _ v (λ l q. inl) (λ l q. inr) (below (i + 1) a v.0) (below (i + 1 + nodes a) p v.1) (omega arith) (omega arith)
  below i (bound m) w lo hi = absurd (omega arith)
  below i (free m) w lo hi = absurd (omega arith)
  below i (con m) w lo hi = absurd (omega arith)
  below i (abs b p) w lo hi = let v = (see _ w).parts_stand in at_or_below (i + 1) p _ v (λ l q. inr) (below (i + 1) p v) (omega arith) (omega arith)
  below i (fresh a) w lo hi = let v = (see _ w).parts_stand in at_or_below (i + 1) a _ v (λ l q h. h) (below (i + 1) a v) (omega arith) (omega arith)
  below i (two o a b) w lo hi =
      let v = (see _ w).parts_stand in
      first_or_second (i + 1) a b _ v (λ l q. inl) (λ l q. inr) (below (i + 1) a v.0) (below (i + 1 + nodes a) b v.1) (omega arith) (omega arith)

  -- a node of the kind 6 is a closure that the tree holds
  stands_held : {s : Sort} (i : ℕ) (x : Tree s) → Stands t i x → i ≤ j → j < i + nodes x → Held t (j + 1) (number_at t j) x
  stands_held i x w lo hi = at_or_below i x x w (λ l q h. h) (below i x w) lo hi

-- locations are in range
located : (n l : ℕ) (q : Tree program) (h : Head) (p : Tree program) → HeadInRange n h → Here l q h p → l < n
located n l q code p r e = absurd e
located n l q (at m) p r e = omega (arith, e.0)

holds_in_range : {s : Sort} (n l : ℕ) (q : Tree program) (x : Tree s) → InRange n x → Holds l q x → l < n
holds_in_range n l q empty r h = absurd h
holds_in_range n l q (alt a p) r (inl h) = holds_in_range n l q a r.0 h
holds_in_range n l q (alt a p) r (inr h) = holds_in_range n l q p r.1 h
holds_in_range n l q (bound m) r h = absurd h
holds_in_range n l q (free m) r h = absurd h
holds_in_range n l q (con m) r h = absurd h
holds_in_range n l q (abs b p) r (inl h) = located n l q b p r.0 h
holds_in_range n l q (abs b p) r (inr h) = holds_in_range n l q p r.1 h
holds_in_range n l q (fresh a) r h = holds_in_range n l q a r h
holds_in_range n l q (two o a b) r (inl h) = holds_in_range n l q a r.0 h
holds_in_range n l q (two o a b) r (inr h) = holds_in_range n l q b r.1 h

-- an allocated abstraction with the location l is among the first i nodes of the part
abbrev pub Met : List ℕ → ℕ → ℕ → Type 0
Met = NodeWith 6

module _ (part : List ℕ) (x : Tree term) (is : part ≡ preorder x) where
  stands_whole : Stands part 0 x
  stands_whole = at_front x is

  -- a node of the kind 6 is an allocated abstraction that the thread holds, and its body stands behind it
  pub met_held : (i l : ℕ) → 2 * i ≤ length part → (m : Met part i l) → Held part (m.node + 1) l x
  met_held i l b m = rw m.number_is at (stands_held part m.node m.kind_is 0 x stands_whole (omega arith) (omega (arith, preorder_length x, ap length is)))

  -- each that the thread holds is such a node
  pub held_met : (i l : ℕ) (q : Tree program) → 2 * i ≡ length part → Holds l q x → (m : Met part i l) × Stands part (m.node + 1) q
  held_met i l q b h =
      let c = holds_stands part l q 0 x stands_whole h in
      let m = c.closure in
      (record { node = m.node; below = omega (arith, preorder_length x, ap length is); kind_is = m.kind_is; number_is = m.number_is }, c.stands)

-- the location of such a node is in range
pub met_in_range : {n : ℕ} {part : List ℕ} {i l : ℕ} → IsThread n part → 2 * i ≤ length part → Met part i l → l < n
met_in_range {n} {part} {i} {l} t b m = let h = met_held part t.thread t.is i l b m in holds_in_range n l h.body t.thread t.ranges h.holds

-- the node that was read
pub met_here : {part : List ℕ} {i k l : ℕ} (j : ℕ) → NodeIs part i k l → k ≡ 6 → i < j → Met part j l
met_here {i} j r e b = record { node = i; below = b; kind_is = sym r.kind_is ∙ e; number_is = sym r.number_is }

-- What the pass over the nodes tells of a program that they are.
module _ {t : List ℕ} {count : ℕ} {r : Bool} (h : NoneAllocated t count r) (p : Tree program) (w : Stands t 0 p) (e : nodes p ≡ count) where
  -- where it found none, none is held
  pub none_held : r ≡ true → HoldsClosure p → ⊥
  none_held f k = let c = (holds_stands t k.0 k.1.0 0 p w k.1.1).closure in h.none f c.node (omega (arith, c.below)) c.kind_is

  -- where it found one, one is
  pub one_held : r ≡ false → HoldsClosure p
  one_held f = let (k, (b, is)) = h.some f in let c = stands_held t k is 0 p w (omega arith) (omega arith) in (_, (c.body, c.holds))

-- On the way along the nodes: none of those before i has the kind,
pub record NonePassed (t : List ℕ) (kind i : ℕ) : Type 0 where
  pub none : (k : ℕ) → k < i → kind_at t k ≡ kind → ⊥

-- or one has it.
pub record OnePassed (t : List ℕ) (kind i : ℕ) : Type 0 where
  pub node : ℕ
  pub before : node < i
  pub kind_is : kind_at t node ≡ kind

-- before the first there is none
pub none_yet : (t : List ℕ) (kind : ℕ) → NonePassed t kind 0
none_yet t kind = record { none = λ k b. absurd (omega arith) }

-- one node more that has another kind
pub none_more : {t : List ℕ} {kind i k m : ℕ} → NonePassed t kind i → NodeIs t i k m → (k ≡ kind → ⊥) → NonePassed t kind (i + 1)
none_more {i = i} f q c = record { none = λ j b s. let h : j ≤ i = omega arith in ⊎_elim (λ (e : j ≡ i). c (q.kind_is ∙ rw (← e) s)) (λ l. f.none j l s) (eq-or-lt_of_le h) }

-- one that has it
pub one_more : {t : List ℕ} {kind i k m : ℕ} → NodeIs t i k m → k ≡ kind → OnePassed t kind (i + 1)
one_more {i = i} q e = record { node = i; before = omega arith; kind_is = sym q.kind_is ∙ e }

-- what was passed stays so
pub one_still : {t : List ℕ} {kind i : ℕ} → OnePassed t kind i → OnePassed t kind (i + 1)
one_still o = record { node = o.node; before = omega (arith, o.before); kind_is = o.kind_is }

-- behind the last, what was counted tells
pub passed_told : {t : List ℕ} {kind i found : ℕ} → i ≡ length t / 2 → (found ≡ 0 → NonePassed t kind i) → (0 < found → OnePassed t kind i) → NoneOf t kind (eqb found 0)
passed_told {found = found} h f g = record {
  none = λ e k b. (f (eqb-true found 0 e)).none k (omega arith);
  some = λ e. let some : found ≡ 0 → ⊥ = eqb-false found 0 e in let o = g (omega arith) in (o.node, (omega (arith, o.before), o.kind_is));
}

-- of the first nodes of a table
pub none_of_front : {t : List ℕ} {count : ℕ} {r : Bool} → 2 * count ≤ length t → NoneOf (take (2 * count) t) 6 r → NoneAllocated t count r
none_of_front {t} {count} fits h =
    let long : length (take (2 * count) t) ≡ 2 * count = length-take-le (2 * count) t fits in
    record {
      none = λ e k b is. h.none e k (omega arith) (get_or-take (2 * count) t (2 * k) 0 (omega arith) ∙ is);
      some = λ e. let (k, (b, is)) = h.some e in (k, (omega arith, sym (get_or-take (2 * count) t (2 * k) 0 (omega arith)) ∙ is));
    }
