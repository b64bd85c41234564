-- The pieces of a text that are still to be written: their cells on the stack, and what a turn makes of the first one.
use mathlib.Core.Path.{◌≡◌, refl, sym, ap, ◌∙◌}
use mathlib.Core.Logic.{◌⊎◌, inl, inr}
use mathlib.Core.List.{List, [], ◌∷◌, ◌++◌, append_assoc}
use Prim.Native.Nat.{ℕ, ◌+◌, ◌-◌, ◌*◌, ◌≤◌, ◌<◌}
use native.Mathlib.Omega.{arith}
use lib.ListN.{length, get_or, length-append}
use lib.Seq.{sets}
use Rattle.calculus.specs.Tree.{term, program, Tree, empty, alt, nodes}
use Rattle.calculus.proofs.Preorders.{nodes_positive}
use Rattle.table.specs.Nodes.{NodeIs, Stands, parts}
use Rattle.table.specs.Kinds.{kind_code}
use Rattle.table.specs.declared.kinds.Kind.{Kind}
use Rattle.table.specs.declared.kinds.Kind.TheVariants.{Empty, Alternative, Bound, Free, Constructor, Abstraction, Allocated, Application, Fresh, Guard, Unification}
use Rattle.table.proofs.Trees.{IsAlt, alt_at, program_at, one_tree, in_table}
use Rattle.writing.specs.Writing.{RoomForText, CellsForText, TextWritten}
use Rattle.writing.specs.Writer.{head_bytes, spelt, Fits, Wrote, Pushed, Piece, a_term, a_rest, closing, cell, spelt_all, StandAll, cells_for, Stacked, ToCome, Unwritten, InHand, Asked, Put}
use Rattle.writing.specs.declared.write.Output.{Output}
use Rattle.writing.specs.declared.write.Piece.{Piece as Code}
use Rattle.writing.specs.declared.write.Piece.TheVariants.{Rest}
use Rattle.writing.specs.Cells.{code, Popped}
use Rattle.writing.proofs.Written.{sets_append, wrote_none, wrote_more, bracketed_length, inner, TermNode, term_node, Parts, parts_at, members_alt, members_empty, text_is}

-- The stack.

-- cells that are as they were serve the same pieces
kept : (stack after : List ℕ) (cells : ℕ) (l : List Piece) → ((i : ℕ) → i < cells → get_or after i 0 ≡ get_or stack i 0) → Stacked stack cells l → Stacked after cells l
kept stack after cells [] f h = h
kept stack after cells (x ∷ l) f h = (h.0, (h.1.0, (f h.0 (omega arith) ∙ h.1.1.0, kept stack after h.0 l (λ i g. f i (omega arith)) h.1.1.1)))

-- a cell is one of three numbers
cell_small : (x : Piece) → cell x ≤ 2
cell_small (a_term x) = omega arith
cell_small (a_rest p) = omega arith
cell_small closing = omega arith

-- a cell more, a piece more
more : {stack after : List ℕ} {cells next : ℕ} (x : Piece) (l : List Piece) → Stacked stack cells l → Pushed stack after cells next (cell x) → Stacked after next (x ∷ l)
more {stack} {after} {cells} x l h p = (cells, (p.next_is, (p.top, kept stack after cells l p.below h)))

-- there are no more cells than the pieces can come to take
few : (stack : List ℕ) (cells : ℕ) (l : List Piece) → Stacked stack cells l → cells ≤ cells_for l
few stack cells [] h = omega arith
few stack cells (a_term x ∷ l) h = omega (arith, few stack h.0 l h.1.1.1, nodes_positive x)
few stack cells (a_rest p ∷ l) h = omega (arith, few stack h.0 l h.1.1.1, nodes_positive p)
few stack cells (closing ∷ l) h = omega (arith, few stack h.0 l h.1.1.1)

-- from a node that is said otherwise
stand_at : (t : List ℕ) {i j : ℕ} (l : List Piece) → i ≡ j → StandAll t i l → StandAll t j l
stand_at t l e h = rw e at h

-- some bytes of the pieces `l` are written, and the pieces `m` are left of them
on : {t last stack stack' b : List ℕ} {out after : Output} {at node : ℕ} (l m : List Piece) → ToCome t last at out stack l → Wrote out after b → spelt_all l ≡ b ++ spelt_all m → StandAll t node m → cells_for m ≤ cells_for l → length stack' ≡ length stack → ToCome t last node after stack' m
on {b = b} {out} l m h w e s f g = record {
  stand = s;
  room = record { fits = omega (arith, ap length e, length-append b (spelt_all m)) };
  makes = cc (sets_append out.bytes.now out.at b (spelt_all m), w.is, w.next_is, e, h.makes);
  enough = omega arith;
}

-- The first piece by its cell.

module _ (t last : List ℕ) (at : ℕ) (out : Output) (stack : List ℕ) (cells : ℕ) where
  -- a term
  record TermFirst : Type 0 where
    tree : Tree term
    others : List Piece
    stacked : Stacked stack cells others
    to_come : ToCome t last at out stack (a_term tree ∷ others)

  -- the rest of a program
  record RestFirst : Type 0 where
    rest : Tree program
    others : List Piece
    stacked : Stacked stack cells others
    to_come : ToCome t last at out stack (a_rest rest ∷ others)

  -- a closing bracket
  record ClosingFirst : Type 0 where
    others : List Piece
    stacked : Stacked stack cells others
    to_come : ToCome t last at out stack (closing ∷ others)

module _ {t last stack : List ℕ} {out : Output} {at cells : ℕ} where
  -- the cell on top says what comes first
  top_in_hand : Unwritten t last at out stack cells → 0 < cells → InHand (get_or stack (cells - 1) 0) t last at out stack (cells - 1)
  top_in_hand h f = go h.pieces h.stacked h.to_come
    where
      go : (l : List Piece) → Stacked stack cells l → ToCome t last at out stack l → InHand (get_or stack (cells - 1) 0) t last at out stack (cells - 1)
      go [] e k = absurd (omega arith)
      go (x ∷ l) s k =
          let e : cells - 1 ≡ s.0 = omega arith in
          record { piece = x; is = rw e s.1.1.0; others = l; stacked = rw e s.1.1.1; to_come = k }

  -- no cell: all is written
  all_written : Unwritten t last at out stack cells → cells ≤ 0 → out.bytes.now ≡ last
  all_written h f = go h.pieces h.stacked h.to_come
    where
      go : (l : List Piece) → Stacked stack cells l → ToCome t last at out stack l → out.bytes.now ≡ last
      go [] e k = k.makes
      go (x ∷ l) s k = absurd (omega arith)

  -- 0 is a term's cell, 1 that of a program's rest, 2 a closing bracket's
  first_term : {c : ℕ} → c ≡ 0 → InHand c t last at out stack cells → TermFirst t last at out stack cells
  first_term e h = go h.piece h.others (sym e ∙ h.is) h.stacked h.to_come
    where
      go : (x : Piece) (l : List Piece) → 0 ≡ cell x → Stacked stack cells l → ToCome t last at out stack (x ∷ l) → TermFirst t last at out stack cells
      go (a_term x) l e s k = record { tree = x; others = l; stacked = s; to_come = k }
      go (a_rest p) l e s k = absurd (omega arith)
      go closing l e s k = absurd (omega arith)

  first_closing : {c : ℕ} → c ≡ 2 → InHand c t last at out stack cells → ClosingFirst t last at out stack cells
  first_closing e h = go h.piece h.others (sym e ∙ h.is) h.stacked h.to_come
    where
      go : (x : Piece) (l : List Piece) → 2 ≡ cell x → Stacked stack cells l → ToCome t last at out stack (x ∷ l) → ClosingFirst t last at out stack cells
      go (a_term x) l e s k = absurd (omega arith)
      go (a_rest p) l e s k = absurd (omega arith)
      go closing l e s k = record { others = l; stacked = s; to_come = k }

  first_rest : {c : ℕ} → c ≡ 1 → InHand c t last at out stack cells → RestFirst t last at out stack cells
  first_rest e h = go h.piece h.others (sym e ∙ h.is) h.stacked h.to_come
    where
      go : (x : Piece) (l : List Piece) → 1 ≡ cell x → Stacked stack cells l → ToCome t last at out stack (x ∷ l) → RestFirst t last at out stack cells
      go (a_term x) l e s k = absurd (omega arith)
      go (a_rest p) l e s k = record { rest = p; others = l; stacked = s; to_come = k }
      go closing l e s k = absurd (omega arith)

-- A closing bracket.

module _ {t stack : List ℕ} {out : Output} {c at cells : ℕ} (e : c ≡ 2) where
  -- there is room for it
  pub closing_room : Asked c t at out stack cells → Fits out (41 ∷ [])
  closing_room a = let f = first_closing e a.in_hand in record { fits = omega arith }

  -- it is written
  pub closing_put : {after : Output} → Wrote out after (41 ∷ []) → Put c t at out stack cells after stack at cells
  closing_put w = record {
    same = w.same;
    same_length = w.same_length;
    later = omega arith;
    then_on = λ last h.
        let f = first_closing e h in
        record { pieces = f.others; stacked = f.stacked; to_come = on (closing ∷ f.others) f.others f.to_come w refl f.to_come.stand (omega arith) refl };
  }

-- The rest of a program.

-- a member, and then the rest behind it
member_all : {p q : Tree program} {x : Tree term} → p ≡ alt x q → (l : List Piece) → spelt_all (a_rest p ∷ l) ≡ spelt_all (a_term x ∷ a_rest q ∷ l)
member_all {q} {x} e l = rw (e, members_alt x q, append_assoc)

module _ {t stack : List ℕ} {out : Output} {at cells : ℕ} {piece : Code} (r : piece ≡ Rest) where
  -- it stands in the table
  pub rest_inside : Asked (code piece) t at out stack cells → 2 * at + 2 ≤ length t
  rest_inside a = let f = first_rest (ap code r) a.in_hand in in_table f.to_come.stand.0

  module _ {k m : ℕ} (n : NodeIs t at k m) where
    module _ (z : k ≡ 0) where
      -- at its end only the closing bracket is left
      ended : {last : List ℕ} (f : RestFirst t last at out stack cells) → f.rest ≡ empty
      ended f = program_at f.rest 0 (sym n.kind_is ∙ z) f.to_come.stand.0

      -- for which there is room
      pub end_room : Asked (code piece) t at out stack cells → Fits out (41 ∷ [])
      end_room a =
          let f = first_rest (ap code r) a.in_hand in
          let w = simp length-append at f.to_come.room.fits in
          record { fits = omega arith }

      -- it is written
      pub end_put : {after : Output} → Wrote out after (41 ∷ []) → Put (code piece) t at out stack cells after stack (at + 1) cells
      unfolding nodes
      end_put w = record {
        same = w.same;
        same_length = w.same_length;
        later = omega arith;
        then_on = λ last h.
            let f = first_rest (ap code r) h in
            let e = ended f in
            record {
              pieces = f.others;
              stacked = f.stacked;
              to_come = on (a_rest f.rest ∷ f.others) f.others f.to_come w (rw (e, members_empty)) (stand_at t f.others (rw e) f.to_come.stand.1) (omega arith) refl;
            };
      }

    module _ (z : k ≡ 0 → ⊥) where
      member : {last : List ℕ} (f : RestFirst t last at out stack cells) → IsAlt t at f.rest
      member f = alt_at f.rest (λ e. z (n.kind_is ∙ e)) f.to_come.stand.0

      -- there is room on the stack for what follows its next member
      pub rest_cell : Asked (code piece) t at out stack cells → cells < length stack
      rest_cell a = let f = first_rest (ap code r) a.in_hand in omega (arith, few stack cells f.others f.stacked, nodes_positive f.rest)

      module _ {after : List ℕ} {next : ℕ} (p : Pushed stack after cells next 1) where
        -- its next member is a term to be written
        member_in_hand : {last : List ℕ} → InHand (code piece) t last at out stack cells → InHand 0 t last (at + 1) out after next
        unfolding nodes
        member_in_hand h =
            let f = first_rest (ap code r) h in
            let q = member f in
            let s = q.others in
            let e : nodes f.rest ≡ 1 + nodes q.thread + nodes s = omega (arith, ap nodes q.is) in
            record {
              piece = a_term q.thread;
              is = refl;
              others = a_rest s ∷ f.others;
              stacked = more (a_rest s) f.others f.stacked p;
              to_come = on (a_rest f.rest ∷ f.others) (a_term q.thread ∷ a_rest s ∷ f.others) f.to_come (wrote_none out) (member_all q.is f.others) (q.stands, (q.next, stand_at t f.others (omega arith) f.to_come.stand.1)) (omega arith) p.same_length;
            }

        -- that is asked for
        pub member_asked : Asked (code piece) t at out stack cells → Asked 0 t (at + 1) out after next
        member_asked a = record { last = a.last; in_hand = member_in_hand a.in_hand }

        -- and done
        pub member_put : {out' : Output} {stack' : List ℕ} {node cells' : ℕ} → Put 0 t (at + 1) out after next out' stack' node cells' → Put (code piece) t at out stack cells out' stack' node cells'
        member_put g = record { same = g.same; same_length = g.same_length; later = g.later; then_on = λ last h. g.then_on last (member_in_hand h) }

-- A term.

-- a node by its kind
of_kind : {t : List ℕ} {at j m : ℕ} (k : Kind) → kind_code k ≡ j → NodeIs t at j m → NodeIs t at (kind_code k) m
of_kind k e i = rw e i

-- a kind without parts, one with some, the two with a program, and those with two terms
no_parts : (k : Kind) → get_or parts (kind_code k) 0 ≡ 0 → kind_code k < 5
no_parts Empty h = omega arith
no_parts Alternative h = absurd (omega arith)
no_parts Bound h = omega arith
no_parts Free h = omega arith
no_parts Constructor h = omega arith
no_parts Abstraction h = absurd (omega arith)
no_parts Allocated h = absurd (omega arith)
no_parts Application h = absurd (omega arith)
no_parts Fresh h = absurd (omega arith)
no_parts Guard h = absurd (omega arith)
no_parts Unification h = absurd (omega arith)

some_parts : (k : Kind) → 2 ≤ kind_code k → (get_or parts (kind_code k) 0 ≡ 0 → ⊥) → 5 ≤ kind_code k
some_parts Empty l h = absurd (omega arith)
some_parts Alternative l h = absurd (omega arith)
some_parts Bound l h = absurd (h refl)
some_parts Free l h = absurd (h refl)
some_parts Constructor l h = absurd (h refl)
some_parts Abstraction l h = omega arith
some_parts Allocated l h = omega arith
some_parts Application l h = omega arith
some_parts Fresh l h = omega arith
some_parts Guard l h = omega arith
some_parts Unification l h = omega arith

a_body : {k : Kind} → (k ≡ Abstraction) ⊎ (k ≡ Allocated) → (5 ≤ kind_code k) × (kind_code k < 7)
a_body (inl e) = rw e (omega arith, omega arith)
a_body (inr e) = rw e (omega arith, omega arith)

two_terms : (k : Kind) → 5 ≤ kind_code k → (k ≡ Abstraction → ⊥) → (k ≡ Allocated → ⊥) → (k ≡ Fresh → ⊥) → (7 ≤ kind_code k) × (kind_code k ≡ 8 → ⊥)
two_terms Empty l f g h = absurd (omega arith)
two_terms Alternative l f g h = absurd (omega arith)
two_terms Bound l f g h = absurd (omega arith)
two_terms Free l f g h = absurd (omega arith)
two_terms Constructor l f g h = absurd (omega arith)
two_terms Abstraction l f g h = absurd (f refl)
two_terms Allocated l f g h = absurd (g refl)
two_terms Application l f g h = (omega arith, λ e. omega arith)
two_terms Fresh l f g h = absurd (h refl)
two_terms Guard l f g h = (omega arith, λ e. omega arith)
two_terms Unification l f g h = (omega arith, λ e. omega arith)

-- with what it begins with at least a byte is written
head_later : (k m : ℕ) {out mid : Output} → Wrote out mid (head_bytes k m) → out.at < mid.at
unfolding head_bytes
head_later k m w = omega arith

module _ {t stack : List ℕ} {out : Output} {at cells : ℕ} where
  -- it stands in the table
  pub term_inside : Asked 0 t at out stack cells → 2 * at + 2 ≤ length t
  term_inside a = let f = first_term refl a.in_hand in in_table f.to_come.stand.0

  -- there is room on the stack for as many cells as it has nodes
  term_cells : {last : List ℕ} (f : TermFirst t last at out stack cells) → cells + nodes f.tree ≤ length stack
  term_cells f = omega (arith, few stack cells f.others f.stacked)

  -- and in the output for its bytes
  term_bytes : {last : List ℕ} (f : TermFirst t last at out stack cells) → out.at + length (spelt f.tree) ≤ length out.bytes.now
  term_bytes f = let w = simp length-append at f.to_come.room.fits in omega arith

  -- a kind stands there
  pub kind_there : {j m : ℕ} → NodeIs t at j m → Asked 0 t at out stack cells → j < 11
  kind_there i a = let f = first_term refl a.in_hand in (term_node i f.tree f.to_come.stand.0).small

  -- there is room for a cell
  pub close_cell : Asked 0 t at out stack cells → cells < length stack
  close_cell a = let f = first_term refl a.in_hand in omega (arith, term_cells f, nodes_positive f.tree)

  module _ (k : Kind) {j m : ℕ} (e : kind_code k ≡ j) (i : NodeIs t at j m) where
    node_of : {last : List ℕ} (f : TermFirst t last at out stack cells) → TermNode (kind_code k) m f.tree
    node_of f = term_node (of_kind k e i) f.tree f.to_come.stand.0

    parts_of : {last : List ℕ} (f : TermFirst t last at out stack cells) → Parts t at f.tree (kind_code k)
    parts_of f = parts_at (of_kind k e i) f.tree f.to_come.stand.0

    -- one with parts is an abstraction, or has terms
    with_parts : {last : List ℕ} (f : TermFirst t last at out stack cells) {r : ℕ} → r ≡ get_or parts (kind_code k) 0 → (r ≡ 0 → ⊥) → 5 ≤ kind_code k
    with_parts f q z = some_parts k (node_of f).large (λ v. z (q ∙ v))

    -- there is room for what it begins with
    pub head_asked : Asked 0 t at out stack cells → Fits out (head_bytes (kind_code k) m)
    head_asked a = let f = first_term refl a.in_hand in record { fits = omega (arith, term_bytes f, (node_of f).lengths) }

    module _ {s₁ : List ℕ} {c₁ : ℕ} (p₁ : Pushed stack s₁ cells c₁ 2) where
      -- a kind with parts: for one more
      pub part_cell : {r : ℕ} → r ≡ get_or parts (kind_code k) 0 → (r ≡ 0 → ⊥) → Asked 0 t at out stack cells → c₁ < length s₁
      part_cell q z a = let f = first_term refl a.in_hand in omega (arith, term_cells f, (parts_of f).some (with_parts f q z))

      -- a pair: for a third one
      pub second_cell : {s₂ : List ℕ} {c₂ r : ℕ} → Pushed s₁ s₂ c₁ c₂ 0 → r ≡ get_or parts (kind_code k) 0 → (r ≡ 0 → ⊥) → (k ≡ Abstraction → ⊥) → (k ≡ Allocated → ⊥) → (k ≡ Fresh → ⊥) → Asked 0 t at out stack cells → c₂ < length s₂
      second_cell p₂ p z g h o a =
          let f = first_term refl a.in_hand in
          let l = two_terms k (with_parts f p z) g h o in
          let q = (parts_of f).double l.0 l.1 in
          omega (arith, term_cells f, nodes_positive q.first, nodes_positive q.second)

    -- its bytes
    term_all : {last : List ℕ} (f : TermFirst t last at out stack cells) → spelt_all (a_term f.tree ∷ f.others) ≡ head_bytes (kind_code k) m ++ (inner f.tree ++ (41 ∷ spelt_all f.others))
    term_all f = rw (node_of f).is (simp append_assoc)

    module _ {mid : Output} (w : Wrote out mid (head_bytes (kind_code k) m)) where
      -- behind it there is room for a byte
      pub bracket_room : (b : ℕ) → Asked 0 t at out stack cells → Fits mid (b ∷ [])
      bracket_room b a = let f = first_term refl a.in_hand in record { fits = omega (arith, term_bytes f, (node_of f).lengths) }

      -- a kind without parts: with the closing bracket all is written
      pub leaf_put : {after : Output} {r : ℕ} → r ≡ get_or parts (kind_code k) 0 → r ≡ 0 → Wrote mid after (41 ∷ []) → Put 0 t at out stack cells after stack (at + 1) cells
      leaf_put p z v = record {
        same = v.same ∙ w.same;
        same_length = v.same_length ∙ w.same_length;
        later = omega (arith, head_later (kind_code k) m w);
        then_on = λ last h.
            let f = first_term refl h in
            let q = (parts_of f).none (no_parts k (sym p ∙ z)) in
            record {
              pieces = f.others;
              stacked = f.stacked;
              to_come = on (a_term f.tree ∷ f.others) f.others f.to_come (wrote_more w v) (term_all f ∙ rw (q.1, append_assoc)) (stand_at t f.others (omega arith) f.to_come.stand.1) (omega arith) refl;
            };
      }

      module _ {s₁ : List ℕ} {c₁ : ℕ} (p₁ : Pushed stack s₁ cells c₁ 2) where
        -- an abstraction: the opening bracket is written, the members of its body are left
        pub body_put : {after : Output} {s₂ : List ℕ} {c₂ : ℕ} → (k ≡ Abstraction) ⊎ (k ≡ Allocated) → Wrote mid after (40 ∷ []) → Pushed s₁ s₂ c₁ c₂ 1 → Put 0 t at out stack cells after s₂ (at + 1) c₂
        body_put l v p₂ = record {
          same = v.same ∙ w.same;
          same_length = v.same_length ∙ w.same_length;
          later = omega (arith, head_later (kind_code k) m w);
          then_on = λ last h.
              let f = first_term refl h in
              let q = (parts_of f).body (a_body l).0 (a_body l).1 in
              record {
                pieces = a_rest q.part ∷ closing ∷ f.others;
                stacked = more (a_rest q.part) (closing ∷ f.others) (more closing f.others f.stacked p₁) p₂;
                to_come = on (a_term f.tree ∷ f.others) (a_rest q.part ∷ closing ∷ f.others) f.to_come (wrote_more w v) (term_all f ∙ rw q.bytes_are (simp append_assoc)) (q.stands, stand_at t f.others (omega arith) f.to_come.stand.1) (omega arith) (p₂.same_length ∙ p₁.same_length);
              };
        }

        module _ {s₂ : List ℕ} {c₂ : ℕ} (p₂ : Pushed s₁ s₂ c₁ c₂ 0) where
          -- a fresh node: its term is left
          pub fresh_put : k ≡ Fresh → Put 0 t at out stack cells mid s₂ (at + 1) c₂
          fresh_put g = record {
            same = w.same;
            same_length = w.same_length;
            later = head_later (kind_code k) m w;
            then_on = λ last h.
                let f = first_term refl h in
                let q = (parts_of f).single (ap kind_code g) in
                record {
                  pieces = a_term q.part ∷ closing ∷ f.others;
                  stacked = more (a_term q.part) (closing ∷ f.others) (more closing f.others f.stacked p₁) p₂;
                  to_come = on (a_term f.tree ∷ f.others) (a_term q.part ∷ closing ∷ f.others) f.to_come w (term_all f ∙ rw q.bytes_are) (q.stands, stand_at t f.others (omega arith) f.to_come.stand.1) (omega arith) (p₂.same_length ∙ p₁.same_length);
                };
          }

          -- a pair: its two terms are left
          pub pair_put : {s₃ : List ℕ} {c₃ r : ℕ} → r ≡ get_or parts (kind_code k) 0 → (r ≡ 0 → ⊥) → (k ≡ Abstraction → ⊥) → (k ≡ Allocated → ⊥) → (k ≡ Fresh → ⊥) → Pushed s₂ s₃ c₂ c₃ 0 → Put 0 t at out stack cells mid s₃ (at + 1) c₃
          pair_put p z g h o p₃ = record {
            same = w.same;
            same_length = w.same_length;
            later = head_later (kind_code k) m w;
            then_on = λ last a.
                let f = first_term refl a in
                let l = two_terms k (with_parts f p z) g h o in
                let q = (parts_of f).double l.0 l.1 in
                let x = q.first in
                let y = q.second in
                record {
                  pieces = a_term x ∷ a_term y ∷ closing ∷ f.others;
                  stacked = more (a_term x) (a_term y ∷ closing ∷ f.others) (more (a_term y) (closing ∷ f.others) (more closing f.others f.stacked p₁) p₂) p₃;
                  to_come = on (a_term f.tree ∷ f.others) (a_term x ∷ a_term y ∷ closing ∷ f.others) f.to_come w (term_all f ∙ rw (q.bytes_are, append_assoc)) (q.stands, (q.next, stand_at t f.others (omega arith) f.to_come.stand.1)) (omega arith) (p₃.same_length ∙ (p₂.same_length ∙ p₁.same_length));
                };
          }

-- The whole text.

-- what is left of the text since the output was `start`
pub record TextLeft (t : List ℕ) (start out : Output) (stack : List ℕ) (node cells : ℕ) : Type 0 where
  pub last : List ℕ
  pub is : (p : Tree program) → Stands t 0 p → last ≡ sets start.bytes.now start.at (spelt p ++ (41 ∷ []))
  pub left : Unwritten t last node out stack cells
  pub same : out.bytes.ghost_name ≡ start.bytes.ghost_name
  pub same_length : length out.bytes.now ≡ length start.bytes.now

-- there is room on the stack for the program's cell
pub first_cell : {t out stack : List ℕ} → RoomForText t out → CellsForText t stack → 0 < length stack
first_cell r g = let p = r.program_there in omega (arith, g.enough p r.stands, nodes_positive p)

-- before anything is written
module _ {t : List ℕ} {out : Output} (none : out.at ≡ 0) (r : RoomForText t out.bytes.now) where
  -- there is room for the opening bracket
  pub opening_room : Fits out (40 ∷ [])
  opening_room = let p = r.program_there in record { fits = omega (arith, ap length (text_is p), bracketed_length p) }

  module _ {stack : List ℕ} (g : CellsForText t stack) where
    -- behind it the program's members are left
    pub text_start : {start : Output} {after : List ℕ} {cells : ℕ} → Wrote out start (40 ∷ []) → Pushed stack after 0 cells 1 → TextLeft t start start after 0 cells
    text_start {start} w p =
        let x = r.program_there in
        record {
          last = sets start.bytes.now start.at (spelt x ++ (41 ∷ []));
          is = λ y h. rw (one_tree y x h r.stands);
          left = record {
            pieces = a_rest x ∷ [];
            stacked = more (a_rest x) [] refl p;
            to_come = record {
              stand = (r.stands, tt);
              room = record { fits = omega (arith, ap length (text_is x), bracketed_length x, length-append (spelt x) (41 ∷ [])) };
              makes = refl;
              enough = omega (arith, g.enough x r.stands);
            };
          };
          same = refl;
          same_length = refl;
        }

module _ {t stack : List ℕ} {start out : Output} {node cells : ℕ} (h : TextLeft t start out stack node cells) where
  -- the stack has a cell for each
  pub top_within : cells ≤ length stack
  top_within = let u = h.left in omega (arith, few stack cells u.pieces u.stacked)

  module _ {rest : List ℕ} {top : ℕ} {piece : Code} (p : Popped stack rest cells top piece) where
    piece_in_hand : InHand (code piece) t h.last node out rest top
    piece_in_hand =
        let e : cells - 1 ≡ top = omega arith in
        let u : InHand (get_or stack top 0) t h.last node out stack top = rw e at (top_in_hand h.left (omega arith)) in
        rw (p.same, p.is (rw u.is (cell_small u.piece))) u

    -- the piece on top is to be written
    pub top_asked : Asked (code piece) t node out rest top
    top_asked = record { last = h.last; in_hand = piece_in_hand }

    -- and then what is left is less
    pub text_next : {out' : Output} {stack' : List ℕ} {node' cells' : ℕ} → Put (code piece) t node out rest top out' stack' node' cells' → TextLeft t start out' stack' node' cells'
    text_next g = record { last = h.last; is = h.is; left = g.then_on h.last piece_in_hand; same = g.same ∙ h.same; same_length = g.same_length ∙ h.same_length }

  -- with no cell left the text is written
  pub text_put : {before : Output} → before.at ≡ 0 → Wrote before start (40 ∷ []) → cells ≤ 0 → TextWritten t before.bytes.now out.bytes.now
  text_put {before} none w z = record {
    is = λ p g.
        let next : start.at ≡ 1 = omega (arith, w.next_is) in
        cc (all_written h.left z, h.is p g, text_is p, sets_append before.bytes.now 0 (40 ∷ []) (spelt p ++ (41 ∷ [])), w.is, none, next);
  }
