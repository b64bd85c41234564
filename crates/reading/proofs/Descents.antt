-- The items that the grammar asks for, what a descent keeps of the nodes that it passes, where it leads, and what that says of the whole text.
use mathlib.Core.Path.{◌≡◌, refl, sym, ap, subst, ◌∙◌}
use mathlib.Core.Bool.{Bool, true, false, ◌&&◌, or-false, or-true}
use mathlib.Core.List.{List, [], ◌∷◌, ◌++◌, append_assoc, append-nil, head-eq_of_cons-eq, tail-eq_of_cons-eq}
use Prim.Native.Nat.{ℕ, ◌+◌, ◌-◌, ◌*◌, ◌/◌, ◌≤◌, ◌<◌}
use native.Mathlib.Omega.{arith}
use lib.Dec.{eqb, leb}
use borrow.Author.Tests.{eqb-true, le-leb, lt-leb}
use lib.ListN.{length, get_or, take, drop, length-append, length-drop}
use lib.Seq.{append_snoc, drop-cons, drop-length, sets, sets-eq, length-sets, length-take-le, take_at}
use Rattle.std.specs.Prelude.{Option, Some, None}
use Rattle.calculus.specs.declared.Refusal.TheVariants.{OutOfPlace, BadNumber, NoBinder}
use Rattle.calculus.specs.Sexp.{atom, list, nothing, bytes}
use Rattle.calculus.specs.Tree.{program, Tree, nodes}
use Rattle.calculus.specs.Answers.{Values}
use Rattle.calculus.specs.Calls.{TextOf}
use Rattle.calculus.specs.Text.{Raw, raw_empty, encode, raw, raw_text, text}
use Rattle.calculus.proofs.Bytes.{bytes_prefix, members_prefix}
use Rattle.calculus.proofs.Texts.{raw_text_injective}
use Rattle.calculus.proofs.Preorders.{preorder_length}
use Rattle.csexp.specs.declared.Cursor.{Cursor}
use Rattle.csexp.specs.declared.Item.{Item}
use Rattle.csexp.specs.declared.Item.TheVariants.{Open, Close, Atom}
use Rattle.csexp.specs.Items.{ItemBytes, Begins, item_bytes}
use Rattle.csexp.proofs.Closings.{no_bracket, Took}
use Rattle.reading.specs.Numbers.{NumberIs}
use Rattle.reading.specs.declared.goals.Waiting.{Waiting}
use Rattle.reading.specs.declared.parse.Met.{Met}
use Rattle.reading.specs.declared.parse.Parser.{Parser}
use Rattle.reading.specs.Reading.{none_found, Parses, out, bad, loose, of_nodes}
use Rattle.table.specs.Kinds.{kind_code}
use Rattle.table.specs.declared.kinds.Kind.{Kind}
use Rattle.table.specs.declared.kinds.Kind.TheVariants.{Empty, Alternative, Bound, Free, Constructor, Abstraction, Allocated, Application, Fresh, Guard, Unification}
use Rattle.reading.specs.Descent.{Between, AtomBetween, Note, no_node, node_note, followed, number_note, note, Keeps, Noted, ToRead, kind, number, bracket, one_term, members, Fill, spelled, noted, Fills, spelled_all, noted_all, Passes, Leads, ReadsOn, Beyond, Ahead, Descends, Row, tag, node_of, Heads, row, no_row, ends, waiting, cells_of, Pushes, Announces, GoalsStacked, BeforeGoal, BeforeTerm, Tops, Follows, Advances, FoundAt, Descent, Turn, SameParse}
use Rattle.reading.proofs.Decimals.{not_plain}
use Rattle.reading.proofs.Grammar.{parts, tag_injective, followed_assoc, followed_none, followed_end, term_of, term_spelled, term_noted, made, tagged, program_of, program_spelled, program_noted, member, note_read, note_unread, Told, told, treed}
use Rattle.reading.proofs.Stacks.{next_goal, next_end, tag_long, announced_parts}

pub impossible : {A : Type 0} → ◌≡◌ {A = ℕ} 0 1 → A
impossible e = absurd (omega arith)

-- Items.

module _ {s : List ℕ} {at next : ℕ} where
  -- an atom is there
  pub atom_there : {place m : ℕ} → Took s at (Atom place m) next → AtomBetween s at place m next
  atom_there t = record { place_is = t.placed.0; next_is = t.placed.1; between = record { forward = omega (arith, t.placed); within = t.within; here = t.here } }

  -- another item is there, so no atom
  pub not_atom : {i : Item} → Took s at i next → ((p m : ℕ) → i ≡ Atom p m → ⊥) → (b r : List ℕ) → drop at s ≡ bytes (atom b) ++ r → ⊥
  not_atom {i} t f b r e = go i t f
    where
      go : (i : Item) → Took s at i next → ((p m : ℕ) → i ≡ Atom p m → ⊥) → ⊥
      go Open t f = no_bracket b r (drop next s) 40 (omega arith) (sym e ∙ t.here)
      go Close t f = no_bracket b r (drop next s) 41 (omega arith) (sym e ∙ t.here)
      go (Atom p m) t f = f p m refl

  -- another item is there, so not the bracket j
  pub not_bracket : {i j : Item} (k : ℕ) → k < 48 → item_bytes s j ≡ k ∷ [] → Took s at i next → (i ≡ j → ⊥) → (r : List ℕ) → drop at s ≡ k ∷ r → ⊥
  not_bracket {i} {j} k l b t f r e = go i j b t f
    where
      go : (i j : Item) → item_bytes s j ≡ k ∷ [] → Took s at i next → (i ≡ j → ⊥) → ⊥
      go (Atom p m) j b t f = no_bracket (take m (drop p s)) (drop next s) r k l (sym t.here ∙ e)
      go Open Open b t f = f refl
      go Open Close b t f = omega (arith, head-eq_of_cons-eq b, head-eq_of_cons-eq (sym e ∙ t.here))
      go Close Open b t f = omega (arith, head-eq_of_cons-eq b, head-eq_of_cons-eq (sym e ∙ t.here))
      go Close Close b t f = f refl
      go Open (Atom p m) b t f = no_bracket (take m (drop p s)) [] [] k l (append-nil _ ∙ b)
      go Close (Atom p m) b t f = no_bracket (take m (drop p s)) [] [] k l (append-nil _ ∙ b)

-- no item is there, so none of these bytes
pub no_item : {l b : List ℕ} → ItemBytes b → (Begins l → ⊥) → (r : List ℕ) → l ≡ b ++ r → ⊥
no_item {b = b} i f r e = f (record { item = b; rest = r; is_item = i; here = e })

module _ {s : List ℕ} {at mid : ℕ} (o : Between s at mid (40 ∷ [])) where
  behind_open : {l : List ℕ} → drop at s ≡ 40 ∷ l → drop mid s ≡ l
  behind_open e = tail-eq_of_cons-eq (sym o.here ∙ e)

  -- behind the bracket is no atom
  pub no_tag : ((b r : List ℕ) → drop mid s ≡ bytes (atom b) ++ r → ⊥) → (k : ℕ) (r : List ℕ) → drop at s ≡ 40 ∷ bytes (atom (k ∷ [])) ++ r → ⊥
  no_tag f k r e = f (k ∷ []) r (behind_open e)

  module _ {place m next : ℕ} (a : AtomBetween s mid place m next) where
    -- a tag is there: an opening bracket and an atom of one byte
    pub tag_there : m ≡ 1 → (at + 2 ≤ next) × Between s at next (40 ∷ bytes (atom (get_or s place 0 ∷ [])))
    tag_there e =
        let byte : take m (drop place s) ≡ get_or s place 0 ∷ [] = rw (e, drop-cons s place 0 (omega arith)) in
        (omega arith, record { forward = omega arith; within = omega arith; here = o.here ∙ rw (← byte) (ap (λ (l : List ℕ). 40 ∷ l) a.between.here) })

    -- the atom has another length
    pub long_tag : (m ≡ 1 → ⊥) → (k : ℕ) (r : List ℕ) → drop at s ≡ 40 ∷ bytes (atom (k ∷ [])) ++ r → ⊥
    long_tag f k r e =
        let b : List ℕ = take m (drop place s) in
        let h : atom b ≡ atom (k ∷ []) = (bytes_prefix (atom b) (atom (k ∷ [])) (drop next s) r (sym a.between.here ∙ behind_open e)).0 in
        let g : b ≡ k ∷ [] = cc in
        f (sym (length-take-le m (drop place s) (rw length-drop (omega arith))) ∙ ap length g)

-- Nodes.

-- a list that is continued by two elements in its table
take_two : (b : List ℕ) (i k v : ℕ) → i + 2 ≤ length b → take (i + 2) (sets b i (k ∷ v ∷ [])) ≡ take i b ++ (k ∷ v ∷ [])
take_two b i k v h = rw (sets-eq (k ∷ v ∷ []) b i h) (take_at (take i b ++ (k ∷ v ∷ [])) (drop (i + 2) b) (i + 2) (simp length-append (omega (arith, length-take-le i b (omega arith)))))

module _ {k v : ℕ} {m : Met} {b b' : List ℕ} where
  keep_node : length b' ≡ length b → (m.nodes < length b / 2 → b' ≡ sets b (2 * m.nodes) (k ∷ v ∷ [])) → Noted k v m b (record { nodes = m.nodes + 1; bad = m.bad; loose = m.loose }) b'
  unfolding followed
  keep_node l f = record {
    one_more = refl;
    kept = λ w h.
        let n : ℕ = length w.numbers in
        let long : length (w.numbers ++ (k ∷ v ∷ [])) ≡ n + 2 = length-append w.numbers (k ∷ v ∷ []) in
        record {
          count = omega (arith, h.count);
          bad_so_far = rw or-false h.bad_so_far;
          loose_so_far = λ e. rw or-false (h.loose_so_far (rw or-false at e));
          stored = λ e g.
              let fits : n + 2 ≤ length b = omega arith in
              let c = h.count in
              rw (long, f (omega arith), c, take_two b n k v fits, h.stored (rw or-false at e) (omega arith));
        };
  }

  -- one node more is kept: the table holds it
  pub node_stored : b' ≡ sets b (2 * m.nodes) (k ∷ v ∷ []) → Noted k v m b (record { nodes = m.nodes + 1; bad = m.bad; loose = m.loose }) b'
  node_stored e = keep_node (ap length e ∙ length-sets b (2 * m.nodes) (k ∷ v ∷ [])) (λ h. e)

  -- or it is counted only
  pub node_counted : b' ≡ b → length b / 2 ≤ m.nodes → Noted k v m b (record { nodes = m.nodes + 1; bad = m.bad; loose = m.loose }) b'
  node_counted e h = keep_node (ap length e) (λ l. absurd (omega arith))

-- only an index has its number
pub index_kind : (k : Kind) → kind_code k ≡ 2 → k ≡ Bound
index_kind Empty e = absurd (omega arith)
index_kind Alternative e = absurd (omega arith)
index_kind Bound e = refl
index_kind Free e = absurd (omega arith)
index_kind Constructor e = absurd (omega arith)
index_kind Abstraction e = absurd (omega arith)
index_kind Allocated e = absurd (omega arith)
index_kind Application e = absurd (omega arith)
index_kind Fresh e = absurd (omega arith)
index_kind Guard e = absurd (omega arith)
index_kind Unification e = absurd (omega arith)

-- a node whose N is bad is counted
keep_bad : (k v : ℕ) (l : Bool) (w : Note) {m : Met} {b : List ℕ} → Keeps w m b → Keeps (followed w (node_note k v true l)) (record { nodes = m.nodes + 1; bad = true; loose = m.loose }) b
unfolding followed
keep_bad k v l w h = record { count = omega (arith, h.count, length-append w.numbers (k ∷ v ∷ [])); bad_so_far = sym (or-true w.bad); loose_so_far = λ e. impossible (cc (or-true w.bad)); stored = λ e. impossible (cc (or-true w.bad)) }

-- an index without its binder is remembered
keep_loose : (k v : ℕ) (w : Note) {m : Met} {b : List ℕ} → Keeps (followed w (node_note k v false false)) m b → Keeps (followed w (node_note k v false true)) (record { nodes = m.nodes; bad = m.bad; loose = true }) b
unfolding followed
keep_loose k v w h = record { count = h.count; bad_so_far = h.bad_so_far; loose_so_far = λ e. sym (or-true w.loose); stored = h.stored }

-- Where a descent leads.

module _ {n : ℕ} {s : List ℕ} where
  -- nothing that the goal can be stands there
  refused : {g : ToRead} {gs : List ToRead} {c : Cursor} {m : Met} {b b' : List ℕ} → ((a : Fill g) (r : List ℕ) → drop c.at s ≡ spelled g a ++ r → ⊥) → ReadsOn n s (g ∷ gs) (Some (c, m)) b None b'
  refused {g} {gs} f = record { then_on = λ hs z end l. rw l (λ a r h. f a.0 (spelled_all (gs ++ hs) a.1 ++ r) (h ∙ append_assoc (spelled g a.0) (spelled_all (gs ++ hs) a.1) r)) }

  -- what stands there can be nothing else
  passed : {g : ToRead} {c c' : Cursor} {m m' : Met} {b b' : List ℕ} (a : Fill g) → drop c.at s ≡ spelled g a ++ drop c'.at s → ((a' : Fill g) (r q : List ℕ) → spelled g a ++ r ≡ spelled g a' ++ q → r ≡ q) → ((w : Note) → Keeps w m b → Keeps (followed w (noted n g a)) m' b') → ReadsOn n s (g ∷ []) (Some (c, m)) b (Some (c', m')) b'
  passed {g} {c} {c'} {m} {m'} {b} {b'} a here u k = record { then_on = go }
    where
      go : (hs : List ToRead) (z : Descent) (end : List ℕ) → Leads n s hs (Some (c', m')) b' z end → Leads n s (g ∷ hs) (Some (c, m)) b z end
      go hs None end l = λ f r e. l f.1 r (u f.0 (drop c'.at s) (spelled_all hs f.1 ++ r) (sym here ∙ e ∙ append_assoc (spelled g f.0) (spelled_all hs f.1) r))
      go hs (Some (c'', m'')) end l = record {
        fills = (a, l.fills);
        here = here ∙ ap (λ (q : List ℕ). spelled g a ++ q) l.here ∙ sym (append_assoc (spelled g a) (spelled_all hs l.fills) (drop c''.at s));
        kept = λ w h. rw (← followed_assoc) (l.kept (followed w (noted n g a)) (k w h));
      }

-- a node's kind takes nothing of the text
node_reads : {n : ℕ} {s : List ℕ} {k : ℕ} {c : Cursor} {m m' : Met} {b b' : List ℕ} → Noted k 0 m b m' b' → ReadsOn n s (kind k ∷ []) (Some (c, m)) b (Some (c, m')) b'
node_reads o = passed tt refl (λ a r q e. e) o.kept

-- the goals hs at another place say the same as gs: what they are makes what gs are, and the other way round
record Turns (n : ℕ) (s : List ℕ) (gs hs : List ToRead) (c c' : Cursor) : Type 0 where
  before : List ℕ
  here : drop c.at s ≡ before ++ drop c'.at s
  make : Fills hs → Fills gs
  spell : (f : Fills hs) → spelled_all gs (make f) ≡ before ++ spelled_all hs f
  tell : (f : Fills hs) → noted_all n gs (make f) ≡ noted_all n hs f
  back : (f : Fills gs) (r : List ℕ) → drop c.at s ≡ spelled_all gs f ++ r → (g : Fills hs) × (drop c'.at s ≡ spelled_all hs g ++ r)

-- so they lead where these lead
turned : {n : ℕ} {s : List ℕ} {gs hs : List ToRead} {c c' : Cursor} → Turns n s gs hs c c' → (m : Met) (b : List ℕ) (z : Descent) (end : List ℕ) → Leads n s hs (Some (c', m)) b z end → Leads n s gs (Some (c, m)) b z end
turned t m b None end l = λ f r e. let g = t.back f r e in l g.0 r g.1
turned {s} {hs} t m b (Some (c'', m'')) end l = record {
  fills = t.make l.fills;
  here = t.here ∙ ap (λ (q : List ℕ). t.before ++ q) l.here ∙ sym (append_assoc t.before (spelled_all hs l.fills) (drop c''.at s)) ∙ ap (λ (q : List ℕ). q ++ drop c''.at s) (sym (t.spell l.fills));
  kept = λ w k. rw (t.tell l.fills) (l.kept w k);
}

-- a place is ahead
ahead_to : {s : List ℕ} {k : ℕ} {c : Cursor} {m : Met} → Beyond s k c.at m.nodes → Ahead s k (Some (c, m))
ahead_to {s} {k} {c} {m} h c' m' e =
    let p : ◌≡◌ {A = Cursor × Met} (c, m) (c', m') = cc in
    subst (λ (x : Cursor × Met). Beyond s k x.0.at x.1.nodes) p h

ahead_out : {s : List ℕ} {k : ℕ} {x : Descent} → x ≡ None → Ahead s k x
ahead_out e c m f = impossible (cc)

ahead_less : {s : List ℕ} {j k : ℕ} {x : Descent} → j ≤ k → Ahead s k x → Ahead s j x
ahead_less h f c m e = let g = f c m e in omega arith

-- The next goal.

-- out
out_ahead : {s cells : List ℕ} {k : ℕ} (c : Cursor) (m : Met) (w : Waiting) → ◌≡◌ {A = Turn} None (Some (c, m, w)) → Beyond s k c.at m.nodes × GoalsStacked cells c.at w
out_ahead c m w e = impossible (cc)

-- a place, with what waits there
turn_ahead : {s cells : List ℕ} {k : ℕ} {c : Cursor} {m : Met} {w : Waiting} → Beyond s k c.at m.nodes → GoalsStacked cells c.at w → (c' : Cursor) (m' : Met) (w' : Waiting) → ◌≡◌ {A = Turn} (Some (c, m, w)) (Some (c', m', w')) → Beyond s k c'.at m'.nodes × GoalsStacked cells c'.at w'
turn_ahead {s} {cells} {k} {c} {m} {w} h g c' m' w' e =
    let p : ◌≡◌ {A = Cursor × Met × Waiting} (c, m, w) (c', m', w') = cc in
    subst (λ (x : Cursor × Met × Waiting). Beyond s k x.0.at x.1.nodes × GoalsStacked cells x.0.at x.2) p (h, g)

-- goals that are read, before those that wait
then_wait : {n : ℕ} {s : List ℕ} {gs : List ToRead} {x y : Descent} {b b' : List ℕ} → ReadsOn n s gs x b y b' → (hs : List ToRead) → Follows n s (gs ++ hs) x b hs y b'
then_wait r hs = record { then_on = r.then_on hs }

-- out, whatever waits
out_waits : {n : ℕ} {s : List ℕ} {gs : List ToRead} {x : Descent} {b b' : List ℕ} → ReadsOn n s gs x b None b' → (hs : List ToRead) → Follows n s (gs ++ hs) x b [] None b'
out_waits r hs = record { then_on = r.then_on hs }

-- one turn after another
follows_on : {n : ℕ} {s : List ℕ} {gs hs ks : List ToRead} {x y z : Descent} {b b' b'' : List ℕ} → Follows n s gs x b hs y b' → Follows n s hs y b' ks z b'' → Follows n s gs x b ks z b''
follows_on p q = record { then_on = λ u end l. p.then_on u end (q.then_on u end l) }

-- A bracket.

module _ {n : ℕ} {s : List ℕ} {k : ℕ} {c : Cursor} {m : Met} {b : List ℕ} where
  bracket_out : {b' : List ℕ} → ((r : List ℕ) → drop c.at s ≡ k ∷ r → ⊥) → ReadsOn n s (bracket k ∷ []) (Some (c, m)) b None b'
  bracket_out f = refused (λ a. f)

  bracket_reads : {c' : Cursor} → Between s c.at c'.at (k ∷ []) → ReadsOn n s (bracket k ∷ []) (Some (c, m)) b (Some (c', m)) b
  bracket_reads h = passed tt h.here (λ a r t e. tail-eq_of_cons-eq e) (λ v g. rw followed_end g)

-- it is passed, or out
abbrev pub passed_bracket : Option Cursor → Met → Waiting → Turn
passed_bracket None m w = None
passed_bracket (Some c) m w = Some (c, m, w)

pub bracket_turn : {n : ℕ} {s : List ℕ} {k : ℕ} {c : Cursor} {m : Met} {b cells : List ℕ} {w : Waiting} (f : Option Cursor) → FoundAt k s c.at f → Beyond s 0 c.at m.nodes → GoalsStacked cells c.at w → Advances n s (bracket k ∷ waiting (drop w.top cells)) c m b (passed_bracket f m w) b cells
bracket_turn {cells} {w} None h p q = record { follows = out_waits (bracket_out h) (waiting (drop w.top cells)); ahead = out_ahead }
bracket_turn {cells} {w} (Some c') h p q = record { follows = then_wait (bracket_reads h) (waiting (drop w.top cells)); ahead = turn_ahead (omega arith) (record { on = q.on; room = omega arith; binds = q.binds }) }

-- Terms.

-- no tag, no term
pub term_none : {n : ℕ} {s : List ℕ} {d : ℕ} {hs : List ToRead} {c : Cursor} {m : Met} {b b' cells : List ℕ} → ((k : ℕ) (r : List ℕ) → drop c.at s ≡ 40 ∷ bytes (atom (k ∷ [])) ++ r → ⊥) → Advances n s (one_term d ∷ hs) c m b None b' cells
term_none {n} {d} {hs} f = record { follows = record { then_on = λ z end l. rw l (λ g r e. let t = made n d hs g r in f (tag t.row) _ (e ∙ t.is)) }; ahead = out_ahead }

module _ {n : ℕ} {s : List ℕ} {k : ℕ} {c c' : Cursor} (t : Between s c.at c'.at (40 ∷ bytes (atom (k ∷ [])))) where
  -- behind the tag its row is to be read, and the closing bracket
  row_turns : (d : ℕ) (hs : List ToRead) (x : Row) → k ≡ tag x → Turns n s (one_term d ∷ hs) (parts n d x ++ (bracket 41 ∷ hs)) c c'
  row_turns d hs x e = record {
    before = 40 ∷ bytes (atom (k ∷ []));
    here = t.here;
    make = term_of n d hs x;
    spell = λ f. rw e (term_spelled n d hs x f);
    tell = term_noted n d hs x;
    back = λ f q h.
        let g = tagged n d hs k (drop c'.at s) q f (sym t.here ∙ h) in
        rw (tag_injective x g.row (sym e ∙ g.is)) (g.behind, g.rest);
  }

  module _ {m : Met} {b : List ℕ} where
    -- the row's node, before what it announces
    row_follows : (cells : List ℕ) (x : Row) → k ≡ tag x → Follows n s (one_term (ends cells) ∷ waiting cells) (Some (c, m)) b (node_of n (ends cells) x ∷ waiting (cells_of x ++ cells)) (Some (c', m)) b
    row_follows cells x e = rw (announced_parts n x cells) (record { then_on = turned (row_turns (ends cells) (waiting cells) x e) m b })

    module _ {w : Waiting} {y : Descent} {b' cells : List ℕ} (p : BeforeTerm n s cells c m w) where
      -- its node is not there
      pub term_out : {cells' : List ℕ} → Heads n s w.binders k c' m b y b' → y ≡ None → Advances n s (one_term w.binders ∷ waiting (drop w.top cells)) c m b None b' cells'
      term_out (row x e r a) f =
          let cs : List ℕ = drop w.top cells in
          record { follows = rw p.stacked.binds (follows_on (row_follows cs x e) (out_waits (rw (p.stacked.binds, f) at r) (waiting (cells_of x ++ cs)))); ahead = out_ahead }
      term_out (no_row h e) f = record {
        follows = record { then_on = λ z end l. rw l (λ a r q. let v = tagged n w.binders (waiting (drop w.top cells)) k (drop c'.at s) r a (sym t.here ∙ q) in h v.row v.is) };
        ahead = out_ahead;
      }

      -- it is, and what the row announces waits then
      pub term_turn : {w' : Waiting} {c'' : Cursor} {m'' : Met} {cells' : List ℕ} → Heads n s w.binders k c' m b y b' → y ≡ Some (c'', m'') → Announces k w cells w' cells' → length cells' ≡ length cells → Advances n s (one_term w.binders ∷ waiting (drop w.top cells)) c m b (Some (c'', m'', w')) b' cells'
      term_turn {c''} {m''} (row x e r a) f g l =
          let cs : List ℕ = drop w.top cells in
          let h = g.by_row x e in
          let q = a c'' m'' f in
          let o = tag_long k t in
          record {
            follows = rw (p.stacked.binds, h.here) (follows_on (row_follows cs x e) (then_wait (rw (p.stacked.binds, f) at r) (waiting (cells_of x ++ cs))));
            ahead = turn_ahead (omega arith) (record { on = omega (arith, p.stacked.on, g.lower); room = omega (arith, p.stacked.room, g.few); binds = h.binds p.stacked.binds });
          }
      term_turn (no_row h e) f g l = impossible (cc)

module _ {n : ℕ} {s : List ℕ} {d k : ℕ} {c : Cursor} {m : Met} {b b' : List ℕ} where
  -- a node with its N
  pub numbered_head : {y : Descent} (x : Row) → k ≡ tag x → Descends n s (node_of n d x ∷ []) c m b y b' → Heads n s d k c m b y b'
  numbered_head x e r = row x e r.reads (ahead_less (omega arith) r.ahead)

  -- a node without one
  pub plain_head : {m' : Met} {j : ℕ} (x : Row) → k ≡ tag x → node_of n d x ≡ kind j → m.nodes + 1 ≤ c.at → c.at ≤ length s → Noted j 0 m b m' b' → Heads n s d k c m b (Some (c, m')) b'
  plain_head x e f h g o = row x e (rw f (node_reads o)) (ahead_to (omega (arith, o.one_more)))

-- What waits.

module _ {n : ℕ} {s cells : List ℕ} {c : Cursor} {m : Met} {w : Waiting} (p : BeforeGoal n s cells c m w) where
  -- behind the next goal, which ends no binder
  rest_binds : {goal : ℕ} → Tops cells w.top goal → ends (goal ∷ drop (w.top + 1) cells) ≡ ends (drop (w.top + 1) cells) → w.binders ≡ ends (drop (w.top + 1) cells)
  rest_binds t e = p.stacked.binds ∙ ap ends (next_goal cells w.top t) ∙ e

  rest_stacked : {d : ℕ} → w.top < length cells → d ≡ ends (drop (w.top + 1) cells) → GoalsStacked cells c.at (record { top = w.top + 1; binders = d })
  rest_stacked h e = record { on = omega arith; room = omega (arith, p.stacked.room); binds = e }

  -- a term before what waits behind it
  pub term_ready : Tops cells w.top 0 → BeforeTerm n s cells c m (record { top = w.top + 1; binders = w.binders })
  term_ready t = record { small = p.small; long = p.long; few = omega (arith, p.beyond.few); stacked = rest_stacked t.on (rest_binds t refl) }

  module _ {b : List ℕ} where
    -- where it leads, what waits leads
    pub next_term : {y : Turn} {b' cells' : List ℕ} → Tops cells w.top 0 → Advances n s (one_term w.binders ∷ waiting (drop (w.top + 1) cells)) c m b y b' cells' → Advances n s (waiting (drop w.top cells)) c m b y b' cells'
    next_term t a = rw (next_goal cells w.top t, ← rest_binds t refl) a

    -- an opening bracket
    pub next_open : (f : Option Cursor) → Tops cells w.top 2 → FoundAt 40 s c.at f → Advances n s (waiting (drop w.top cells)) c m b (passed_bracket f m (record { top = w.top + 1; binders = w.binders })) b cells
    next_open f t h = rw (next_goal cells w.top t) (bracket_turn f h p.beyond (rest_stacked t.on (rest_binds t refl)))

    -- a closing bracket
    pub next_close : (f : Option Cursor) → Tops cells w.top 3 → FoundAt 41 s c.at f → Advances n s (waiting (drop w.top cells)) c m b (passed_bracket f m (record { top = w.top + 1; binders = w.binders })) b cells
    next_close f t h = rw (next_goal cells w.top t) (bracket_turn f h p.beyond (rest_stacked t.on (rest_binds t refl)))

    -- a closing bracket that ends a binder
    pub next_end_close : (f : Option Cursor) → w.top < length cells → 4 ≤ get_or cells w.top 0 → FoundAt 41 s c.at f → Advances n s (waiting (drop w.top cells)) c m b (passed_bracket f m (record { top = w.top + 1; binders = w.binders - 1 })) b cells
    next_end_close f l g h =
        let e = next_end cells w.top l g in
        rw e.0 (bracket_turn f h p.beyond (rest_stacked l (omega (arith, p.stacked.binds, e.1))))

    module _ (t : Tops cells w.top 1) {m' : Met} {b' : List ℕ} where
      -- the closing bracket ends the members
      pub members_end : {c' : Cursor} → Between s c.at c'.at (41 ∷ []) → Noted 0 0 m b m' b' → Advances n s (waiting (drop w.top cells)) c m b (Some (c', m', (record { top = w.top + 1; binders = w.binders }))) b' cells
      unfolding bytes encode note
      members_end {c'} h o =
          let cs : List ℕ = drop (w.top + 1) cells in
          let e : ReadsOn n s (members (ends cs) ∷ []) (Some (c, m)) b (Some (c', m')) b' = passed raw_empty h.here (λ a r q e. (members_prefix nothing (encode a) r q (e ∙ append_snoc (bytes (encode a)) 41 q)).1) o.kept in
          record { follows = rw (next_goal cells w.top t) (then_wait e (waiting cs)); ahead = turn_ahead (omega (arith, p.beyond, o.one_more)) (record { on = omega (arith, t.on); room = omega (arith, p.stacked.room); binds = rest_binds t refl }) }

      -- another member
      pub members_more : {y : Turn} {b'' cells' : List ℕ} → ((r : List ℕ) → drop c.at s ≡ 41 ∷ r → ⊥) → Noted 1 0 m b m' b' → Advances n s (one_term w.binders ∷ waiting (drop w.top cells)) c m' b' y b'' cells' → Advances n s (waiting (drop w.top cells)) c m b y b'' cells'
      members_more f o a =
          let cs : List ℕ = drop (w.top + 1) cells in
          let d : ℕ = ends cs in
          let hs : List ToRead = waiting cs in
          let turns : Turns n s (members d ∷ hs) (kind 1 ∷ one_term d ∷ members d ∷ hs) c c = record { before = []; here = refl; make = program_of n d hs; spell = program_spelled n d hs; tell = program_noted n d hs; back = λ a r e. member n d hs a (drop c.at s) r f e } in
          let more : Follows n s (members d ∷ hs) (Some (c, m)) b (one_term d ∷ members d ∷ hs) (Some (c, m')) b' = follows_on (record { then_on = turned turns m b }) (then_wait (node_reads o) (one_term d ∷ members d ∷ hs)) in
          record { follows = rw (next_goal cells w.top t) (follows_on more (rw (rest_binds t refl, next_goal cells w.top t) at a.follows)); ahead = a.ahead }

-- The loop.

-- where what waits leads, the goals gs lead from the place c₀ on
pub record Looping (n : ℕ) (s : List ℕ) (gs : List ToRead) (c₀ : Cursor) (m₀ : Met) (b₀ : List ℕ) (c : Cursor) (m : Met) (w : Waiting) (b cells : List ℕ) : Type 0 where
  pub follows : Follows n s gs (Some (c₀, m₀)) b₀ (waiting (drop w.top cells)) (Some (c, m)) b
  pub stands : BeforeGoal n s cells c m w

-- the whole program waits
pub program_waits : {cells cells₁ cells₂ : List ℕ} {t t₂ : ℕ} → Pushes 1 cells (length cells) t cells₁ → Pushes 2 cells₁ t t₂ cells₂ → drop t₂ cells₂ ≡ 2 ∷ 1 ∷ []
program_waits {cells} p q = rw (q.here, p.here, drop-length cells)

-- at first all that waits is to be read
pub loop_start : {n : ℕ} {s cells : List ℕ} {c : Cursor} {m : Met} {w : Waiting} {b : List ℕ} → BeforeGoal n s cells c m w → Looping n s (waiting (drop w.top cells)) c m b c m w b cells
loop_start h = record { follows = record { then_on = λ z end u. u }; stands = h }

module _ {n : ℕ} {s : List ℕ} {gs : List ToRead} {c₀ : Cursor} {m₀ : Met} {b₀ : List ℕ} {c : Cursor} {m : Met} {w : Waiting} {b cells : List ℕ} (l : Looping n s gs c₀ m₀ b₀ c m w b cells) where
  -- nothing waits
  pub loop_end : w.top ≡ length cells → Follows n s gs (Some (c₀, m₀)) b₀ [] (Some (c, m)) b × Ahead s 0 (Some (c, m))
  loop_end e =
      let f : drop w.top cells ≡ [] = rw (e, drop-length cells) in
      (rw f at l.follows, ahead_to l.stands.beyond)

  -- the next goal is not there
  pub loop_out : {b' cells' : List ℕ} → Advances n s (waiting (drop w.top cells)) c m b None b' cells' → Follows n s gs (Some (c₀, m₀)) b₀ [] None b' × Ahead s 0 None
  loop_out a = (follows_on l.follows a.follows, ahead_out refl)

  -- it is passed
  pub loop_again : {c' : Cursor} {m' : Met} {w' : Waiting} {b' cells' : List ℕ} → Advances n s (waiting (drop w.top cells)) c m b (Some (c', m', w')) b' cells' → length cells' ≡ length cells → Looping n s gs c₀ m₀ b₀ c' m' w' b' cells'
  loop_again {c'} {m'} {w'} a q =
      let h = a.ahead c' m' w' refl in
      record {
        follows = follows_on l.follows a.follows;
        stands = record { small = l.stands.small; long = omega (arith, l.stands.long); beyond = omega (arith, h.0); stacked = h.1 };
      }

-- the same text, limit and tables after one turn and another
pub same_again : {p q r : Parser} → SameParse p q → SameParse q r → SameParse p r
same_again a b = record { text = b.text ∙ a.text; limit = b.limit ∙ a.limit; build = b.build ∙ a.build; long_build = b.long_build ∙ a.long_build; long_goals = b.long_goals ∙ a.long_goals }

-- An N.

module _ {s : List ℕ} {c : Cursor} {m : Met} {k below d : ℕ} where
  -- no atom is there
  pub number_out : {b b' : List ℕ} → ((a r : List ℕ) → drop c.at s ≡ bytes (atom a) ++ r → ⊥) → (n : ℕ) → Descends n s (number k below d ∷ []) c m b None b'
  number_out f n = record { reads = refused f; ahead = ahead_out refl }

  module _ {b b' : List ℕ} {place len : ℕ} {next : Cursor} (a : AtomBetween s c.at place len next.at) (few : m.nodes ≤ c.at) where
    number_to : {m' : Met} → m'.nodes ≡ m.nodes + 1 → ((w : Note) → Keeps w m b → Keeps (followed w (number_note k below d (take len (drop place s)))) m' b') → (n : ℕ) → Descends n s (number k below d ∷ []) c m b (Some (next, m')) b'
    number_to e f n = record { reads = passed (take len (drop place s)) a.between.here (λ q r t g. (bytes_prefix (atom (take len (drop place s))) (atom q) r t g).1) f; ahead = ahead_to (omega arith) }

    -- it is no number in range
    pub number_bad : NumberIs (take len (drop place s)) below not_plain → b' ≡ b → (n : ℕ) → Descends n s (number k below d ∷ []) c m b (Some (next, (record { nodes = m.nodes + 1; bad = true; loose = m.loose }))) b'
    number_bad h e = number_to refl (λ w g. rw (note_unread k d h, e) (keep_bad k _ _ w g))

    module _ {v : ℕ} {m' : Met} (h : NumberIs (take len (drop place s)) below (record { refusal = 0; values = v ∷ [] })) (o : Noted k v m b m' b') where
      -- it is an index beyond its binders
      pub number_loose : k ≡ 2 → d ≤ v → (n : ℕ) → Descends n s (number k below d ∷ []) c m b (Some (next, (record { nodes = m'.nodes; bad = m'.bad; loose = true }))) b'
      number_loose e l = number_to o.one_more (λ w g. rw (note_read k d true h (rw (e, le-leb d v l))) (keep_loose k v w (o.kept w g)))

      -- it is no index, or one with its binder
      pub number_bound : (k ≡ 2 → v < d) → (n : ℕ) → Descends n s (number k below d ∷ []) c m b (Some (next, m')) b'
      number_bound f = number_to o.one_more (λ w g. rw (note_read k d false h (go (eqb k 2) refl)) (o.kept w g))
        where
          go : (t : Bool) → eqb k 2 ≡ t → (eqb k 2 && leb d v) ≡ false
          go true e = rw (e, lt-leb d v (f (eqb-true k 2 e)))
          go false e = rw e

-- The whole text.

-- however the build table is named
pub parses_in : {n : ℕ} {s b b' : List ℕ} {v : Values} → b' ≡ b → Parses n s b v → Parses n s b' v
parses_in e h = rw e h

text_spelled : (r : Raw program) → raw_text r ≡ spelled_all (bracket 40 ∷ members 0 ∷ []) (tt, (r, tt))
unfolding raw_text bytes
text_spelled r = rw append-nil

-- nothing more is to be read
leads_end : (n : ℕ) (s b : List ℕ) (y : Descent) → Leads n s [] y b y b
leads_end n s b None = refl
leads_end n s b (Some (c, m)) = record { fills = tt; here = refl; kept = λ w k. rw followed_end k }

-- the program that was read, before what follows it
pub record Whole (n : ℕ) (s : List ℕ) (c : Cursor) (m : Met) (b : List ℕ) : Type 0 where
  pub found : Raw program
  pub here : s ≡ raw_text found ++ drop c.at s
  pub keeps : Keeps (note n 0 found) m b
  pub within : c.at ≤ length s

abbrev pub nothing_met : Met
nothing_met = record { nodes = 0; bad = false; loose = false }

module _ {n : ℕ} {s : List ℕ} {c : Cursor} {b b' : List ℕ} {y : Descent} (start : c.at ≡ 0) (h : Follows n s (bracket 40 ∷ members 0 ∷ []) (Some (c, nothing_met)) b [] y b' × Ahead s 0 y) where
  leads : Leads n s (bracket 40 ∷ members 0 ∷ []) (Some (c, nothing_met)) b y b'
  leads = h.0.then_on y b' (leads_end n s b' y)

  -- no program stands at the beginning
  pub parse_out : y ≡ None → Parses n s b' (none_found OutOfPlace)
  parse_out e = out (λ r t. (rw (e, start) at leads) (tt, (r, tt)) [] (sym t ∙ text_spelled r ∙ sym (append-nil _)))

  -- one does
  pub whole : {c' : Cursor} {m : Met} → y ≡ Some (c', m) → Whole n s c' m b'
  whole {c'} {m} e =
      let p : Passes n s (bracket 40 ∷ members 0 ∷ []) c.at nothing_met b c'.at m b' = rw e at leads in
      let r = p.fills.1.0 in
      record {
        found = r;
        here = ap (λ (k : ℕ). drop k s) (sym start) ∙ p.here ∙ ap (λ (q : List ℕ). q ++ drop c'.at s) (sym (text_spelled r));
        keeps = simp (followed_none, followed_end) at (p.kept no_node (record { count = refl; bad_so_far = refl; loose_so_far = λ e. refl; stored = λ e l. refl }));
        within = (h.1 c' m e).within;
      }

module _ {n : ℕ} {s : List ℕ} {c : Cursor} {m : Met} {b : List ℕ} (w : Whole n s c m b) where
  -- something follows it
  pub parse_more : (c.at ≡ length s → ⊥) → Parses n s b (none_found OutOfPlace)
  unfolding raw_text
  parse_more f = out (λ r t. f (omega (arith, w.within, length-drop c.at s, ap length (bytes_prefix (list (encode w.found)) (list (encode r)) (drop c.at s) [] (sym w.here ∙ sym t ∙ sym (append-nil _))).1)))

  module _ (l : c.at ≡ length s) where
    ended : s ≡ raw_text w.found
    ended = w.here ∙ rw (l, drop-length, append-nil)

    -- an N of it is bad
    pub parse_bad : m.bad ≡ true → Parses n s b (none_found BadNumber)
    unfolding text
    parse_bad e = bad w.found (sym ended) (λ p o.
        let same : raw p ≡ w.found = raw_text_injective (raw p) w.found (o.is ∙ ended) in
        let t = rw same at (told n 0 p o.ranges) in
        impossible (cc (t.good, w.keeps.bad_so_far, e)))

    module _ (e : m.bad ≡ false) where
      good : (note n 0 w.found).bad ≡ false
      good = sym w.keeps.bad_so_far ∙ e

      tree : Tree program
      tree = (treed n 0 w.found good).tree

      of_tree : TextOf n s tree
      unfolding text tree
      of_tree = let t = treed n 0 w.found good in record { is = ap raw_text t.is ∙ sym ended; ranges = t.ranges }

      told_tree : Told 0 tree (note n 0 w.found)
      unfolding tree
      told_tree = let t = treed n 0 w.found good in rw t.is at (told n 0 t.tree t.ranges)

      -- an index of it has no binder
      pub parse_loose : m.loose ≡ true → Parses n s b (none_found NoBinder)
      parse_loose f = loose tree of_tree (λ c. impossible (cc (told_tree.binds.1 c, w.keeps.loose_so_far good)))

      -- it is closed
      pub parse_nodes : m.loose ≡ false → Parses n s b (record { refusal = 0; values = m.nodes ∷ [] })
      parse_nodes f =
          let t = told_tree in
          let size : length (note n 0 w.found).numbers ≡ 2 * nodes tree = ap length t.stands ∙ preorder_length tree in
          let count : m.nodes ≡ nodes tree = omega (arith, w.keeps.count) in
          rw count (of_nodes tree of_tree (t.binds.0 (sym (w.keeps.loose_so_far good) ∙ f)) (λ l. rw (← size) (w.keeps.stored good (omega arith) ∙ t.stands)))
