-- The grammar by its tags: a term is its tag and what is to be read behind it; a program is its closing bracket, or a term and a program.
-- What a descent notes says whether a program has these atoms, and which.
use mathlib.Core.Path.{◌≡◌, refl, sym, ap, ap₂, ◌∙◌}
use mathlib.Core.Logic.{◌↔◌}
use mathlib.Core.Bool.{Bool, true, false, not, ◌||◌, ◌&&◌, or_assoc, or-false}
use mathlib.Core.List.{List, [], ◌∷◌, ◌++◌, append_assoc, append-nil, tail-eq_of_cons-eq}
use Prim.Native.Nat.{ℕ, ◌+◌, ◌<◌}
use native.Mathlib.Numerals.{add-one}
use native.Mathlib.Omega.{arith}
use lib.ListN.{get_or}
use lib.Dec.{eqb, ltb, leb}
use lib.Seq.{append_snoc}
use borrow.Author.Tests.{eqb-true, eq-eqb, ltb-true, lt-ltb, leb-false, lt-leb, not-false}
use Rattle.calculus.specs.Tree.{Sort, term, program, app, guard, unif, code as code_head, at, Tree, empty, alt, bound, free, con, abs, fresh, two, pair_kind, preorder}
use Rattle.calculus.specs.Good.{InRange, Closed, constructors}
use Rattle.calculus.specs.Sexp.{decimal, one, many, Sexp, atom, list, nothing, more, bytes}
use Rattle.calculus.specs.Text.{Leaf, bound_leaf, free_leaf, con_leaf, Raw, raw_empty, raw_alt, raw_leaf, raw_code, raw_at, raw_fresh, raw_two, encode, raw}
use Rattle.calculus.proofs.Decimals.{number_of, number_of_decimal}
use Rattle.calculus.proofs.Bytes.{bytes_prefix}
use Rattle.calculus.specs.Answers.{Values}
use Rattle.reading.specs.Numbers.{NumberIs, is, bad}
use Rattle.reading.specs.Descent.{Note, no_node, node_note, followed, same, is_number, leaf_kind, leaf_below, number_note, note, ToRead, kind, number, bracket, one_term, members, Fills, spelled_all, noted_all, Row, leaf, code, located, opened, pair, tag}
use Rattle.reading.proofs.Decimals.{not_plain}

impossible : {A : Type 0} → ◌≡◌ {A = ℕ} 0 1 → A
impossible e = absurd (omega arith)

both_true : (a b : Bool) → (a && b) ≡ true → (a ≡ true) × (b ≡ true)
both_true true b e = (refl, e)
both_true false b e = impossible (cc)

-- what is to be read behind the tag, up to the closing bracket
abbrev pub parts : ℕ → ℕ → Row → List ToRead
parts n d (leaf l) = number (leaf_kind l) (leaf_below n l) d ∷ []
parts n d code = kind 5 ∷ bracket 40 ∷ members (d + 1) ∷ []
parts n d located = number 6 n d ∷ bracket 40 ∷ members (d + 1) ∷ []
parts n d opened = kind 8 ∷ one_term (d + 1) ∷ []
parts n d (pair o) = kind (pair_kind o) ∷ one_term d ∷ one_term d ∷ []

row_of : ℕ → List (ℕ × Row) → Row
row_of k [] = code
row_of k (a ∷ l) = elim (eqb k a.0) [ true ↦ a.1 | false ↦ row_of k l ]

abbrev rows : List (ℕ × Row)
rows = (118, leaf bound_leaf) ∷ (120, leaf free_leaf) ∷ (99, leaf con_leaf) ∷ (76, located) ∷ (110, opened) ∷ (97, pair app) ∷ (103, pair guard) ∷ (117, pair unif) ∷ []

row_of_tag : (x : Row) → row_of (tag x) rows ≡ x
unfolding row_of
row_of_tag (leaf bound_leaf) = refl
row_of_tag (leaf free_leaf) = refl
row_of_tag (leaf con_leaf) = refl
row_of_tag code = refl
row_of_tag located = refl
row_of_tag opened = refl
row_of_tag (pair app) = refl
row_of_tag (pair guard) = refl
row_of_tag (pair unif) = refl

-- a tag says its row
pub tag_injective : (x y : Row) → tag x ≡ tag y → x ≡ y
tag_injective x y e = sym (row_of_tag x) ∙ ap (λ (k : ℕ). row_of k rows) e ∙ row_of_tag y

-- a byte that is none of the nine
pub no_row_tag : {k : ℕ} → ((((((((Unit {0} × (k ≡ 118 → ⊥)) × (k ≡ 120 → ⊥)) × (k ≡ 99 → ⊥)) × (k ≡ 108 → ⊥)) × (k ≡ 76 → ⊥)) × (k ≡ 110 → ⊥)) × (k ≡ 97 → ⊥)) × (k ≡ 103 → ⊥)) × (k ≡ 117 → ⊥) → (x : Row) → k ≡ tag x → ⊥
no_row_tag h (leaf bound_leaf) = h.0.0.0.0.0.0.0.0.1
no_row_tag h (leaf free_leaf) = h.0.0.0.0.0.0.0.1
no_row_tag h (leaf con_leaf) = h.0.0.0.0.0.0.1
no_row_tag h code = h.0.0.0.0.0.1
no_row_tag h located = h.0.0.0.0.1
no_row_tag h opened = h.0.0.0.1
no_row_tag h (pair app) = h.0.0.1
no_row_tag h (pair guard) = h.0.1
no_row_tag h (pair unif) = h.1

-- Notes and bytes put together.

-- what is noted one after the other
pub followed_assoc : (u v w : Note) → followed (followed u v) w ≡ followed u (followed v w)
unfolding followed
followed_assoc u v w = λ i. record { numbers = append_assoc u.numbers v.numbers w.numbers i; bad = or_assoc u.bad v.bad w.bad i; loose = or_assoc u.loose v.loose w.loose i }

-- nothing noted before it
pub followed_none : (w : Note) → followed no_node w ≡ w
unfolding followed
followed_none w = refl

-- nothing noted behind it
pub followed_end : (w : Note) → followed w no_node ≡ w
unfolding followed
followed_end w = λ i. record { numbers = append-nil w.numbers i; bad = or-false w.bad i; loose = or-false w.loose i }

list_spelled : (m : Sexp many) (r : List ℕ) → bytes (list m) ++ r ≡ 40 ∷ (bytes m ++ (41 ∷ r))
unfolding bytes
list_spelled m r = rw append_snoc

more_spelled : (s : Sexp one) (m : Sexp many) (r : List ℕ) → bytes (more s m) ++ r ≡ bytes s ++ (bytes m ++ r)
unfolding bytes
more_spelled s m r = append_assoc (bytes s) (bytes m) r

nothing_spelled : (r : List ℕ) → bytes nothing ++ r ≡ r
unfolding bytes
nothing_spelled r = refl

ruleset spellings = (list_spelled, more_spelled, nothing_spelled, append_assoc)

-- Terms and programs before other goals hs.

module _ (n d : ℕ) (hs : List ToRead) where
  -- what is to be read behind a tag, and then hs
  abbrev pub Behind : Row → Type 0
  Behind x = Fills (parts n d x ++ (bracket 41 ∷ hs))

  -- the term that it makes
  abbrev pub term_of : (x : Row) → Behind x → Fills (one_term d ∷ hs)
  term_of (leaf l) f = (raw_leaf l f.0, f.1.1)
  term_of code f = (raw_code f.1.1.0, f.1.1.1.1)
  term_of located f = (raw_at f.0 f.1.1.0, f.1.1.1.1)
  term_of opened f = (raw_fresh f.1.0, f.1.1.1)
  term_of (pair o) f = (raw_two o f.1.0 f.1.1.0, f.1.1.1.1)

  -- its bytes are the tag and theirs
  pub term_spelled : (x : Row) (f : Behind x) → spelled_all (one_term d ∷ hs) (term_of x f) ≡ 40 ∷ bytes (atom (tag x ∷ [])) ++ spelled_all (parts n d x ++ (bracket 41 ∷ hs)) f
  unfolding encode
  term_spelled (leaf l) f = simp spellings
  term_spelled code f = simp spellings
  term_spelled located f = simp spellings
  term_spelled opened f = simp spellings
  term_spelled (pair o) f = simp spellings

  -- and what is noted of it is what is noted of them
  pub term_noted : (x : Row) (f : Behind x) → noted_all n (one_term d ∷ hs) (term_of x f) ≡ noted_all n (parts n d x ++ (bracket 41 ∷ hs)) f
  unfolding note
  term_noted (leaf l) f = simp followed_none
  term_noted code f = simp (followed_none, followed_assoc)
  term_noted located f = simp (followed_none, followed_assoc)
  term_noted opened f = simp (followed_none, followed_assoc)
  term_noted (pair o) f = simp (followed_none, followed_assoc)

  -- every term is made so
  pub record Made (f : Fills (one_term d ∷ hs)) (r : List ℕ) : Type 0 where
    pub row : Row
    pub behind : Behind row
    pub is : spelled_all (one_term d ∷ hs) f ++ r ≡ 40 ∷ (bytes (atom (tag row ∷ [])) ++ (spelled_all (parts n d row ++ (bracket 41 ∷ hs)) behind ++ r))

  pub made : (f : Fills (one_term d ∷ hs)) (r : List ℕ) → Made f r
  made f r = go f
    where
      as_row : (x : Row) (g : Behind x) → Made (term_of x g) r
      as_row x g = record { row = x; behind = g; is = ap (λ (q : List ℕ). q ++ r) (term_spelled x g) ∙ append_assoc (40 ∷ bytes (atom (tag x ∷ []))) _ r }

      go : (f : Fills (one_term d ∷ hs)) → Made f r
      go (raw_leaf l b, f) = as_row (leaf l) (b, (tt, f))
      go (raw_code p, f) = as_row code (tt, (tt, (p, (tt, f))))
      go (raw_at b p, f) = as_row located (b, (tt, (p, (tt, f))))
      go (raw_fresh t, f) = as_row opened (tt, (t, (tt, f)))
      go (raw_two o t u, f) = as_row (pair o) (tt, (t, (u, (tt, f))))

  -- a term that stands at a tag is of the tag's row
  pub record Tagged (k : ℕ) (l r : List ℕ) : Type 0 where
    pub row : Row
    pub is : k ≡ tag row
    pub behind : Behind row
    pub rest : l ≡ spelled_all (parts n d row ++ (bracket 41 ∷ hs)) behind ++ r

  -- a tag says so
  pub tagged : (k : ℕ) (l r : List ℕ) (f : Fills (one_term d ∷ hs)) → 40 ∷ bytes (atom (k ∷ [])) ++ l ≡ spelled_all (one_term d ∷ hs) f ++ r → Tagged k l r
  tagged k l r f e =
      let m = made f r in
      let p = bytes_prefix (atom (k ∷ [])) (atom (tag m.row ∷ [])) l _ (tail-eq_of_cons-eq (e ∙ m.is)) in
      let same : atom (k ∷ []) ≡ atom (tag m.row ∷ []) = p.0 in
      record { row = m.row; is = cc; behind = m.behind; rest = p.1 }

  -- a program that is not empty is a term and a program
  abbrev pub Member : Type 0
  Member = Fills (kind 1 ∷ one_term d ∷ members d ∷ hs)

  abbrev pub program_of : Member → Fills (members d ∷ hs)
  program_of f = (raw_alt f.1.0 f.1.1.0, f.1.1.1)

  -- with their bytes
  pub program_spelled : (f : Member) → spelled_all (members d ∷ hs) (program_of f) ≡ spelled_all (kind 1 ∷ one_term d ∷ members d ∷ hs) f
  unfolding encode
  program_spelled f = simp spellings

  -- and their notes
  pub program_noted : (f : Member) → noted_all n (members d ∷ hs) (program_of f) ≡ noted_all n (kind 1 ∷ one_term d ∷ members d ∷ hs) f
  unfolding note
  program_noted f = simp followed_assoc

  -- where no closing bracket is, a program has a member
  pub member : (f : Fills (members d ∷ hs)) (l r : List ℕ) → ((q : List ℕ) → l ≡ 41 ∷ q → ⊥) → l ≡ spelled_all (members d ∷ hs) f ++ r → (g : Member) × (l ≡ spelled_all (kind 1 ∷ one_term d ∷ members d ∷ hs) g ++ r)
  unfolding bytes encode
  member (raw_empty, f) l r h e = absurd (h (spelled_all hs f ++ r) e)
  member (raw_alt t p, f) l r h e = ((tt, (t, (p, f))), e ∙ ap (λ (q : List ℕ). q ++ r) (program_spelled (tt, (t, (p, f)))))

-- The bytes of an N.

same_refl : (b : List ℕ) → same b b ≡ true
unfolding same
same_refl [] = refl
same_refl (a ∷ b) = rw (eq-eqb a a refl) (same_refl b)

same_true : (b q : List ℕ) → same b q ≡ true → b ≡ q
unfolding same
same_true [] [] e = refl
same_true [] (a ∷ q) e = impossible (cc)
same_true (a ∷ b) [] e = impossible (cc)
same_true (a ∷ b) (k ∷ q) e = let h = both_true (eqb a k) (same b q) e in ap₂ ◌∷◌ (eqb-true a k h.0) (same_true b q h.1)

-- the number that they are the decimal of
number_read : (below v : ℕ) (b : List ℕ) → v < below → b ≡ decimal v → (number_of b ≡ v) × (is_number below b ≡ true)
unfolding is_number
number_read below v b h e =
    let g : number_of b ≡ v = ap number_of e ∙ number_of_decimal v in
    (g, rw (g, lt-ltb v below h, e) (same_refl (decimal v)))

-- and they are the decimal of that alone
is_read : (below : ℕ) (b : List ℕ) → is_number below b ≡ true → (number_of b < below) × (decimal (number_of b) ≡ b)
unfolding is_number
is_read below b e = let h = both_true (ltb (number_of b) below) (same (decimal (number_of b)) b) e in (ltb-true (number_of b) below h.0, same_true (decimal (number_of b)) b h.1)

none_read : (below : ℕ) (b : List ℕ) → ((v : ℕ) → v < below → b ≡ decimal v → ⊥) → is_number below b ≡ false
none_read below b f = go (is_number below b) refl
  where
    go : (r : Bool) → is_number below b ≡ r → is_number below b ≡ false
    go true e = let h = is_read below b e in absurd (f (number_of b) h.0 (sym h.1))
    go false e = e

-- an answer that has a number says that the bytes are its decimal
number_given : {below v : ℕ} {b : List ℕ} {w : Values} → NumberIs b below w → w ≡ record { refusal = 0; values = v ∷ [] } → (v < below) × (b ≡ decimal v)
number_given {below} {v} {b} (is x l e) q = let s : x ≡ v = ap (λ (w : Values). get_or w.values 0 0) q in rw (← s) (l, e)
number_given (bad f) q = absurd (omega (arith, ap (λ (w : Values). w.refusal) q))

-- and 5 that they are none
none_given : {below : ℕ} {b : List ℕ} {w : Values} → NumberIs b below w → w.refusal ≡ 5 → (v : ℕ) → v < below → b ≡ decimal v → ⊥
none_given (is x l e) q = absurd (omega (arith, q))
none_given (bad f) q = f

-- a node whose N is read
pub note_read : {below v : ℕ} {b : List ℕ} (k d : ℕ) (l : Bool) → NumberIs b below (record { refusal = 0; values = v ∷ [] }) → (eqb k 2 && leb d v) ≡ l → number_note k below d b ≡ node_note k v false l
unfolding number_note
note_read {below} {v} {b} k d l h f = let t = number_given h refl in let g = number_read below v b t.0 t.1 in rw (g.0, g.1, f)

-- a node whose N is bad
pub note_unread : {below : ℕ} {b : List ℕ} (k d : ℕ) → NumberIs b below not_plain → number_note k below d b ≡ node_note k (number_of b) true (eqb k 2 && leb d (number_of b))
unfolding number_note
note_unread {below} {b} k d h = rw (none_read below b (none_given h refl))

-- Programs.

both_false : (a b : Bool) → (a || b) ≡ false → (a ≡ false) × (b ≡ false)
both_false true b e = impossible (cc)
both_false false b e = (refl, e)

-- what is noted of a tree: no N is bad, its nodes, and whether every index has its binder
pub record Told {s : Sort} (d : ℕ) (t : Tree s) (w : Note) : Type 0 where
  pub good : w.bad ≡ false
  pub stands : w.numbers ≡ preorder t
  pub binds : (w.loose ≡ false) ↔ Closed d t

-- whether both have their binders
both_bind : {A B : Type 0} (k l : Bool) → (k ≡ false) ↔ A → (l ≡ false) ↔ B → ((k || l) ≡ false) ↔ (A × B)
both_bind k l f g = (λ e. let h = both_false k l e in (f.0 h.0, g.0 h.1), λ h. rw (f.1 h.0) (g.1 h.1))

-- the N of a node of a tree is read
number_told : {i below : ℕ} (k d : ℕ) → i < below → number_note k below d (decimal i) ≡ node_note k i false (eqb k 2 && leb d i)
number_told {i} k d h = note_read k d (eqb k 2 && leb d i) (is i h refl) refl

module _ (n d i : ℕ) where
  bound_told : i < n → Told d (bound i) (number_note 2 n d (decimal i))
  unfolding preorder
  bound_told h = rw (number_told 2 d h) (record { good = refl; stands = refl; binds = (leb-false d i, lt-leb d i) })

  free_told : i < n → Told d (free i) (number_note 3 n d (decimal i))
  unfolding preorder
  free_told h = rw (number_told 3 d h) (record { good = refl; stands = refl; binds = (λ e. tt, λ c. refl) })

  con_told : i < constructors → Told d (con i) (number_note 4 constructors d (decimal i))
  unfolding preorder
  con_told h = rw (number_told 4 d h) (record { good = refl; stands = refl; binds = (λ e. tt, λ c. refl) })

  module _ {p : Tree program} {w : Note} (t : Told (d + 1) p w) where
    code_told : Told d (abs code_head p) (followed (node_note 5 0 false false) w)
    unfolding preorder followed
    code_told = record { good = t.good; stands = rw t.stands; binds = rw add-one at t.binds }

    located_told : i < n → Told d (abs (at i) p) (followed (number_note 6 n d (decimal i)) w)
    unfolding preorder followed
    located_told h = rw (number_told 6 d h) (record { good = t.good; stands = rw t.stands; binds = rw add-one at t.binds })

fresh_told : {d : ℕ} {u : Tree term} {w : Note} → Told (d + 1) u w → Told d (fresh u) (followed (node_note 8 0 false false) w)
unfolding preorder followed
fresh_told t = record { good = t.good; stands = rw t.stands; binds = rw add-one at t.binds }

-- of every tree in range
pub told : {s : Sort} (n d : ℕ) (t : Tree s) → InRange n t → Told d t (note n d (raw t))
unfolding note raw preorder followed
told n d empty h = record { good = refl; stands = refl; binds = (λ e. tt, λ c. refl) }
told n d (alt t p) h =
    let v = told n d t h.0 in
    let w = told n d p h.1 in
    record { good = rw (v.good, w.good); stands = rw (v.stands, w.stands); binds = both_bind _ _ v.binds w.binds }
told n d (bound i) h = bound_told n d i h
told n d (free i) h = free_told n d i h
told n d (con i) h = con_told n d i h
told n d (abs code_head p) h = code_told n d 0 (told n (d + 1) p h.1)
told n d (abs (at l) p) h = located_told n d l (told n (d + 1) p h.1) h.0
told n d (fresh t) h = fresh_told (told n (d + 1) t h)
told n d (two o t u) h =
    let v = told n d t h.0 in
    let w = told n d u h.1 in
    record { good = rw (v.good, w.good); stands = rw (v.stands, w.stands); binds = both_bind _ _ v.binds w.binds }

-- no N is bad: a tree in range has these atoms
pub record Treed {s : Sort} (n : ℕ) (r : Raw s) : Type 0 where
  pub tree : Tree s
  pub ranges : InRange n tree
  pub is : raw tree ≡ r

leaf_treed : (l : Leaf) (n : ℕ) (b : List ℕ) → (number_of b < leaf_below n l) × (decimal (number_of b) ≡ b) → Treed n (raw_leaf l b)
unfolding raw
leaf_treed bound_leaf n b h = record { tree = bound (number_of b); ranges = h.0; is = ap (raw_leaf bound_leaf) h.1 }
leaf_treed free_leaf n b h = record { tree = free (number_of b); ranges = h.0; is = ap (raw_leaf free_leaf) h.1 }
leaf_treed con_leaf n b h = record { tree = con (number_of b); ranges = h.0; is = ap (raw_leaf con_leaf) h.1 }

-- there is one
pub treed : {s : Sort} (n d : ℕ) (r : Raw s) → (note n d r).bad ≡ false → Treed n r
unfolding note raw followed number_note
treed n d raw_empty e = record { tree = empty; ranges = tt; is = refl }
treed n d (raw_alt t p) e =
    let h = both_false (note n d t).bad (note n d p).bad e in
    let v = treed n d t h.0 in
    let w = treed n d p h.1 in
    record { tree = alt v.tree w.tree; ranges = (v.ranges, w.ranges); is = ap₂ raw_alt v.is w.is }
treed n d (raw_leaf l b) e = leaf_treed l n b (is_read (leaf_below n l) b (not-false (is_number (leaf_below n l) b) e))
treed n d (raw_code p) e = let v = treed n (d + 1) p e in record { tree = abs code_head v.tree; ranges = (tt, v.ranges); is = ap raw_code v.is }
treed n d (raw_at b p) e =
    let h = both_false (not (is_number n b)) (note n (d + 1) p).bad e in
    let i = is_read n b (not-false (is_number n b) h.0) in
    let v = treed n (d + 1) p h.1 in
    record { tree = abs (at (number_of b)) v.tree; ranges = (i.0, v.ranges); is = ap₂ raw_at i.1 v.is }
treed n d (raw_fresh t) e = let v = treed n (d + 1) t e in record { tree = fresh v.tree; ranges = v.ranges; is = ap raw_fresh v.is }
treed n d (raw_two o t u) e =
    let h = both_false (note n d t).bad (note n d u).bad e in
    let v = treed n d t h.0 in
    let w = treed n d u h.1 in
    record { tree = two o v.tree w.tree; ranges = (v.ranges, w.ranges); is = ap₂ (raw_two o) v.is w.is }
