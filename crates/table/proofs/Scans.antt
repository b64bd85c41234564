-- The walk over a table as a function on its numbers, and what that function finds.
use mathlib.Core.Path.{◌≡◌, refl, sym, ap, ◌∙◌}
use mathlib.Core.Logic.{◌⊎◌, inl, inr}
use mathlib.Core.Bool.{Bool, true, false, cond, ◌&&◌, false≢true, true≢false}
use mathlib.Core.List.{List, [], ◌∷◌, ◌++◌, map, append_assoc, append-nil}
use Prim.Native.Nat.{ℕ, suc, zero, ◌+◌, ◌-◌, ◌*◌, ◌≤◌, ◌<◌}
use native.Mathlib.Numerals.{add-one}
use native.Mathlib.Nat.{add-zero}
use native.Mathlib.Omega.{arith}
use borrow.Author.Tests.{ltb-true, eqb-true, lt-ltb, ne_eqb, leb-false, lt-leb}
use lib.Dec.{eqb, ltb, leb}
use lib.ListN.{length, get_or, take, drop, set, length-take, length-set, drop_of_length-le, get_or-eq_default}
use lib.Seq.{length-take-le, get_or-take, get_or-set_same, drop-cons, drop-drop}
use Rattle.calculus.specs.Tree.{Sort, term, program, Pair, app, guard, unif, Head, code, at, Tree, empty, alt, bound, free, con, abs, fresh, two, pair_kind, numbers_of_head, preorder}
use Rattle.calculus.specs.Good.{InRange, HeadInRange, constructors}
use Rattle.calculus.specs.Calls.{TableOf}
use Rattle.calculus.proofs.Preorders.{preorder_length}
use Rattle.calculus.proofs.Substitutes.{impossible}
use Rattle.calculus.specs.Answers.{number}
use Rattle.calculus.specs.declared.Refusal.TheVariants as refusal
use Rattle.table.specs.Checks.{unbound, Walks, nothing, loose, scoped, ScopedIn, inside}
use Rattle.table.specs.Kinds.{kind_code}
use Rattle.table.specs.declared.kinds.Kind.{Kind}
use Rattle.table.specs.declared.kinds.Kind.TheVariants.{Empty, Alternative, Bound, Free, Constructor, Abstraction, Allocated, Application, Fresh, Guard, Unification}
use Rattle.table.specs.Nodes.{kind_at, number_at, NodeIs, parts}
use Rattle.table.specs.Pending.{Want, want, kept, tests, may, last_sort, binds, last_part, wants, PartsPut}
use Rattle.table.proofs.Trees.{here_node}
use Rattle.table.proofs.Spans.{two_parts}

-- What a walk finds: no program, a program with an index that has no binder, or one without.
pub data Walked : Type 0 where
  NoProgram : Walked
  Loose : Walked
  Scoped : Walked

-- its number
abbrev pub walked_number : Bool → Walked → ℕ
walked_number within NoProgram = number refusal.NoProgram
walked_number within Loose = number (unbound within)
walked_number within Scoped = 0

never : (b : Bool) → NoProgram ≡ cond b Scoped Loose → ⊥
never true e = impossible (cc)
never false e = impossible (cc)

-- an index without its binder unsets the flag
unfoldable pub flag : ℕ → ℕ → ℕ → Bool → Bool
flag k d m b = cond (eqb k 2 && leb d m) false b

-- the rest of a walk: from what is pending, the numbers that are left and the flag
unfoldable pub scan : ℕ → Bool → List Want → List ℕ → Bool → Walked
scan n w [] [] b = cond b Scoped Loose
scan n w (p ∷ ps) [] b = NoProgram
scan n w ps (k ∷ []) b = NoProgram
scan n w [] (k ∷ m ∷ r) b = NoProgram
scan n w (want s d ∷ ps) (k ∷ m ∷ r) b = cond (may n s k m) (scan n w (wants w d k ++ ps) r (flag k d m b)) NoProgram

-- the flag after a tree
still : {s : Sort} → Bool → ℕ → Tree s → Bool → Bool
still w d empty b = b
still w d (alt t p) b = still w d p (still w d t b)
still w d (bound i) b = flag 2 d i b
still w d (free x) b = b
still w d (con c) b = b
still w d (abs h p) b = still w (inside w d h) p b
still w d (fresh t) b = still w (suc d) t b
still w d (two o s t) b = still w d t (still w d s b)

module _ (n : ℕ) (w : Bool) where
  -- the walk goes on behind the tree, with the flag that it leaves
  abbrev Passes : {s : Sort} → Tree s → Type 0
  Passes {s} x = (d : ℕ) (ps : List Want) (r : List ℕ) (b : Bool) → scan n w (want s d ∷ ps) (preorder x ++ r) b ≡ scan n w ps r (still w d x b)

  both : {s u : Sort} (x : Tree s) (y : Tree u) → Passes x → Passes y → (d : ℕ) (ps : List Want) (r : List ℕ) (b : Bool) →
      scan n w (want s d ∷ want u d ∷ ps) ((preorder x ++ preorder y) ++ r) b ≡ scan n w ps r (still w d y (still w d x b))
  both x y g h d ps r b = rw append_assoc (g d _ _ b ∙ h d ps r _)

  pair_node : (o : Pair) (d : ℕ) (ps : List Want) (r : List ℕ) (b : Bool) → scan n w (want term d ∷ ps) (pair_kind o ∷ 0 ∷ r) b ≡ scan n w (want term d ∷ want term d ∷ ps) r b
  unfolding scan flag tests may wants last_part
  pair_node app d ps r b = refl
  pair_node guard d ps r b = refl
  pair_node unif d ps r b = refl

  -- a walk passes every tree with its numbers in range
  passes : {s : Sort} (x : Tree s) → InRange n x → Passes x
  unfolding scan flag preorder still tests may wants last_part
  passes empty h d ps r b = refl
  passes (alt t p) h d ps r b = both t p (passes t h.0) (passes p h.1) d ps r b
  passes (bound i) h d ps r b = rw (lt-ltb i n h)
  passes (free x) h d ps r b = rw (lt-ltb x n h)
  passes (con c) h d ps r b = rw (lt-ltb c constructors h)
  passes (abs code p) h d ps r b = passes p h.1 (suc d) ps r b
  passes (abs (at l) p) h d ps r b = rw (lt-ltb l n h.0) (passes p h.1 (cond w 1 (suc d)) ps r b)
  passes (fresh t) h d ps r b = passes t h (suc d) ps r b
  passes (two o s t) h d ps r b = pair_node o d ps ((preorder s ++ preorder t) ++ r) b ∙ both s t (passes s h.0) (passes t h.1) d ps r b

  -- the nodes that may stand for each sort
  data Node : Sort → ℕ → ℕ → Type 0 where
    empties : Node program 0 0
    alts : Node program 1 0
    bounds : {i : ℕ} → i < n → Node term 2 i
    frees : {x : ℕ} → x < n → Node term 3 x
    cons : {c : ℕ} → c < constructors → Node term 4 c
    codes : Node term 5 0
    stored : {l : ℕ} → l < n → Node term 6 l
    pairs : (o : Pair) → Node term (pair_kind o) 0
    freshes : Node term 8 0

  -- a kind with no number has 0
  zeroed : {s : Sort} {k : ℕ} (m : ℕ) → Node s k 0 → eqb m 0 ≡ true → Node s k m
  zeroed m x e = rw (eqb-true m 0 e) x

  node : (s : Sort) (k m : ℕ) → may n s k m ≡ true → Node s k m
  unfolding tests may
  node program zero m e = zeroed m empties e
  node program (suc zero) m e = zeroed m alts e
  node program (suc (suc k)) m e = absurd (false≢true e)
  node term zero m e = absurd (false≢true e)
  node term (suc zero) m e = absurd (false≢true e)
  node term (suc (suc zero)) m e = bounds (ltb-true m n e)
  node term (suc (suc (suc zero))) m e = frees (ltb-true m n e)
  node term (suc (suc (suc (suc zero)))) m e = cons (ltb-true m constructors e)
  node term (suc (suc (suc (suc (suc zero))))) m e = zeroed m codes e
  node term (suc (suc (suc (suc (suc (suc zero)))))) m e = stored (ltb-true m n e)
  node term (suc (suc (suc (suc (suc (suc (suc zero))))))) m e = zeroed m (pairs app) e
  node term (suc (suc (suc (suc (suc (suc (suc (suc zero)))))))) m e = zeroed m freshes e
  node term (suc (suc (suc (suc (suc (suc (suc (suc (suc zero))))))))) m e = zeroed m (pairs guard) e
  node term (suc (suc (suc (suc (suc (suc (suc (suc (suc (suc zero)))))))))) m e = zeroed m (pairs unif) e
  node term (suc (suc (suc (suc (suc (suc (suc (suc (suc (suc (suc k))))))))))) m e = absurd (false≢true e)

  -- trees of the wanted sorts, with their numbers in range, make up the list
  data Forest : List Want → List ℕ → Type 0 where
    none : Forest [] []
    more : {s : Sort} {d : ℕ} {ps : List Want} {r : List ℕ} (x : Tree s) → InRange n x → Forest ps r → Forest (want s d ∷ ps) (preorder x ++ r)

  join_alt : {d e : ℕ} {ps : List Want} {r : List ℕ} → Forest (want term d ∷ want program d ∷ ps) r → Forest (want program e ∷ ps) (1 ∷ 0 ∷ r)
  unfolding preorder
  join_alt (more t ht (more {r = r} p hp f)) = rw (← append_assoc (preorder t) (preorder p) r) (more (alt t p) (ht, hp) f)

  join_two : (o : Pair) {d e : ℕ} {ps : List Want} {r : List ℕ} → Forest (want term d ∷ want term d ∷ ps) r → Forest (want term e ∷ ps) (pair_kind o ∷ 0 ∷ r)
  unfolding preorder
  join_two o (more s hs (more {r = r} t ht f)) = rw (← append_assoc (preorder s) (preorder t) r) (more (two o s t) (hs, ht) f)

  join_abs : (h : Head) → HeadInRange n h → {d e : ℕ} {ps : List Want} {r : List ℕ} → Forest (want program d ∷ ps) r → Forest (want term e ∷ ps) (numbers_of_head h ++ r)
  unfolding preorder
  join_abs h i (more {r = r} p hp f) = rw (← append_assoc (numbers_of_head h) (preorder p) r) (more (abs h p) (i, hp) f)

  join_fresh : {d e : ℕ} {ps : List Want} {r : List ℕ} → Forest (want term d ∷ ps) r → Forest (want term e ∷ ps) (8 ∷ 0 ∷ r)
  unfolding preorder
  join_fresh (more t ht f) = more (fresh t) ht f

  -- a node and the trees that are its parts make a tree
  join : {s : Sort} {k m d : ℕ} {ps : List Want} {r : List ℕ} → Node s k m → Forest (wants w d k ++ ps) r → Forest (want s d ∷ ps) (k ∷ m ∷ r)
  unfolding preorder wants last_part
  join empties f = more empty tt f
  join alts f = join_alt f
  join (bounds {i} h) f = more (bound i) h f
  join (frees {x} h) f = more (free x) h f
  join (cons {c} h) f = more (con c) h f
  join codes f = join_abs code tt f
  join (stored {l} h) f = join_abs (at l) h f
  join (pairs app) f = join_two app f
  join (pairs guard) f = join_two guard f
  join (pairs unif) f = join_two unif f
  join freshes f = join_fresh f

  -- where the walk accepts, such trees stand there
  sound : (l : List ℕ) (ps : List Want) (b : Bool) → (scan n w ps l b ≡ NoProgram → ⊥) → Forest ps l
  unfolding scan
  sound [] [] b h = none
  sound [] (p ∷ ps) b h = absurd (h refl)
  sound (k ∷ []) ps b h = absurd (h refl)
  sound (k ∷ m ∷ r) [] b h = absurd (h refl)
  sound (k ∷ m ∷ r) (want s d ∷ ps) b h = go (may n s k m) refl h (sound r (wants w d k ++ ps) (flag k d m b))
    where
      go : (c : Bool) → may n s k m ≡ c → (cond c (scan n w (wants w d k ++ ps) r (flag k d m b)) NoProgram ≡ NoProgram → ⊥) →
          ((scan n w (wants w d k ++ ps) r (flag k d m b) ≡ NoProgram → ⊥) → Forest (wants w d k ++ ps) r) → Forest (want s d ∷ ps) (k ∷ m ∷ r)
      go true e h f = join (node s k m e) (f h)
      go false e h f = absurd (h refl)

  flag_true : (d i : ℕ) (b : Bool) → flag 2 d i b ≡ true → (b ≡ true) × (suc i ≤ d)
  unfolding flag
  flag_true d i b e = go (leb d i) refl e
    where
      go : (c : Bool) → leb d i ≡ c → cond c false b ≡ true → (b ≡ true) × (suc i ≤ d)
      go true h e = absurd (false≢true e)
      go false h e = (e, leb-false d i h)

  still_two : {s u : Sort} (x : Tree s) (y : Tree u) (d : ℕ) (b : Bool) → (still w d x b ≡ true → (b ≡ true) × ScopedIn w d x) → (still w d x b ≡ true) × ScopedIn w d y → (b ≡ true) × (ScopedIn w d x × ScopedIn w d y)
  still_two x y d b f h = ((f h.0).0, ((f h.0).1, h.1))

  -- the flag stays set exactly where every index has its binder
  still_true : {s : Sort} (x : Tree s) (d : ℕ) (b : Bool) → still w d x b ≡ true → (b ≡ true) × ScopedIn w d x
  unfolding still
  still_true empty d b e = (e, tt)
  still_true (alt t p) d b e = still_two t p d b (still_true t d b) (still_true p d (still w d t b) e)
  still_true (bound i) d b e = flag_true d i b e
  still_true (free x) d b e = (e, tt)
  still_true (con c) d b e = (e, tt)
  still_true (abs h p) d b e = still_true p (inside w d h) b e
  still_true (fresh t) d b e = still_true t (suc d) b e
  still_true (two o s t) d b e = still_two s t d b (still_true s d b) (still_true t d (still w d s b) e)

  scoped_still : {s : Sort} (x : Tree s) (d : ℕ) → ScopedIn w d x → still w d x true ≡ true
  unfolding flag still
  scoped_still empty d h = refl
  scoped_still (alt t p) d h = rw (scoped_still t d h.0) (scoped_still p d h.1)
  scoped_still (bound i) d h = rw (lt-leb d i h)
  scoped_still (free x) d h = refl
  scoped_still (con c) d h = refl
  scoped_still (abs c p) d h = scoped_still p (inside w d c) h
  scoped_still (fresh t) d h = scoped_still t (suc d) h
  scoped_still (two o s t) d h = rw (scoped_still s d h.0) (scoped_still t d h.1)

  -- the whole walk over the first `count` nodes
  abbrev pub whole : List ℕ → ℕ → Walked
  whole t count = scan n w (want program 0 ∷ []) (take (2 * count) t) true

  module _ (t : List ℕ) (count : ℕ) where
    whole_at : (p : Tree program) → TableOf n t count p → whole t count ≡ cond (still w 0 p true) Scoped Loose
    unfolding scan
    whole_at p h = rw (h.is, ← append-nil (preorder p)) (passes p h.ranges 0 [] [] true)

    judged : (p : Tree program) → TableOf n t count p → (b : Bool) → still w 0 p true ≡ b → Walks n w t count (walked_number w (cond b Scoped Loose))
    judged p h true e = scoped p h (still_true p 0 true e).1
    judged p h false e = loose p h (λ s. true≢false (sym (scoped_still p 0 s) ∙ e))

    module _ (small : count ≤ n) (fits : 2 * count ≤ length t) where
      table_of : (p : Tree program) → take (2 * count) t ≡ preorder p → InRange n p → TableOf n t count p
      table_of p e h = record { counts = omega (arith, preorder_length p, ap length e, length-take (2 * count) t); small = small; within = fits; is = e; ranges = h }

      accepted : {l : List ℕ} → take (2 * count) t ≡ l → Forest (want program 0 ∷ []) l → Walks n w t count (walked_number w (whole t count))
      accepted e (more p h none) =
          let o : TableOf n t count p = table_of p (e ∙ append-nil (preorder p)) h in
          rw (whole_at p o) (judged p o (still w 0 p true) refl)

      -- what the walk finds is what stands there
      pub whole_walks : Walks n w t count (walked_number w (whole t count))
      whole_walks = go (whole t count) refl
        where
          go : (r : Walked) → whole t count ≡ r → Walks n w t count (walked_number w (whole t count))
          go NoProgram e = rw e (nothing (λ p h. never (still w 0 p true) (sym e ∙ whole_at p h)))
          go Loose e = accepted refl (sound _ _ true (λ f. impossible (cc)))
          go Scoped e = accepted refl (sound _ _ true (λ f. impossible (cc)))

-- the kinds as the code tests them
module _ (n m : ℕ) where
  pub no_program : (k : ℕ) → 2 ≤ k → false ≡ may n program k m
  unfolding tests may
  no_program k h = sym (get_or-eq_default (tests n program m) false h)

  pub no_term : (k : ℕ) → 11 ≤ k → false ≡ may n term k m
  unfolding tests may
  no_term k h = sym (get_or-eq_default (tests n term m) false h)

  -- a number that no kind has
  pub no_kind : (s : Sort) (k : ℕ) → 10 < k → false ≡ may n s k m
  no_kind program k h = no_program k (omega arith)
  no_kind term k h = no_term k (omega arith)

  module _ (k : Kind) where
    pub in_program : (k ≡ Empty) ⊎ (k ≡ Alternative) → eqb m 0 ≡ may n program (kind_code k) m
    unfolding tests may
    in_program (inl e) = rw e refl
    in_program (inr e) = rw e refl

    pub in_program_only : (k ≡ Empty) ⊎ (k ≡ Alternative) → false ≡ may n term (kind_code k) m
    unfolding tests may
    in_program_only (inl e) = rw e refl
    in_program_only (inr e) = rw e refl

    pub ranged : (k ≡ Bound) ⊎ ((k ≡ Free) ⊎ (k ≡ Allocated)) → ltb m n ≡ may n term (kind_code k) m
    unfolding tests may
    ranged (inl e) = rw e refl
    ranged (inr (inl e)) = rw e refl
    ranged (inr (inr e)) = rw e refl

    pub constant : k ≡ Constructor → m < constructors → true ≡ may n term (kind_code k) m
    unfolding tests may
    constant e h = rw e (sym (lt-ltb m constructors h))

    pub numberless : (k ≡ Abstraction) ⊎ ((k ≡ Application) ⊎ ((k ≡ Fresh) ⊎ ((k ≡ Guard) ⊎ (k ≡ Unification)))) → eqb m 0 ≡ may n term (kind_code k) m
    unfolding tests may
    numberless (inl e) = rw e refl
    numberless (inr (inl e)) = rw e refl
    numberless (inr (inr (inl e))) = rw e refl
    numberless (inr (inr (inr (inl e)))) = rw e refl
    numberless (inr (inr (inr (inr e)))) = rw e refl

-- a kind that is neither of a program's
pub term_kinds : (k : Kind) → (k ≡ Empty → ⊥) → (k ≡ Alternative → ⊥) → 2 ≤ kind_code k
term_kinds Empty f g = absurd (f refl)
term_kinds Alternative f g = absurd (g refl)
term_kinds Bound f g = omega arith
term_kinds Free f g = omega arith
term_kinds Constructor f g = omega arith
term_kinds Abstraction f g = omega arith
term_kinds Allocated f g = omega arith
term_kinds Application f g = omega arith
term_kinds Fresh f g = omega arith
term_kinds Guard f g = omega arith
term_kinds Unification f g = omega arith

-- the last part, kind by kind
module _ (within : Bool) (d k : ℕ) where
  pub last_alt : k ≡ 1 → want program d ≡ last_part within d k
  unfolding last_part
  last_alt e = rw e refl

  pub last_code : k ≡ 5 → want program (d + 1) ≡ last_part within d k
  unfolding last_part
  last_code e = rw (e, add-one) refl

  pub last_inside : k ≡ 6 → within ≡ true → want program 1 ≡ last_part within d k
  unfolding last_part
  last_inside e w = rw (e, w) refl

  pub last_stored : k ≡ 6 → within ≡ false → want program (d + 1) ≡ last_part within d k
  unfolding last_part
  last_stored e w = rw (e, w, add-one) refl

  pub last_fresh : k ≡ 8 → want term (d + 1) ≡ last_part within d k
  unfolding last_part
  last_fresh e = rw (e, add-one) refl

pub last_other : (within : Bool) (d : ℕ) (k : Kind) → (k ≡ Alternative → ⊥) → (k ≡ Abstraction → ⊥) → (k ≡ Allocated → ⊥) → (k ≡ Fresh → ⊥) → want term d ≡ last_part within d (kind_code k)
unfolding last_part
last_other w d Alternative f g h i = absurd (f refl)
last_other w d Abstraction f g h i = absurd (g refl)
last_other w d Allocated f g h i = absurd (h refl)
last_other w d Fresh f g h i = absurd (i refl)
last_other w d Empty f g h i = refl
last_other w d Bound f g h i = refl
last_other w d Free f g h i = refl
last_other w d Constructor f g h i = refl
last_other w d Application f g h i = refl
last_other w d Guard f g h i = refl
last_other w d Unification f g h i = refl

-- the last part as the code makes it: of an allocated abstraction where only its own binder counts, and in every other case
pub last_closed : (within : Bool) (d : ℕ) (k : Kind) → k ≡ Allocated → within ≡ true → want (last_sort (kind_code k)) 1 ≡ last_part within d (kind_code k)
last_closed w d k e f = rw e (last_inside w d 6 refl f)

pub last_made : (within : Bool) (d : ℕ) (k : Kind) → (k ≡ Allocated → within ≡ true → ⊥) → want (last_sort (kind_code k)) (d + binds (kind_code k)) ≡ last_part within d (kind_code k)
last_made true d Allocated h = absurd (h refl refl)
last_made false d Allocated h = last_stored false d 6 refl refl
last_made w d Alternative h = rw add-zero (last_alt w d 1 refl)
last_made w d Abstraction h = last_code w d 5 refl
last_made w d Fresh h = last_fresh w d 8 refl
last_made w d Empty h = rw add-zero (last_other w d Empty (λ e. impossible (cc)) (λ e. impossible (cc)) (λ e. impossible (cc)) (λ e. impossible (cc)))
last_made w d Bound h = rw add-zero (last_other w d Bound (λ e. impossible (cc)) (λ e. impossible (cc)) (λ e. impossible (cc)) (λ e. impossible (cc)))
last_made w d Free h = rw add-zero (last_other w d Free (λ e. impossible (cc)) (λ e. impossible (cc)) (λ e. impossible (cc)) (λ e. impossible (cc)))
last_made w d Constructor h = rw add-zero (last_other w d Constructor (λ e. impossible (cc)) (λ e. impossible (cc)) (λ e. impossible (cc)) (λ e. impossible (cc)))
last_made w d Application h = rw add-zero (last_other w d Application (λ e. impossible (cc)) (λ e. impossible (cc)) (λ e. impossible (cc)) (λ e. impossible (cc)))
last_made w d Guard h = rw add-zero (last_other w d Guard (λ e. impossible (cc)) (λ e. impossible (cc)) (λ e. impossible (cc)) (λ e. impossible (cc)))
last_made w d Unification h = rw add-zero (last_other w d Unification (λ e. impossible (cc)) (λ e. impossible (cc)) (λ e. impossible (cc)) (λ e. impossible (cc)))

two_written : (n : ℕ) (l : List ℕ) (a b : ℕ) → suc (suc n) ≤ length l → drop n (set (set l (suc n) a) n b) ≡ b ∷ a ∷ drop (suc (suc n)) l
two_written zero [] a b h = absurd (omega arith)
two_written zero (x ∷ []) a b h = absurd (omega arith)
two_written zero (x ∷ y ∷ l) a b h = refl
two_written (suc n) [] a b h = absurd (omega arith)
two_written (suc n) (x ∷ l) a b h = two_written n l a b (omega arith)

kept_from : (j x y : ℕ) (l : List ℕ) → j ≤ 2 → map kept (drop j (x ∷ y ∷ l)) ≡ drop j (kept x ∷ kept y ∷ []) ++ map kept l
kept_from zero x y l h = refl
kept_from (suc zero) x y l h = refl
kept_from (suc (suc zero)) x y l h = refl
kept_from (suc (suc (suc j))) x y l h = absurd (omega arith)

-- both places below the top are written, and the new top says which of them count
pub parts_put : (within : Bool) (d k top p q r : ℕ) (l : List ℕ) → 2 ≤ top → top ≤ length l → kept p ≡ last_part within d k → kept q ≡ want term d → r ≡ get_or parts k 0 →
    PartsPut within d k top l (set (set l (top - 1) p) (top - 2) q) (top - r)
unfolding wants
parts_put within d k top p q r l h g e t m =
    let few : r ≤ 2 = omega (arith, two_parts k) in
    let i : top - 1 ≡ suc (top - 2) = omega arith in
    let j : suc (suc (top - 2)) ≡ top = omega arith in
    let f : top - r ≡ (top - 2) + (2 - r) = omega arith in
    let u : drop (top - 2) (set (set l (suc (top - 2)) p) (top - 2) q) ≡ q ∷ p ∷ drop top l = two_written (top - 2) l p q (omega arith) ∙ ap (λ (m : ℕ). q ∷ p ∷ drop m l) j in
    record { low = omega arith; high = omega arith; pending = rw (f, i, ← drop-drop (2 - r) (top - 2), u, kept_from (2 - r) q p (drop top l) (omega arith), e, t, m) refl }

-- every pending tree has at most e binders around it
abbrev Below : ℕ → List Want → Type 0
Below e [] = Unit {0}
Below e (want s d ∷ ws) = (d ≤ e) × Below e ws

below_more : (e : ℕ) (ws : List Want) → Below e ws → Below (e + 1) ws
below_more e [] b = tt
below_more e (want s d ∷ ws) b = (omega arith, below_more e ws b.1)

module _ (e : ℕ) where
  below_append : (vs ws : List Want) → Below e vs → Below e ws → Below e (vs ++ ws)
  below_append [] ws b c = c
  below_append (want s d ∷ vs) ws b c = (b.0, below_append vs ws b.1 c)

  below_drop : (j : ℕ) (ws : List Want) → Below e ws → Below e (drop j ws)
  below_drop zero ws b = b
  below_drop (suc j) [] b = b
  below_drop (suc j) (want s d ∷ ws) b = below_drop j ws b.1

  below_cond : (b : Bool) (x y : Want) → Below e (x ∷ []) → Below e (y ∷ []) → Below e (cond b x y ∷ [])
  below_cond true x y p q = p
  below_cond false x y p q = q

  below_wants : (within : Bool) (d k : ℕ) (ws : List Want) → suc d ≤ e → Below e ws → Below e (wants within d k ++ ws)
  unfolding wants last_part
  below_wants within d k ws h c =
      let deep : Below e (want program (cond within 1 (suc d)) ∷ []) = elim within as (λ b. Below e (want program (cond b 1 (suc d)) ∷ [])) [ true ↦ omega arith | false ↦ omega arith ] in
      let last : Below e (last_part within d k ∷ []) = below_cond (eqb k 1) _ _ (omega arith) (below_cond (eqb k 5) _ _ (omega arith) (below_cond (eqb k 6) _ _ deep (below_cond (eqb k 8) _ _ (omega arith) (omega arith)))) in
      below_append (drop (2 - get_or parts k 0) (want term d ∷ last_part within d k ∷ [])) ws (below_drop (2 - get_or parts k 0) (want term d ∷ last_part within d k ∷ []) (omega arith, last)) c

-- The loop of the walk: what is left of it gives what the whole gives.
module _ (t : List ℕ) (count limit : ℕ) (within : Bool) (end : ℕ) where
  -- the loop's invariant
  pub record Walking (pending : List ℕ) (top : ℕ) (bound : Bool) (at : ℕ) : Type 0 where
    pub full : length pending ≡ end
    pub most : at ≤ count
    pub low : top ≤ end
    pub high : end ≤ top + at + 1
    pub depths : Below at (map kept (drop top pending))
    pub rest : scan limit within (map kept (drop top pending)) (drop (2 * at) (take (2 * count) t)) bound ≡ whole limit within t count

  -- one program is pending, and nothing is read
  pub walk_begins : (l : List ℕ) → length l ≡ end → 1 ≤ end → Walking (set l (end - 1) 1) (end - 1) true 0
  walk_begins l e h =
      let n : length (set l (end - 1) 1) ≡ end = length-set l (end - 1) 1 ∙ e in
      let g : drop (end - 1) (set l (end - 1) 1) ≡ 1 ∷ [] = rw (drop-cons (set l (end - 1) 1) (end - 1) 0 (omega arith), get_or-set_same l (end - 1) 1 0 (omega arith), drop_of_length-le (set l (end - 1) 1) {i = suc (end - 1)} (omega arith)) in
      record { full = n; most = omega arith; low = omega arith; high = omega arith; depths = rw g (omega arith); rest = rw g refl }

module _ {t : List ℕ} {count limit : ℕ} {within : Bool} {end : ℕ} {pending : List ℕ} {top : ℕ} {bound : Bool} {at : ℕ} (v : Walking t count limit within end pending top bound at) where
  -- the top is pending
  pending_top : top < end → map kept (drop top pending) ≡ kept (get_or pending top 0) ∷ map kept (drop (top + 1) pending)
  pending_top h = rw (add-one, drop-cons pending top 0 (omega arith))

  -- no more binders are around it than nodes were passed
  pub depth_there : {s : Sort} {d : ℕ} → top < end → kept (get_or pending top 0) ≡ want s d → d ≤ at
  depth_there {s} {d} h e = let top_is : map kept (drop top pending) ≡ want s d ∷ map kept (drop (top + 1) pending) = rw (← e) (pending_top h) in (rw top_is at v.depths).0

  -- nothing is pending, or nothing is left to read
  none_pending : top ≡ end → map kept (drop top pending) ≡ []
  none_pending h = rw (drop_of_length-le pending {i = top} (omega arith))

  nothing_left : count ≤ at → drop (2 * at) (take (2 * count) t) ≡ []
  nothing_left h = drop_of_length-le (take (2 * count) t) {i = 2 * at} (omega (arith, length-take (2 * count) t))

  reads : {ps : List Want} {l : List ℕ} → map kept (drop top pending) ≡ ps → drop (2 * at) (take (2 * count) t) ≡ l → scan limit within ps l bound ≡ whole limit within t count
  reads e f = rw (← e, ← f) v.rest

  module _ (small : count ≤ limit) (fits : 2 * count ≤ length t) where
    found : {r : Walked} → r ≡ whole limit within t count → Walks limit within t count (walked_number within r)
    found e = rw e (whole_walks limit within t count small fits)

    -- all nodes are read and a tree is still pending
    pub ends_open : count ≤ at → (top ≡ end → ⊥) → Walks limit within t count (walked_number within NoProgram)
    unfolding scan
    ends_open h g = found (reads (pending_top (omega arith)) (nothing_left h))

    -- all nodes are read and none is
    pub ends_closed : count ≤ at → top ≡ end → Walks limit within t count (walked_number within (cond bound Scoped Loose))
    unfolding scan
    ends_closed h g = found (reads (none_pending g) (nothing_left h))

    module _ (here : at < count) where
      next_node : drop (2 * at) (take (2 * count) t) ≡ kind_at t at ∷ number_at t at ∷ drop (2 * (at + 1)) (take (2 * count) t)
      next_node =
          let n : length (take (2 * count) t) ≡ 2 * count = length-take-le (2 * count) t fits in
          rw (here_node (take (2 * count) t) at (omega arith), get_or-take (2 * count) t (2 * at) 0 (omega arith), get_or-take (2 * count) t (2 * at + 1) 0 (omega arith))

      -- a node is left and nothing is pending
      pub ends_early : top ≡ end → Walks limit within t count (walked_number within NoProgram)
      unfolding scan
      ends_early g = found (reads (none_pending g) next_node)

      module _ (g : top < end) {s : Sort} {d : ℕ} (w : kept (get_or pending top 0) ≡ want s d) {k m : ℕ} (o : NodeIs t at k m) where
        top_wanted : map kept (drop top pending) ≡ want s d ∷ map kept (drop (top + 1) pending)
        top_wanted = rw (← w) (pending_top g)

        there : drop (2 * at) (take (2 * count) t) ≡ k ∷ m ∷ drop (2 * (at + 1)) (take (2 * count) t)
        there = rw (o.kind_is, o.number_is) next_node

        -- the node may not stand there
        pub ends_at : false ≡ may limit s k m → Walks limit within t count (walked_number within NoProgram)
        unfolding scan
        ends_at e = found (rw (← e) at (reads top_wanted there))

        -- a turn of the loop
        pub walk_on : {after : List ℕ} {r : ℕ} {b : Bool} → true ≡ may limit s k m → PartsPut within d k (top + 1) pending after r → length after ≡ end → b ≡ flag k d m bound →
            Walking t count limit within end after r b (at + 1)
        unfolding scan
        walk_on e q n f =
            let ws = map kept (drop (top + 1) pending) in
            let b : Below (at + 1) ws = below_more at ws (rw top_wanted at v.depths).1 in
            let z : Below (at + 1) (wants within d k ++ ws) = below_wants (at + 1) within d k ws (omega (arith, depth_there g w)) b in
            record { full = n; most = omega arith; low = omega arith; high = omega arith; depths = rw q.pending z; rest = rw (q.pending, f) (rw (← e) at (reads top_wanted there)) }

-- too many nodes for the limit or for the table
pub too_many : (n : ℕ) (w : Bool) (t : List ℕ) (count : ℕ) → (count ≤ n → 2 * count ≤ length t → ⊥) → Walks n w t count (walked_number w NoProgram)
too_many n w t count f = nothing (λ p h. f h.small h.within)

-- the flag as the code keeps it
module _ (k d m : ℕ) (b c : Bool) where
  pub flag_unset : k ≡ 2 → leb d m ≡ true → c ≡ false → c ≡ flag k d m b
  unfolding flag
  flag_unset e f h = rw (e, f) h

  pub flag_bound : k ≡ 2 → leb d m ≡ false → c ≡ b → c ≡ flag k d m b
  unfolding flag
  flag_bound e f h = rw (e, f) h

  pub flag_other : (k ≡ 2 → ⊥) → c ≡ b → c ≡ flag k d m b
  unfolding flag
  flag_other e h = rw (ne_eqb k 2 e) h
