-- What is given to the calls at the boundaries: chains of fresh nodes, texts and tables that are none, programs of which a step is known. Long inputs are functions of
-- numbers, and laws about any number prove them.
use mathlib.Core.Path.{◌≡◌, refl, ap, ap₂, ◌∙◌}
use mathlib.Core.Logic.{inl, inr}
use mathlib.Core.List.{List, [], ◌∷◌, ◌++◌, append_assoc, append-nil, tail-eq_of_cons-eq}
use mathlib.Core.Option.{some, bind}
use Prim.Native.Nat.{ℕ, zero, suc, ◌+◌, ◌*◌, ◌≤◌, ◌<◌}
use native.Mathlib.Omega.{arith}
use lib.ListN.{length, length-append}
use Rattle.calculus.specs.declared.Refusal.{Refusal}
use Rattle.calculus.specs.declared.Reason.TheVariants.{Ended, Steps, Room}
use Rattle.calculus.specs.Tree.{term, program, app, guard, unif, code, at, Tree, empty, alt, bound, free, con, abs, fresh, two, preorder, nodes, threads, program_of}
use Rattle.calculus.specs.Good.{InRange, Closed}
use Rattle.calculus.specs.Put.{put_in, substitute}
use Rattle.calculus.specs.Value.{single, structure, value}
use Rattle.calculus.specs.Unify.{shape, carry, meet, solve, unify}
use Rattle.calculus.specs.Redex.{plug, own, redexes}
use Rattle.calculus.specs.declared.Rule.TheVariants.{Beta, Guard, Fail}
use Rattle.calculus.specs.declared.Counts.{Counts}
use Rattle.calculus.specs.Step.{rewriting, first, step_thread, Step, step}
use Rattle.calculus.specs.Run.{size}
use Rattle.calculus.specs.Tally.{no_counts, one_more, uncounted, counted_run}
use Rattle.calculus.specs.Sexp.{one, digits, decimal, Sexp, atom, list, nothing, more, bytes}
use Rattle.calculus.specs.Text.{Raw, free_leaf, raw_empty, raw_alt, raw_leaf, encode, raw, raw_text, text}
use Rattle.calculus.specs.Column.{column}
use Rattle.calculus.specs.Answers.{number, Values}
use Rattle.calculus.specs.Calls.{Refusals, Refuses}
use Rattle.calculus.specs.Known.{ascii}
use Rattle.calculus.proofs.Substitutes.{impossible}
use Rattle.calculus.proofs.Preorders.{nodes_positive}
use Rattle.calculus.proofs.Decimals.{PlainDecimal, decimal_plain, decimal_first}
use Rattle.calculus.proofs.Bytes.{first_byte, bytes_injective}
use Rattle.calculus.proofs.Tallies.{counted_ended, counted_full, counted_large}
use Rattle.calculus.proofs.Refusals.{Below}
use Rattle.promises.specs.Boundaries.{fresh_text, nested, fresh_numbers, falling, fresh_over, closure, put_into, twice, twice_and_one}
use Rattle.promises.proofs.Excluded.{closures, stopped, goes_on}

-- Chains of fresh nodes over a term.

fresh_bytes : (k : ℕ) (t : Tree term) → bytes (encode (raw (fresh_over k t))) ≡ fresh_text k (bytes (encode (raw t)))
unfolding fresh_over fresh_text digits decimal bytes encode raw
fresh_bytes zero t = refl
fresh_bytes (suc k) t = ap (λ (l : List ℕ). 40 ∷ 49 ∷ 58 ∷ 110 ∷ l ++ (41 ∷ [])) (append-nil (bytes (encode (raw (fresh_over k t)))) ∙ fresh_bytes k t)

pub nested_text : (k : ℕ) (t : Tree term) {b : List ℕ} → bytes (encode (raw t)) ≡ b → text (program_of (fresh_over k t ∷ [])) ≡ nested k b
unfolding program_of bytes encode raw raw_text text
nested_text k t e = ap (λ (l : List ℕ). 40 ∷ l ++ (41 ∷ [])) (append-nil (bytes (encode (raw (fresh_over k t)))) ∙ fresh_bytes k t ∙ ap (fresh_text k) e)

fresh_length : (k : ℕ) (b : List ℕ) → length (fresh_text k b) ≡ 5 * k + length b
unfolding fresh_text
fresh_length zero b = omega arith
fresh_length (suc k) b = simp length-append (omega (arith, fresh_length k b))

pub nested_length : (k : ℕ) (b : List ℕ) → length (nested k b) ≡ 5 * k + length b + 2
nested_length k b = simp length-append (omega (arith, fresh_length k b))

pub fresh_nodes : (k : ℕ) (t : Tree term) → nodes (fresh_over k t) ≡ k + nodes t
unfolding fresh_over nodes
fresh_nodes zero t = omega arith
fresh_nodes (suc k) t = omega (arith, fresh_nodes k t)

fresh_numbers_are : (k : ℕ) (t : Tree term) (l : List ℕ) → preorder (fresh_over k t) ++ l ≡ fresh_numbers k (preorder t ++ l)
unfolding fresh_over fresh_numbers preorder
fresh_numbers_are zero t l = refl
fresh_numbers_are (suc k) t l = rw (fresh_numbers_are k t l)

pub fresh_in : (n k : ℕ) (t : Tree term) → InRange n t → InRange n (fresh_over k t)
unfolding fresh_over
fresh_in n zero t h = h
fresh_in n (suc k) t h = fresh_in n k t h

pub fresh_out : (n k : ℕ) (t : Tree term) → InRange n (fresh_over k t) → InRange n t
unfolding fresh_over
fresh_out n zero t h = h
fresh_out n (suc k) t h = fresh_out n k t h

pub fresh_closed : (d k c : ℕ) → Closed d (fresh_over k (con c))
unfolding fresh_over
fresh_closed d zero c = tt
fresh_closed d (suc k) c = fresh_closed (suc d) k c

pub fresh_closures : (k : ℕ) (t : Tree term) → closures (fresh_over k t) ≡ closures t
unfolding fresh_over closures
fresh_closures zero t = refl
fresh_closures (suc k) t = fresh_closures k t

-- a chain of k fresh nodes over the constructor 0, and its program of k + 3 nodes
unfoldable pub chain : ℕ → List (Tree term)
chain k = fresh_over k (con 0) ∷ []

pub chain_text : (k : ℕ) → text (program_of (chain k)) ≡ nested k (ascii "(1:c1:0)")
unfolding chain ascii digits decimal bytes encode raw
chain_text k = nested_text k (con 0) refl

pub chain_nodes : (k : ℕ) → nodes (program_of (chain k)) ≡ k + 3
unfolding chain nodes program_of
chain_nodes k = omega (arith, fresh_nodes k (con 0))

pub chain_closed : (k : ℕ) → Closed 0 (program_of (chain k))
unfolding chain program_of
chain_closed k = (fresh_closed 0 k 0, tt)

pub chain_table : (k : ℕ) (l : List ℕ) → preorder (program_of (chain k)) ++ l ≡ 1 ∷ 0 ∷ fresh_numbers k (4 ∷ 0 ∷ 0 ∷ 0 ∷ l)
unfolding chain preorder program_of
chain_table k l = rw (append_assoc, fresh_numbers_are k (con 0))

-- the entries of a chain: its nodes, counted down
fresh_column : (k : ℕ) (l : List ℕ) → column (fresh_over k (con 0)) ++ l ≡ falling (suc k) l
unfolding fresh_over falling column nodes
fresh_column zero l = refl
fresh_column (suc k) l = ap₂ (λ (m : ℕ) (r : List ℕ). suc m ∷ r) (fresh_nodes k (con 0) ∙ omega arith) (fresh_column k l)

pub chain_column : (k : ℕ) (l : List ℕ) → column (program_of (chain k)) ++ l ≡ (k + 3) ∷ falling (suc k) (1 ∷ l)
unfolding chain program_of nodes column
chain_column k l = ap₂ (λ (m : ℕ) (r : List ℕ). m ∷ r) (omega (arith, fresh_nodes k (con 0))) (append_assoc (column (fresh_over k (con 0))) (1 ∷ []) l ∙ fresh_column k (1 ∷ l))

-- Texts that are none.

-- digits before a colon do not begin with 0 and another digit
no_zero_first : (d : List ℕ) → PlainDecimal d → (r q : List ℕ) → d ++ (58 ∷ r) ≡ 48 ∷ 49 ∷ q → ⊥
no_zero_first [] p r q e = omega arith
no_zero_first (x ∷ []) p r q e = let z : ◌≡◌ {A = ℕ} 58 49 = cc in omega arith
no_zero_first (x ∷ y ∷ d) p r q e = let z : x ≡ 48 = cc in omega (arith, p.no_leading_zero z)

-- no atom, and no expression, begins so
no_such_atom : (s : Sexp one) (r q : List ℕ) → bytes s ++ r ≡ 48 ∷ 49 ∷ q → ⊥
unfolding bytes
no_such_atom (atom b) r q e = no_zero_first (decimal (length b)) (decimal_plain (length b)) (b ++ r) q (rw append_assoc at e)
no_such_atom (list m) r q e = let z : ◌≡◌ {A = ℕ} 40 48 = cc in omega arith

no_such_list : (s : Sexp one) (r q : List ℕ) → bytes s ++ r ≡ 40 ∷ 48 ∷ 49 ∷ q → ⊥
unfolding bytes
no_such_list (atom b) r q e = decimal_first (length b) 40 ((58 ∷ b) ++ r) (48 ∷ 49 ∷ q) (omega arith) (rw append_assoc at e)
no_such_list (list nothing) r q e = let z : ◌≡◌ {A = ℕ} 41 48 = cc in omega arith
no_such_list (list (more s m)) r q e = no_such_atom s (bytes m ++ (41 ∷ r)) q (simp append_assoc at (tail-eq_of_cons-eq e))

pub no_such_program : (s : Sexp one) (q : List ℕ) → bytes s ≡ 40 ∷ 40 ∷ 48 ∷ 49 ∷ q → ⊥
unfolding bytes
no_such_program (atom b) q e = decimal_first (length b) 40 (58 ∷ b) (40 ∷ 48 ∷ 49 ∷ q) (omega arith) e
no_such_program (list nothing) q e = let z : ◌≡◌ {A = ℕ} 41 40 = cc in omega arith
no_such_program (list (more s m)) q e = no_such_list s (bytes m ++ (41 ∷ [])) q (simp append_assoc at (tail-eq_of_cons-eq e))

-- no expression has no bytes
pub not_empty : (s : Sexp one) → bytes s ≡ [] → ⊥
not_empty s e = first_byte s 41 (41 ∷ []) [] (omega arith) (omega arith) (rw e)

-- a program's text is no atom's
pub atom_no_program : (b : List ℕ) (r : Raw program) → raw_text r ≡ bytes (atom b) → ⊥
unfolding raw_text
atom_no_program b r e = let z : list (encode r) ≡ atom b = bytes_injective (list (encode r)) (atom b) e in impossible (cc)

-- `2:01` is the N of no variable
no_variable : (t : Tree term) → raw t ≡ raw_leaf free_leaf (48 ∷ 49 ∷ []) → ⊥
unfolding raw
no_variable (free x) e = let d : decimal x ≡ 48 ∷ 49 ∷ [] = cc in let p = rw d at (decimal_plain x) in omega (arith, p.no_leading_zero refl)
no_variable (bound i) e = impossible (cc)
no_variable (con c) e = impossible (cc)
no_variable (abs code q) e = impossible (cc)
no_variable (abs (at l) q) e = impossible (cc)
no_variable (fresh t) e = impossible (cc)
no_variable (two k t u) e = impossible (cc)

pub no_variable_program : (p : Tree program) → raw p ≡ raw_alt (raw_leaf free_leaf (48 ∷ 49 ∷ [])) raw_empty → ⊥
unfolding raw
no_variable_program empty e = impossible (cc)
no_variable_program (alt t p) e = no_variable t (cc)

-- the first number of a term is a kind from 2 to 10
term_kind : (t : Tree term) (k : ℕ) (r q : List ℕ) → preorder t ++ r ≡ k ∷ q → (2 ≤ k) × (k ≤ 10)
unfolding preorder
term_kind (bound i) k r q e = let z : 2 ≡ k = cc in omega arith
term_kind (free x) k r q e = let z : 3 ≡ k = cc in omega arith
term_kind (con c) k r q e = let z : 4 ≡ k = cc in omega arith
term_kind (abs code p) k r q e = let z : 5 ≡ k = cc in omega arith
term_kind (abs (at l) p) k r q e = let z : 6 ≡ k = cc in omega arith
term_kind (fresh t) k r q e = let z : 8 ≡ k = cc in omega arith
term_kind (two app s t) k r q e = let z : 7 ≡ k = cc in omega arith
term_kind (two guard s t) k r q e = let z : 9 ≡ k = cc in omega arith
term_kind (two unif s t) k r q e = let z : 10 ≡ k = cc in omega arith

-- that of a program is 0 or 1
pub first_kind : (p : Tree program) (k m : ℕ) (q : List ℕ) → preorder p ≡ k ∷ m ∷ q → (k ≤ 1) × (m ≡ 0)
unfolding preorder
first_kind empty k m q e = let z : 0 ≡ k = cc in let y : 0 ≡ m = cc in omega arith
first_kind (alt t p) k m q e = let z : 1 ≡ k = cc in let y : 0 ≡ m = cc in omega arith

-- behind the first node of an alternative a term stands
pub behind_alternative : (p : Tree program) (k : ℕ) (q : List ℕ) → preorder p ≡ 1 ∷ 0 ∷ k ∷ q → (2 ≤ k) × (k ≤ 10)
unfolding preorder
behind_alternative empty k q e = impossible (cc)
behind_alternative (alt t p) k q e = term_kind t k (preorder p) q (cc)

-- where the first node is the empty one, it is the only one
pub one_empty : (p : Tree program) (q : List ℕ) → preorder p ≡ 0 ∷ q → nodes p ≡ 1
unfolding preorder nodes
one_empty empty q e = refl
one_empty (alt t p) q e = impossible (cc)

-- no program has two nodes
pub not_two : (p : Tree program) → nodes p ≡ 2 → ⊥
unfolding nodes
not_two empty e = omega arith
not_two (alt t p) e = omega (arith, nodes_positive t, nodes_positive p)

-- the numbers of a list that are below k
pub refused_below : (cs : Refusals) (k : ℕ) (r : Refusal) → Below k cs → Refuses cs r → number r < k
refused_below [] k r b g = absurd g
refused_below (c ∷ cs) k r b (inl g) = omega (arith, b.0, ap number g.1)
refused_below (c ∷ cs) k r b (inr g) = refused_below cs k r b.1 g.1

-- `(c1 (g c1 c2))`
unfoldable pub behind_one : List (Tree term)
behind_one = con 1 ∷ two guard (con 1) (con 2) ∷ []

unfoldable pub guarded : List (Tree term)
guarded = two guard (con 1) (con 2) ∷ []

pub guarded_step : step guarded ≡ some (record { rule = Guard; thread = 0; result = con 2 ∷ [] })
unfolding guarded substitute single structure value plug own redexes rewriting first step_thread step
guarded_step = refl

-- A value of k + 4 nodes put in for the indices of a term.
module _ (t : Tree term) (k : ℕ) where
  pub put_step : step (put_into t k) ≡ some (record { rule = Beta; thread = 0; result = put_in t 0 (closure k) ∷ [] })
  unfolding substitute threads put_in single structure value plug own redexes rewriting first step_thread step
  put_step = refl

-- the two terms, and their results
abbrev pub pair : Tree term
pair = two app (bound 0) (fresh (bound 1))

abbrev pub pair_and_one : Tree term
pair_and_one = two app (fresh (bound 1)) (fresh (bound 1))

abbrev pub result_of : Tree term → ℕ → List (Tree term)
result_of t k = put_in t 0 (closure k) ∷ []

pub twice_nodes : (k : ℕ) → size (twice k) ≡ k + 14
unfolding nodes program_of
twice_nodes k = omega (arith, fresh_nodes k (con 0))

pub twice_and_one_nodes : (k : ℕ) → size (twice_and_one k) ≡ k + 15
unfolding nodes program_of
twice_and_one_nodes k = omega (arith, fresh_nodes k (con 0))

pub twice_result : (k : ℕ) → size (result_of pair k) ≡ 2 * k + 12
unfolding nodes program_of put_in
twice_result k = omega (arith, fresh_nodes k (con 0))

pub twice_and_one_result : (k : ℕ) → size (result_of pair_and_one k) ≡ 2 * k + 13
unfolding nodes program_of put_in
twice_and_one_result k = omega (arith, fresh_nodes k (con 0))

-- `(c1 (u c1 c2) (n b0) (l ()))`, and after its step
unfoldable pub four : List (Tree term)
four = con 1 ∷ two unif (con 1) (con 2) ∷ fresh (bound 0) ∷ abs code empty ∷ []

unfoldable pub three : List (Tree term)
three = con 1 ∷ fresh (bound 0) ∷ abs code empty ∷ []

pub four_step : step four ≡ some (record { rule = Fail; thread = 1; result = three })
unfolding four three substitute single structure value shape carry meet solve unify plug own redexes rewriting first step_thread step bind
four_step = refl

-- the refusal that an answer tells
pub refusal_of : {v w : Values} → v ≡ w → v.refusal ≡ w.refusal
refusal_of e = ap (λ (x : Values). x.refusal) e

-- what a step by beta in the first thread tells
unfoldable pub beta_told : ℕ → Values
beta_told k = record { refusal = 0; values = k ∷ 2 ∷ 0 ∷ [] }

-- The run.

-- one step counted, by guard and by beta
abbrev guard_counted : Counts
guard_counted = one_more no_counts Guard

abbrev beta_counted : Counts
beta_counted = one_more no_counts Beta

pub guarded_run : (room k : ℕ) → 3 ≤ room → counted_run room (suc k) (uncounted guarded) ≡ stopped Ended 1 (con 2 ∷ []) guard_counted
unfolding guarded nodes program_of substitute own redexes first step_thread step
guarded_run room k l = goes_on room k (uncounted guarded) guarded_step (omega arith) (counted_ended (record { state = con 2 ∷ []; counts = guard_counted }) room k refl)

pub guarded_stays : (room : ℕ) → counted_run room 0 (uncounted guarded) ≡ stopped Steps 0 guarded no_counts
guarded_stays room = counted_full (uncounted guarded) guarded_step room

pub con_ends : (room : ℕ) → counted_run room 0 (uncounted (con 1 ∷ [])) ≡ stopped Ended 0 (con 1 ∷ []) no_counts
unfolding own redexes first step_thread step
con_ends room = counted_ended (uncounted (con 1 ∷ [])) room 0 refl

-- no step is asked for
pub put_stays : (t : Tree term) (k room : ℕ) → counted_run room 0 (uncounted (put_into t k)) ≡ stopped Steps 0 (put_into t k) no_counts
put_stays t k room = counted_full (uncounted (put_into t k)) (put_step t k) room

-- the result does not fit the room
pub put_stops : (t : Tree term) (k room : ℕ) → room < size (result_of t k) → counted_run room 1 (uncounted (put_into t k)) ≡ stopped Room 0 (put_into t k) no_counts
put_stops t k room l = counted_large (uncounted (put_into t k)) (put_step t k) room 0 l

-- what is left of it has a step
pair_step : (k : ℕ) → (s : Step) × (step (result_of pair k) ≡ some s)
unfolding substitute put_in single structure value plug own redexes rewriting first step_thread step
pair_step k = (_, refl)

-- it fits, and the one step is used
pub twice_goes : (k room : ℕ) → 2 * k + 12 ≤ room → counted_run room 1 (uncounted (twice k)) ≡ stopped Steps 1 (result_of pair k) beta_counted
twice_goes k room l = goes_on room 0 (uncounted (twice k)) (put_step pair k) (omega (arith, twice_result k)) (counted_full (record { state = result_of pair k; counts = beta_counted }) (pair_step k).1 room)

-- what a run tells of these
unfoldable pub told : ℕ → ℕ → ℕ → List ℕ → Values
told r m k c = record { refusal = 0; values = r ∷ m ∷ k ∷ c }
