-- How long a text is: a number by its digits, a program by its nodes.
use mathlib.Core.Path.{◌≡◌, refl, sym, ap, ◌∙◌}
use mathlib.Core.Bool.{Bool, true, false}
use mathlib.Core.List.{List, [], ◌∷◌, ◌++◌, append_assoc}
use Prim.Native.Nat.{ℕ, zero, suc, ◌+◌, ◌*◌, ◌/◌, ◌^◌, ◌≤◌, ◌<◌}
use native.Mathlib.Nat.{pow-suc, one-le-pow}
use native.Mathlib.Omega.{arith}
use lib.ListN.{length, get_or, drop, length-append, get_or-eq_default}
use lib.Seq.{drop_at}
use Rattle.calculus.specs.Tree.{Sort, term, program, Pair, app, guard, unif, code, at, Tree, empty, alt, bound, free, con, abs, fresh, two, pair_kind, nodes, preorder}
use Rattle.calculus.specs.Sexp.{decimal}
use Rattle.calculus.proofs.Decimals.{decimal_small, decimal_large}
use Rattle.calculus.proofs.Preorders.{preorder_length}
use Rattle.table.specs.Nodes.{NodeIs}
use Rattle.table.specs.Kinds.{kind_code}
use Rattle.table.specs.declared.kinds.Kind.{Kind}
use Rattle.table.specs.declared.kinds.Kind.TheVariants.{Empty, Alternative}
use Rattle.table.proofs.Scans.{term_kinds}
use Rattle.table.proofs.Trees.{here_node, one_tree, ends_in}
use Rattle.writing.specs.Writing.{CountedProgram, TextLength}
use Rattle.writing.specs.Writer.{DigitCount, has_number, head_bytes, node_bytes, NodeBytes, spelt}
use Rattle.writing.proofs.Written.{numeral_is, inner, bracketed, term_length, members_alt, members_empty, bracketed_length, text_is}

-- A number.

digit_count : (k n : ℕ) → 10 ^ k ≤ n → n < 10 ^ suc k → length (decimal n) ≡ suc k
digit_count zero n l u = rw (decimal_small n (omega arith))
digit_count (suc k) n l u =
    let p = pow-suc 10 k in
    let q = pow-suc 10 (suc k) in
    let r = one-le-pow k 10 (omega arith) in
    rw (decimal_large n (omega arith)) (simp length-append (omega (arith, digit_count k (n / 10) (omega arith) (omega arith))))

-- a number below ten has one digit
pub count_one : (n : ℕ) → n < 10 → DigitCount n 1
count_one n h = record { is = rw (decimal_small n h); few = omega arith }

-- a number from 10 ^ k to 10 ^ (k + 1) has k + 1 digits
pub count_more : (k n : ℕ) → k < 5 → 10 ^ k ≤ n → n < 10 ^ suc k → DigitCount n (suc k)
count_more k n h l u = record { is = sym (digit_count k n l u); few = h }

-- A node.

other_kind : (k d : ℕ) → (k ≡ 0 → ⊥) → (k ≡ 1 → ⊥) → get_or (2 ∷ 0 ∷ []) k d ≡ d
other_kind zero d f g = absurd (f refl)
other_kind (suc zero) d f g = absurd (g refl)
other_kind (suc (suc k)) d f g = refl

module _ (k : Kind) {j : ℕ} (n : ℕ) {r : Bool} (i : kind_code k ≡ j) (f : k ≡ Empty → ⊥) (g : k ≡ Alternative → ⊥) (e : r ≡ get_or has_number (kind_code k) false) where
  -- but for the two of programs, a node's bytes are its head's and a closing bracket
  by_head : node_bytes (kind_code k) n ≡ length (head_bytes (kind_code k) n) + 1
  by_head = other_kind (kind_code k) (length (head_bytes (kind_code k) n) + 1) (λ z. omega (arith, term_kinds k f g)) (λ z. omega (arith, term_kinds k f g))

  -- a node without a number is five bytes
  pub plain_bytes : r ≡ false → NodeBytes j n 5
  unfolding head_bytes
  plain_bytes t = rw (← i) (record { is = sym (by_head ∙ rw (← e, t)); few = omega arith })

  -- one with a number is seven and its digits
  pub numbered_bytes : {d : ℕ} → r ≡ true → n < 65536 → DigitCount n d → NodeBytes j n (7 + d)
  unfolding head_bytes
  numbered_bytes t h c = rw (← i) (record {
    is = sym (by_head ∙ rw (← e, t, numeral_is n h) (omega arith));
    few = omega arith;
  })

-- a number that no kind has counts as one without a number
pub strange_bytes : (j n : ℕ) → 10 < j → NodeBytes j n 5
unfolding head_bytes
strange_bytes j n h = record { is = sym (other_kind j (length (head_bytes j n) + 1) (λ z. omega arith) (λ z. omega arith) ∙ rw (get_or-eq_default has_number false {n = j} (omega arith))); few = omega arith }

-- A tree.

-- the bytes of a list of nodes
unfoldable pub counted : List ℕ → ℕ
counted [] = 0
counted (k ∷ []) = 0
counted (k ∷ m ∷ l) = node_bytes k m + counted l

pair_bytes : (o : Pair) → node_bytes (pair_kind o) 0 ≡ length (head_bytes (pair_kind o) 0) + 1
pair_bytes app = refl
pair_bytes guard = refl
pair_bytes unif = refl

-- the bytes of a term, and of a program in its brackets
abbrev whole : {s : Sort} → Tree s → List ℕ
whole {s = term} x = spelt x
whole {s = program} p = bracketed p

counted_tree : {s : Sort} (x : Tree s) (r : List ℕ) → counted (preorder x ++ r) ≡ length (whole x) + counted r
unfolding counted preorder inner
counted_tree empty r = omega (arith, bracketed_length empty, ap length members_empty)
counted_tree (alt x p) r =
    omega (arith, ap counted (append_assoc (preorder x) (preorder p) r), counted_tree x (preorder p ++ r), counted_tree p r, bracketed_length (alt x p), bracketed_length p, ap length (members_alt x p), length-append (spelt x) (spelt p))
counted_tree (bound i) r = omega (arith, term_length (bound i))
counted_tree (free x) r = omega (arith, term_length (free x))
counted_tree (con c) r = omega (arith, term_length (con c))
counted_tree (abs code p) r = omega (arith, term_length (abs code p), counted_tree p r)
counted_tree (abs (at l) p) r = omega (arith, term_length (abs (at l) p), counted_tree p r)
counted_tree (fresh x) r = omega (arith, term_length (fresh x), counted_tree x r)
counted_tree (two o x y) r = omega (arith, pair_bytes o, ap counted (append_assoc (preorder x) (preorder y) r), counted_tree x (preorder y ++ r), counted_tree y r, term_length (two o x y), length-append (spelt x) (spelt y))

-- While the nodes are counted: what is counted and what is left make the bytes of the whole table.
pub record Counting (t : List ℕ) (count total i : ℕ) : Type 0 where
  pub rest : total + counted (drop (2 * i) t) ≡ counted t
  pub few : total ≤ 12 * i
  pub inside : i ≤ count
  pub fits : 2 * count ≤ length t

-- at first nothing is counted
pub counting_start : {t : List ℕ} {count : ℕ} → CountedProgram t count → Counting t count 0 0
counting_start h = record { rest = omega arith; few = omega arith; inside = omega arith; fits = omega (arith, ends_in h.stands) }

-- a node more is counted
pub counting_next : {t : List ℕ} {count total i k m r : ℕ} → Counting t count total i → i < count → NodeIs t i k m → NodeBytes k m r → Counting t count (total + r) (i + 1)
unfolding counted
counting_next {t} {i} {k} {m} h f n b =
    let e : counted (drop (2 * i) t) ≡ node_bytes k m + counted (drop (2 * (i + 1)) t) = rw (n.kind_is, n.number_is) (ap counted (here_node t i (omega arith))) in
    record { rest = omega arith; few = omega arith; inside = omega arith; fits = h.fits }

-- with all nodes the text is counted
pub counting_end : {t : List ℕ} {count total i : ℕ} → CountedProgram t count → Counting t count total i → count ≤ i → TextLength t total
counting_end {t} {i} c h f = record {
  is = λ p g.
      let e : 2 * i ≡ 2 * nodes p = omega (arith, ap nodes (one_tree p c.program_there g c.stands)) in
      let d : drop (2 * i) t ≡ g.rest = rw (e, g.here) (drop_at (preorder p) g.rest (2 * nodes p) (preorder_length p)) in
      omega (arith, ap counted d, ap counted g.here, counted_tree p g.rest, ap length (text_is p));
}
