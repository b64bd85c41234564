-- What is written: stores one behind the other, a number, a term by its parts, a program by its members.
use mathlib.Core.Path.{◌≡◌, refl, sym, ap, ◌∙◌}
use mathlib.Core.Bool.{Bool, true, false}
use mathlib.Core.List.{List, [], ◌∷◌, ◌++◌, append_assoc, append-nil}
use Prim.Native.Nat.{ℕ, zero, suc, ◌+◌, ◌-◌, ◌/◌, ◌%◌, ◌≤◌, ◌<◌}
use native.Mathlib.Omega.{arith}
use lib.ListN.{length, get_or, set, take, drop, length-append, length-set}
use lib.Seq.{sets, set_comm, sets-eq, length-sets, drop-drop}
use borrow.Rule.Slice.Mut.{set_vals}
use borrow.Rule.Slice.PartMut.{put_mid}
use Rattle.calculus.specs.Tree.{term, program, Pair, app, guard, unif, code, at, Tree, empty, alt, bound, free, con, abs, fresh, two, pair_kind, nodes}
use Rattle.calculus.specs.Sexp.{decimal}
use Rattle.calculus.specs.Text.{text, raw_text}
use Rattle.calculus.proofs.Decimals.{by_tenths, decimal_small, decimal_large, decimal_length}
use Rattle.calculus.proofs.Preorders.{nodes_positive}
use Rattle.table.specs.Nodes.{NodeIs, Stands}
use Rattle.table.proofs.Trees.{kind_of, number_of, Seen, see}
use Rattle.writing.specs.Writer.{DigitCount, tag_bytes, numeral, numeral_if, has_number, tags, head_bytes, spelt, Fits, Wrote}
use Rattle.writing.specs.declared.write.Output.{Output}
use Rattle.table.proofs.Sets.{sets_append as one_after}

-- Stores.

-- one list behind the other
pub sets_append : (l : List ℕ) (i : ℕ) (a b : List ℕ) → sets l i (a ++ b) ≡ sets (sets l i a) (i + length a) b
sets_append l i a b = sym (one_after l i (i + length a) a b refl)

-- the last one may as well be stored first
sets_last : (l : List ℕ) (i : ℕ) (a : List ℕ) (x : ℕ) → sets l i (a ++ (x ∷ [])) ≡ sets (set l (i + length a) x) i a
sets_last l i [] x = ap (λ (j : ℕ). set l j x) (omega arith)
sets_last l i (y ∷ a) x =
    let e : suc i + length a ≡ i + suc (length a) = omega arith in
    sets_last (set l i y) (suc i) a x ∙ rw (e, set_comm l i (i + suc (length a)) y x (omega arith))

-- nothing is written
pub wrote_none : (out : Output) → Wrote out out []
wrote_none out = record { same = refl; is = refl; same_length = refl; next_is = omega arith }

-- more is written behind it
pub wrote_more : {out mid after : Output} {a b : List ℕ} → Wrote out mid a → Wrote mid after b → Wrote out after (a ++ b)
wrote_more {out} {a} {b} h g = record {
  same = g.same ∙ h.same;
  is = cc (sets_append out.bytes.now out.at a b, h.is, h.next_is, g.is);
  same_length = omega arith;
  next_is = omega (arith, length-append a b);
}

-- bytes that are copied over a part of the output are written there
pub copied : (out : Output) {now b : List ℕ} → Fits out b → now ≡ b → Wrote out (record { bytes = set_vals (put_mid out.at (out.at + length b - out.at) out.bytes.now now) out.bytes; at = out.at + length b }) b
copied out {now} {b} h e =
    let o = out.bytes.now in
    let long : out.at + length b - out.at ≡ length b = omega arith in
    let is : put_mid out.at (out.at + length b - out.at) o now ≡ sets o out.at b = rw (e, long, drop-drop, sets-eq b o out.at h.fits) (sym (append_assoc (take out.at o) b (drop (out.at + length b) o))) in
    record { same = refl; is = is; same_length = ap length is ∙ length-sets o out.at b; next_is = refl }

-- A number.

-- the last k digits
unfoldable pub last_digits : ℕ → ℕ → List ℕ
last_digits zero n = []
last_digits (suc k) n = last_digits k (n / 10) ++ ((48 + n % 10) ∷ [])

last_length : (k n : ℕ) → length (last_digits k n) ≡ k
unfolding last_digits
last_length zero n = refl
last_length (suc k) n = simp length-append (omega (arith, last_length k (n / 10)))

-- all of them are the decimal
all_digits : (n : ℕ) → last_digits (length (decimal n)) n ≡ decimal n
unfolding last_digits
all_digits = by_tenths (λ n. last_digits (length (decimal n)) n ≡ decimal n) small large
  where
    small : (n : ℕ) → n < 10 → last_digits (length (decimal n)) n ≡ decimal n
    small n h = let e : n % 10 ≡ n = omega arith in rw (decimal_small, e)

    large : (n : ℕ) → 10 ≤ n → last_digits (length (decimal (n / 10))) (n / 10) ≡ decimal (n / 10) → last_digits (length (decimal n)) n ≡ decimal n
    large n h a = let e : length (decimal (n / 10) ++ ((48 + n % 10) ∷ [])) ≡ suc (length (decimal (n / 10))) = simp length-append (omega arith) in rw (decimal_large, e, a)

-- a number below 65536 as an N
pub numeral_is : (n : ℕ) → n < 65536 → numeral n ≡ (48 + length (decimal n)) ∷ 58 ∷ decimal n
unfolding numeral
numeral_is n h = rw (decimal_small (length (decimal n)) (omega (arith, decimal_length 5 n (omega arith) (omega arith))))

-- While the digits are written from the last to the first: what the remaining ones make of the output is the whole decimal.
pub record DigitsLeft (start out : Output) (n d left i : ℕ) : Type 0 where
  pub same : out.bytes.ghost_name ≡ start.bytes.ghost_name
  pub low : start.at ≤ i
  pub high : i ≤ start.at + d
  pub rest : sets out.bytes.now start.at (last_digits (i - start.at) left) ≡ sets start.bytes.now start.at (decimal n)
  pub same_length : length out.bytes.now ≡ length start.bytes.now
  pub fits : start.at + d ≤ length start.bytes.now

module _ {out : Output} {n d : ℕ} (small : n < 65536) (count : DigitCount n d) (room : Fits out (numeral n)) where
  all_fits : out.at + (2 + d) ≤ length out.bytes.now
  all_fits = omega (arith, ap length (numeral_is n small))

  -- there is room for the digit that says its length
  pub length_room : (x : ℕ) → Fits out (x ∷ [])
  length_room x = record { fits = omega (arith, all_fits) }

  module _ {first : Output} {x : ℕ} (f : Wrote out first (x ∷ [])) where
    -- and for the colon
    pub colon_room : Fits first (58 ∷ [])
    colon_room = record { fits = omega (arith, all_fits) }

    module _ {start : Output} (g : Wrote first start (58 ∷ [])) where
      -- before the last digit all are left
      pub digits_start : DigitsLeft start start n d n (start.at + d)
      digits_start =
          let e : start.at + d - start.at ≡ length (decimal n) = omega arith in
          record {
            same = refl;
            low = omega arith;
            high = omega arith;
            rest = rw (e, all_digits n);
            same_length = refl;
            fits = omega (arith, all_fits);
          }

-- one digit written, one fewer left
pub digits_next : {start out : Output} {n d left i : ℕ} → DigitsLeft start out n d left i → start.at < i → DigitsLeft start (record { bytes = set_vals (set out.bytes.now (i - 1) (48 + left % 10)) out.bytes; at = out.at }) n d (left / 10) (i - 1)
unfolding last_digits
digits_next {start} {out} {left} {i} h g =
    let o = out.bytes.now in
    let k : ℕ = i - 1 - start.at in
    let more : i - start.at ≡ suc k = omega arith in
    let there : start.at + length (last_digits k (left / 10)) ≡ i - 1 = omega (arith, last_length k (left / 10)) in
    record {
      same = h.same;
      low = omega arith;
      high = omega arith;
      rest = sym (rw there at (sets_last o start.at (last_digits k (left / 10)) (48 + left % 10))) ∙ (rw more at h.rest);
      same_length = length-set o (i - 1) (48 + left % 10) ∙ h.same_length;
      fits = h.fits;
    }

-- its length, the colon and all digits are the number
pub number_wrote : {out first start last : Output} {n d left i : ℕ} → n < 65536 → DigitCount n d → Wrote out first ((48 + d) ∷ []) → Wrote first start (58 ∷ []) → DigitsLeft start last n d left i → i ≤ start.at → Wrote out (record { bytes = last.bytes; at = start.at + d }) (numeral n)
unfolding last_digits
number_wrote {start} {n} {d} {i} small count f g h z =
    let none : i - start.at ≡ 0 = omega arith in
    rw (numeral_is n small, ← count.is) (wrote_more f (wrote_more g (record { same = h.same; is = rw none at h.rest; same_length = h.same_length; next_is = omega arith })))

-- A term's head.

-- a head begins with a tag
pub tag_room : (k n tag : ℕ) {out : Output} → Fits out (head_bytes k n) → Fits out (tag_bytes tag)
unfolding head_bytes
tag_room k n tag h = record { fits = omega arith }

module _ (k n : ℕ) {r : Bool} (e : r ≡ get_or has_number k false) where
  head_is : head_bytes k n ≡ tag_bytes (get_or tags k 0) ++ numeral_if r n
  unfolding head_bytes
  head_is = rw e

  -- behind the tag there is room for the number, where the kind has one
  pub number_room : {out mid : Output} {tag : ℕ} → Wrote out mid (tag_bytes tag) → r ≡ true → Fits out (head_bytes k n) → Fits mid (numeral n)
  number_room w t h = record { fits = omega (arith, rw t at (ap length head_is)) }

  module _ {out mid : Output} {tag : ℕ} (g : tag ≡ get_or tags k 0) (w : Wrote out mid (tag_bytes tag)) where
    -- tag and number are the head of a kind with a number
    pub numbered_head : {after : Output} → r ≡ true → Wrote mid after (numeral n) → Wrote out after (head_bytes k n)
    numbered_head t v = rw (head_is, t, ← g) (wrote_more w v)

    -- the tag is the head of a kind without one
    pub plain_head : r ≡ false → Wrote out mid (head_bytes k n)
    plain_head t = rw (head_is, t, ← g) w

-- A term by its parts.

-- the bytes of a program in its brackets
abbrev pub bracketed : Tree program → List ℕ
bracketed p = 40 ∷ (spelt p ++ (41 ∷ []))

-- the bytes of a term's parts
unfoldable pub inner : Tree term → List ℕ
inner (bound i) = []
inner (free x) = []
inner (con c) = []
inner (abs h p) = bracketed p
inner (fresh x) = spelt x
inner (two o x y) = spelt x ++ spelt y

regroup : (a b : List ℕ) → (a ++ (b ++ [])) ++ (41 ∷ []) ≡ a ++ (b ++ (41 ∷ []))
regroup a b = simp (append_assoc, append-nil)

-- head, parts, closing bracket
pub term_is : (x : Tree term) → spelt x ≡ head_bytes (kind_of x) (number_of x) ++ (inner x ++ (41 ∷ []))
unfolding spelt inner numeral head_bytes
term_is (bound i) = simp append_assoc
term_is (free x) = simp append_assoc
term_is (con c) = simp append_assoc
term_is (abs code p) = simp append_assoc
term_is (abs (at l) p) = ap (λ (r : List ℕ). 40 ∷ 49 ∷ 58 ∷ 76 ∷ r) (regroup (numeral l) (bracketed p))
term_is (fresh x) = simp append_assoc
term_is (two app x y) = simp append_assoc
term_is (two guard x y) = simp append_assoc
term_is (two unif x y) = simp append_assoc

-- and so their lengths
pub term_length : (x : Tree term) → length (spelt x) ≡ length (head_bytes (kind_of x) (number_of x)) + length (inner x) + 1
term_length x = ap length (term_is x) ∙ simp length-append (omega arith)

kind_small : (x : Tree term) → kind_of x < 11
kind_small (bound i) = omega arith
kind_small (free x) = omega arith
kind_small (con c) = omega arith
kind_small (abs code p) = omega arith
kind_small (abs (at l) p) = omega arith
kind_small (fresh x) = omega arith
kind_small (two app x y) = omega arith
kind_small (two guard x y) = omega arith
kind_small (two unif x y) = omega arith

kind_large : (x : Tree term) → 2 ≤ kind_of x
kind_large (bound i) = omega arith
kind_large (free x) = omega arith
kind_large (con c) = omega arith
kind_large (abs code p) = omega arith
kind_large (abs (at l) p) = omega arith
kind_large (fresh x) = omega arith
kind_large (two app x y) = omega arith
kind_large (two guard x y) = omega arith
kind_large (two unif x y) = omega arith

-- the term at a node of the kind k with the number m
pub record TermNode (k m : ℕ) (x : Tree term) : Type 0 where
  pub large : 2 ≤ k
  pub small : k < 11
  pub is : spelt x ≡ head_bytes k m ++ (inner x ++ (41 ∷ []))
  pub lengths : length (spelt x) ≡ length (head_bytes k m) + length (inner x) + 1

-- what a node says of the term that stands there
pub term_node : {t : List ℕ} {i k m : ℕ} → NodeIs t i k m → (x : Tree term) → Stands t i x → TermNode k m x
term_node n x h =
    let s = see x h in
    let e = n.kind_is ∙ s.kind_is in
    let f = n.number_is ∙ s.number_is in
    record { large = rw e (kind_large x); small = rw e (kind_small x); is = rw (e, f) (term_is x); lengths = rw (e, f) (term_length x) }

-- The parts of a term by its kind k: none, a program, a term, two terms.

pub record BodyPart (t : List ℕ) (i : ℕ) (x : Tree term) : Type 0 where
  pub part : Tree program
  pub stands : Stands t (i + 1) part
  pub size : nodes x ≡ 1 + nodes part
  pub bytes_are : inner x ≡ bracketed part

pub record OnePart (t : List ℕ) (i : ℕ) (x : Tree term) : Type 0 where
  pub part : Tree term
  pub stands : Stands t (i + 1) part
  pub size : nodes x ≡ 1 + nodes part
  pub bytes_are : inner x ≡ spelt part

pub record TwoParts (t : List ℕ) (i : ℕ) (x : Tree term) : Type 0 where
  pub first : Tree term
  pub second : Tree term
  pub stands : Stands t (i + 1) first
  pub next : Stands t (i + 1 + nodes first) second
  pub size : nodes x ≡ 1 + nodes first + nodes second
  pub bytes_are : inner x ≡ spelt first ++ spelt second

pub record Parts (t : List ℕ) (i : ℕ) (x : Tree term) (k : ℕ) : Type 0 where
  pub none : k < 5 → (nodes x ≡ 1) × (inner x ≡ [])
  pub some : 5 ≤ k → 1 < nodes x
  pub body : 5 ≤ k → k < 7 → BodyPart t i x
  pub single : k ≡ 8 → OnePart t i x
  pub double : 7 ≤ k → (k ≡ 8 → ⊥) → TwoParts t i x

module _ {t : List ℕ} {i k : ℕ} {x : Tree term} where
  is_leaf : k < 5 → nodes x ≡ 1 → inner x ≡ [] → Parts t i x k
  is_leaf l e f = record { none = λ _. (e, f); some = λ a. absurd (omega arith); body = λ a b. absurd (omega arith); single = λ a. absurd (omega arith); double = λ a b. absurd (omega arith) }

  is_body : 5 ≤ k → k < 7 → BodyPart t i x → Parts t i x k
  is_body l u p = record { none = λ a. absurd (omega arith); some = λ _. omega (arith, p.size, nodes_positive p.part); body = λ _ _. p; single = λ a. absurd (omega arith); double = λ a b. absurd (omega arith) }

  is_single : k ≡ 8 → OnePart t i x → Parts t i x k
  is_single e p = record { none = λ a. absurd (omega arith); some = λ _. omega (arith, p.size, nodes_positive p.part); body = λ a b. absurd (omega arith); single = λ _. p; double = λ _ f. absurd (f e) }

  is_double : (7 ≤ k) × (k ≡ 8 → ⊥) → TwoParts t i x → Parts t i x k
  is_double f p = record { none = λ a. absurd (omega arith); some = λ _. omega (arith, p.size, nodes_positive p.first); body = λ a b. absurd (omega arith); single = λ e. absurd (f.1 e); double = λ _ _. p }

pair_kind_lem : (o : Pair) → (7 ≤ pair_kind o) × (pair_kind o ≡ 8 → ⊥)
pair_kind_lem app = omega arith
pair_kind_lem guard = omega arith
pair_kind_lem unif = omega arith

parts : {t : List ℕ} {i : ℕ} (x : Tree term) → Seen t i x → Parts t i x (kind_of x)
unfolding inner nodes
parts (bound j) h = is_leaf (omega arith) refl refl
parts (free y) h = is_leaf (omega arith) refl refl
parts (con c) h = is_leaf (omega arith) refl refl
parts (abs code p) h = is_body (omega arith) (omega arith) (record { part = p; stands = h.parts_stand; size = omega arith; bytes_are = refl })
parts (abs (at l) p) h = is_body (omega arith) (omega arith) (record { part = p; stands = h.parts_stand; size = omega arith; bytes_are = refl })
parts (fresh y) h = is_single refl (record { part = y; stands = h.parts_stand; size = omega arith; bytes_are = refl })
parts (two o y z) h = is_double (pair_kind_lem o) (record { first = y; second = z; stands = h.parts_stand.0; next = h.parts_stand.1; size = omega arith; bytes_are = refl })

-- the parts by the kind of the node
pub parts_at : {t : List ℕ} {i k m : ℕ} → NodeIs t i k m → (x : Tree term) → Stands t i x → Parts t i x k
parts_at n x h = let s = see x h in rw (n.kind_is ∙ s.kind_is) (parts x s)

-- A program by its members.

-- the members of a program, one by one
pub members_alt : (x : Tree term) (p : Tree program) → spelt (alt x p) ≡ spelt x ++ spelt p
unfolding spelt
members_alt x p = refl

-- the end of a program has none
pub members_empty : spelt empty ≡ []
unfolding spelt
members_empty = refl

-- a text is its program's members in brackets
pub text_is : (p : Tree program) → text p ≡ bracketed p
unfolding text raw_text spelt
text_is p = refl

-- and so its length
pub bracketed_length : (p : Tree program) → length (bracketed p) ≡ length (spelt p) + 2
bracketed_length p = simp length-append (omega arith)
