-- What a cursor takes: the bytes at a place as a decimal and what follows it, and the answer that they give.
use mathlib.Core.Path.{◌≡◌, refl, sym, ap, ◌∙◌}
use mathlib.Core.Logic.{◌⊎◌, inl, inr, ⊎_elim}
use mathlib.Core.List.{List, [], ◌∷◌, ◌++◌, append_assoc, append-nil}
use Prim.Native.Nat.{ℕ, suc, ◌+◌, ◌-◌, ◌*◌, ◌<◌, ◌≤◌}
use native.Mathlib.Numerals.{add-one}
use native.Mathlib.Omega.{arith}
use lib.ListN.{length, take, drop, get_or, replicate, length-append, length-drop, length-replicate, take-append-drop, drop_of_length-le}
use lib.Seq.{drop-cons, length-take-le, take_at, append_snoc, drop-drop}
use Rattle.std.specs.Prelude.{Ok, Err}
use Rattle.calculus.specs.Sexp.{decimal, atom, bytes}
use Rattle.calculus.proofs.Decimals.{Digits, PlainDecimal, decimal_plain, decimal_small, decimal_colon, decimal_first, decimal_more}
use Rattle.csexp.specs.Items.{ItemBytes, opening, closing, of_atom, Begins, item_bytes, Placed, Takes, took, cut, bad}
use Rattle.csexp.specs.Lengths.{LengthKept, exact, beyond}
use Rattle.csexp.specs.declared.Item.{Item}
use Rattle.csexp.specs.declared.Item.TheVariants.{Atom}
use Rattle.csexp.specs.declared.Torn.TheVariants.{Cut, Bad}

-- a decimal, a colon and enough bytes begin an atom
atom_here : (m : ℕ) (q : List ℕ) → m ≤ length q → Begins (decimal m ++ (58 ∷ q))
unfolding bytes
atom_here m q h = record { item = bytes (atom (take m q)); rest = drop m q; is_item = of_atom (take m q); here = rw (append_assoc, length-take-le m q h, take-append-drop) }

-- at a decimal only an atom begins: its length, a colon and as many bytes
record AtomThere (m : ℕ) (r : List ℕ) : Type 0 where
  n : ℕ
  q : List ℕ
  enough : n ≤ length q
  same : decimal m ++ r ≡ decimal n ++ (58 ∷ q)

atom_there : (m : ℕ) (r : List ℕ) → Begins (decimal m ++ r) → AtomThere m r
unfolding bytes
atom_there m r b = go b.item b.is_item b.here
  where
    go : (i : List ℕ) → ItemBytes i → decimal m ++ r ≡ i ++ b.rest → AtomThere m r
    go _ opening e = absurd (decimal_first m 40 r b.rest (omega arith) e)
    go _ closing e = absurd (decimal_first m 41 r b.rest (omega arith) e)
    go _ (of_atom c) e = record { n = length c; q = c ++ b.rest; enough = simp length-append (omega arith); same = simp append_assoc at e }

-- the first byte that is no digit is where the digits end: at the colon
digits_end : (b c r q : List ℕ) (x : ℕ) → Digits b → Digits c → (48 ≤ x → x < 58 → ⊥) → b ++ (x ∷ r) ≡ c ++ (58 ∷ q) → x ≡ 58
digits_end [] [] r q x a k f e = cc
digits_end [] (z ∷ c) r q x a k f e = let h : x ≡ z = cc in absurd (f (omega arith) (omega arith))
digits_end (y ∷ b) [] r q x a k f e = let h : y ≡ 58 = cc in absurd (omega arith)
digits_end (y ∷ b) (z ∷ c) r q x a k f e = digits_end b c r q x a.2 k.2 f (cc)

-- a plain decimal that begins with 0 ends there
zero_ends : (c r q : List ℕ) (x : ℕ) → PlainDecimal c → 48 ∷ x ∷ r ≡ c ++ (58 ∷ q) → x ≡ 58
zero_ends [] r q x p e = absurd (omega arith)
zero_ends (d ∷ []) r q x p e = cc
zero_ends (d ∷ y ∷ c) r q x p e = absurd (omega (arith, p.no_leading_zero (cc)))

-- a byte that neither continues nor ends a length
record Breaks (m x : ℕ) : Type 0 where
  no_colon : x ≡ 58 → ⊥
  no_digit : (m ≡ 0) ⊎ (48 ≤ x → x < 58 → ⊥)

-- such a byte behind a decimal leaves no item there
no_atom : (m x : ℕ) (r : List ℕ) → Breaks m x → Begins (decimal m ++ (x ∷ r)) → ⊥
no_atom m x r b h = go b.no_digit (atom_there m (x ∷ r) h)
  where
    go : (m ≡ 0) ⊎ (48 ≤ x → x < 58 → ⊥) → AtomThere m (x ∷ r) → ⊥
    go (inl z) a = b.no_colon (zero_ends (decimal a.n) r a.q x (decimal_plain a.n) (rw (z, decimal_small 0 (omega arith)) at a.same))
    go (inr f) a = b.no_colon (digits_end (decimal m) (decimal a.n) r a.q x (decimal_plain m).digits_only (decimal_plain a.n).digits_only f a.same)

-- a decimal alone is no item
no_atom_yet : (m : ℕ) → Begins (decimal m) → ⊥
no_atom_yet m h =
    let a = atom_there m [] (rw append-nil h) in
    let e : decimal m ++ (58 ∷ []) ≡ decimal a.n ++ (58 ∷ (a.q ++ (58 ∷ []))) = ap (λ (l : List ℕ). l ++ (58 ∷ [])) (sym (append-nil (decimal m)) ∙ a.same) ∙ append_assoc (decimal a.n) (58 ∷ a.q) (58 ∷ []) in
    omega (arith, simp length-append at (ap length (decimal_colon m a.n [] (a.q ++ (58 ∷ [])) e).1))

nothing_begins : Begins [] → ⊥
unfolding bytes
nothing_begins b = go b.item b.is_item b.here
  where
    go : (i : List ℕ) → ItemBytes i → [] ≡ i ++ b.rest → ⊥
    go _ opening e = omega (arith, ap length e)
    go _ closing e = omega (arith, ap length e)
    go _ (of_atom c) e = omega (arith, simp length-append at (ap length e))

-- anything may go on as an opening bracket
bracket_begins : Begins (40 ∷ [])
bracket_begins = record { item = 40 ∷ []; rest = []; is_item = opening; here = refl }

-- neither a bracket nor a digit
pub record BeginsNone (x : ℕ) : Type 0 where
  pub no_opening : x ≡ 40 → ⊥
  pub no_closing : x ≡ 41 → ⊥
  pub no_digit : 48 ≤ x → x < 58 → ⊥

-- such a byte begins no item
none_begins : (x : ℕ) (r : List ℕ) → BeginsNone x → Begins (x ∷ r) → ⊥
unfolding bytes
none_begins x r n b = go b.item b.is_item b.here
  where
    at_digit : (c q : List ℕ) → PlainDecimal c → x ∷ r ≡ c ++ q → ⊥
    at_digit [] q p e = omega arith
    at_digit (d ∷ c) q p e = let h : x ≡ d = cc in n.no_digit (omega arith) (omega arith)

    go : (i : List ℕ) → ItemBytes i → x ∷ r ≡ i ++ b.rest → ⊥
    go _ opening e = n.no_opening (cc)
    go _ closing e = n.no_closing (cc)
    go _ (of_atom c) e = at_digit (decimal (length c)) (58 ∷ c ++ b.rest) (decimal_plain (length c)) (simp append_assoc at e)

-- a bad byte: what stands before it can go on as an item, with it nothing can
bad_at : (s d q more : List ℕ) (at p x : ℕ) → drop at s ≡ d ++ (x ∷ q) → p ≡ at + length d → ((r : List ℕ) → Begins (d ++ (x ∷ r)) → ⊥) → Begins (d ++ more) → Takes s at (Err (Bad p))
bad_at s d q more at p x e h f b =
    let long : length s - at ≡ length d + suc (length q) = sym (length-drop at s) ∙ ap length e ∙ length-append d (x ∷ q) in
    let front : take (p - at) (drop at s) ≡ d = rw e (take_at d (x ∷ q) (p - at) (omega arith)) in
    let all : take (suc p - at) (drop at s) ≡ d ++ (x ∷ []) = rw (e, ← append_snoc d x q) (take_at (d ++ (x ∷ [])) q (suc p - at) (simp length-append (omega arith))) in
    bad p (omega arith) (omega arith) (λ r a. f r (rw (all, append_snoc) at a)) more (rw front b)

-- past the end any item may follow
pub cut_end : (s : List ℕ) (at : ℕ) → length s ≤ at → Takes s at (Err Cut)
cut_end s at h = cut (λ b. nothing_begins (rw (drop_of_length-le s h) at b)) (40 ∷ []) (rw (drop_of_length-le s h) bracket_begins)

-- an item of one byte, a bracket, is there where its byte is
pub took_byte : (s : List ℕ) (at : ℕ) (i : Item) (k : ℕ) → item_bytes s i ≡ k ∷ [] → Placed s at i (at + 1) → at < length s → get_or s at 0 ≡ k → Takes s at (Ok (i, record { at = at + 1 }))
took_byte s at i k b p h e = took i (at + 1) (omega arith) (rw (b, drop-cons s at 0 h, e, add-one)) p

-- another byte that is no digit is bad
pub bad_first : (s : List ℕ) (at : ℕ) → at < length s → BeginsNone (get_or s at 0) → Takes s at (Err (Bad at))
bad_first s at h n = bad_at s [] (drop (suc at) s) (40 ∷ []) at at (get_or s at 0) (drop-cons s at 0 h) (omega arith) (λ r. none_begins (get_or s at 0) r n) bracket_begins

-- the digits from a place on are a decimal, whose number is kept; one that begins with 0 has no second digit
pub record Read (s : List ℕ) (at first n i : ℕ) : Type 0 where
  pub m : ℕ
  pub digits : drop at s ≡ decimal m ++ drop i s
  pub place : i ≡ at + length (decimal m)
  pub within : i ≤ length s
  pub kept : LengthKept (length s) n m
  pub alone : first ≡ 48 → m ≡ 0
  pub long : (first ≡ 48 → ⊥) → 0 < m

-- one digit is read
pub read_first : (s : List ℕ) (at : ℕ) → at < length s → 48 ≤ get_or s at 0 → get_or s at 0 < 58 → Read s at (get_or s at 0) (get_or s at 0 - 48) (at + 1)
read_first s at h low high =
    let e : decimal (get_or s at 0 - 48) ≡ get_or s at 0 ∷ [] = decimal_small (get_or s at 0 - 48) (omega arith) ∙ ap (λ (k : ℕ). k ∷ []) (omega arith) in
    record { m = get_or s at 0 - 48; digits = rw (e, drop-cons s at 0 h, add-one); place = rw e; within = omega arith; kept = exact refl; alone = λ z. omega arith; long = λ f. omega (arith, f) }

-- one more digit of a kept length stands for one more of the true one
kept_more : {most n m r : ℕ} (d : ℕ) → LengthKept most n m → LengthKept most r (10 * n + d) → LengthKept most r (10 * m + d)
kept_more d (exact e) (exact f) = exact (omega arith)
kept_more d (exact e) (beyond a b) = beyond a (omega arith)
kept_more d (beyond a b) (exact f) = beyond (omega arith) (omega arith)
kept_more d (beyond a b) (beyond f g) = beyond f (omega arith)

-- one more digit is read
pub read_more : {s : List ℕ} {at first n i r : ℕ} → Read s at first n i → (first ≡ 48 → ⊥) → i < length s → 48 ≤ get_or s i 0 → get_or s i 0 < 58 → LengthKept (length s) r (10 * n + (get_or s i 0 - 48)) → Read s at first r (i + 1)
read_more {s} {at} {first} {n} {i} {r} a f h low high k =
    let e = decimal_more a.m (get_or s i 0) (a.long f) low high in
    record { m = 10 * a.m + (get_or s i 0 - 48); digits = a.digits ∙ rw (e, drop-cons s i 0 h, append_snoc, add-one); place = rw e (simp length-append (omega arith)); within = omega arith; kept = kept_more (get_or s i 0 - 48) a.kept k; alone = λ z. absurd (f z); long = λ z. omega (arith, a.long f) }

-- the text ends in the digits
pub cut_digits : {s : List ℕ} {at first n i : ℕ} → Read s at first n i → i ≡ length s → Takes s at (Err Cut)
cut_digits {s} {at} {i = i} a h =
    let e : drop at s ≡ decimal a.m = a.digits ∙ rw (drop_of_length-le s {i = i} (omega arith)) (append-nil (decimal a.m)) in
    cut (λ b. no_atom_yet a.m (rw e at b)) (58 ∷ replicate a.m 0) (rw e (atom_here a.m (replicate a.m 0) (simp length-replicate (omega arith))))

-- a byte behind the digits that is no digit, or that follows a leading 0, has to be the colon
pub bad_digits : {s : List ℕ} {at first n i : ℕ} → Read s at first n i → i < length s → (get_or s i 0 ≡ 58 → ⊥) → (first ≡ 48) ⊎ (48 ≤ get_or s i 0 → get_or s i 0 < 58 → ⊥) → Takes s at (Err (Bad i))
bad_digits {s} {at} {first} {n} {i} a h f g =
    bad_at s (decimal a.m) (drop (suc i) s) (58 ∷ replicate a.m 0) at i (get_or s i 0) (a.digits ∙ rw (drop-cons s i 0 h)) a.place (λ r. no_atom a.m (get_or s i 0) r (record { no_colon = f; no_digit = ⊎_elim (λ z. inl (a.alone z)) inr g })) (atom_here a.m (replicate a.m 0) (simp length-replicate (omega arith)))

-- the colon and what follows it
colon : {s : List ℕ} {at first n i : ℕ} (a : Read s at first n i) → i < length s → get_or s i 0 ≡ 58 → drop at s ≡ decimal a.m ++ (58 ∷ drop (i + 1) s)
colon {s} {i = i} a h e = a.digits ∙ rw (drop-cons s i 0 h, e, add-one)

-- the text ends in the atom's bytes
pub cut_bytes : {s : List ℕ} {at first n i : ℕ} → Read s at first n i → i < length s → get_or s i 0 ≡ 58 → length s - (i + 1) < n → Takes s at (Err Cut)
cut_bytes {s} {at} {first} {n} {i} a h e l = cut none (replicate m 0) (rw (colon a h e, append_assoc) (atom_here m (q ++ replicate m 0) (simp (length-append, length-replicate) (omega arith))))
  where
    m : ℕ
    m = a.m

    q : List ℕ
    q = drop (i + 1) s

    long : LengthKept (length s) n m → length q < m
    long (exact k) = rw length-drop (omega arith)
    long (beyond k b) = rw length-drop (omega arith)

    none : Begins (drop at s) → ⊥
    none b =
        let t = atom_there m (58 ∷ q) (rw (colon a h e) at b) in
        let same = decimal_colon m t.n q t.q t.same in
        omega (arith, same.0, ap length same.1, long a.kept)

-- the atom is there
pub took_atom : {s : List ℕ} {at first n i : ℕ} → Read s at first n i → i < length s → get_or s i 0 ≡ 58 → n ≤ length s - (i + 1) → Takes s at (Ok (Atom (i + 1) n, record { at = i + 1 + n }))
unfolding bytes
took_atom {s} {at} {first} {n} {i} a h e l = took (Atom (i + 1) n) (i + 1 + n) (omega arith) (colon a h e ∙ sym there) (rw same (omega arith), refl)
  where
    exactly : LengthKept (length s) n a.m → n ≡ a.m
    exactly (exact k) = k
    exactly (beyond k b) = absurd (omega arith)

    same : n ≡ a.m
    same = exactly a.kept

    there : bytes (atom (take n (drop (i + 1) s))) ++ drop (i + 1 + n) s ≡ decimal a.m ++ (58 ∷ drop (i + 1) s)
    there = rw (append_assoc, length-take-le n (drop (i + 1) s) (rw length-drop l), ← drop-drop n (i + 1) s, take-append-drop n (drop (i + 1) s), ← same)
