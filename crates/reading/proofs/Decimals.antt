-- Bytes read as a plain decimal, digit by digit.
use mathlib.Core.Path.{◌≡◌, refl, sym, ap, ◌∙◌}
use mathlib.Core.Logic.{◌⊎◌, inl, inr}
use mathlib.Core.List.{List, [], ◌∷◌}
use Prim.Native.Nat.{ℕ, zero, suc, ◌+◌, ◌-◌, ◌*◌, ◌^◌, ◌≤◌, ◌<◌}
use native.Mathlib.Nat.{pow-suc, pow-le-pow_right}
use native.Mathlib.Numerals.{add-one}
use native.Mathlib.Omega.{arith}
use borrow.Author.Count.{below_none, below_more}
use lib.ListN.{length, get_or, take, drop, length-take, length-drop}
use lib.Seq.{drop-cons, drop-length}
use Rattle.calculus.specs.Sexp.{decimal}
use Rattle.calculus.proofs.Decimals.{Digits, PlainDecimal, number_from, number_of, decimal_plain, number_of_decimal, decimal_of_number, decimal_length}
use Rattle.calculus.specs.Answers.{Values}
use Rattle.reading.specs.Numbers.{NumberIs, is, bad}

-- what is told of bytes that are no N
abbrev pub not_plain : Values
not_plain = record { refusal = 5; values = 0 ∷ [] }

abbrev pub Digit : ℕ → Type 0
Digit d = (48 ≤ d) × (d ≤ 57)

pub no_digit : {d : ℕ} → (d < 48) ⊎ (57 < d) → Digit d → ⊥
no_digit (inl l) h = omega arith
no_digit (inr l) h = omega arith

digit_at : (b : List ℕ) (k : ℕ) → Digits b → k < length b → Digit (get_or b k 0)
digit_at [] k h l = absurd (omega arith)
digit_at (d ∷ b) zero h l = omega arith
digit_at (d ∷ b) (suc k) h l = digit_at b k h.2 (omega arith)

digits_all : (b : List ℕ) → ((k : ℕ) → k < length b → Digit (get_or b k 0)) → Digits b
digits_all [] f = tt
digits_all (d ∷ b) f = let h = f 0 (omega arith) in (omega arith, omega arith, digits_all b (λ k l. f (suc k) (omega arith)))

-- the bytes that are read
abbrev pub part : List ℕ → ℕ → ℕ → List ℕ
part s place n = take n (drop place s)

-- While the digits are read: those passed are digits, and v with what is left stands for the number of them all.
pub record Reading (b : List ℕ) (n v i : ℕ) : Type 0 where
  pub size : length b ≡ n
  pub some : 0 < n
  pub short : n ≤ 5
  pub plain : get_or b 0 0 ≡ 48 → n ≡ 1
  pub inside : i ≤ n
  pub rest : number_from v (drop i b) ≡ number_of b
  pub passed : (k : ℕ) → k < i → Digit (get_or b k 0)
  pub power : v < 10 ^ i
  pub small : v < 100000

-- they are what the code takes
pub same_part : (s : List ℕ) (place n : ℕ) → take (place + n - place) (drop place s) ≡ part s place n
same_part s place n = ap (λ (k : ℕ). take k (drop place s)) (omega arith)

pub part_length : (s : List ℕ) (place n : ℕ) → place + n ≤ length s → length (part s place n) ≡ n
part_length s place n h = simp (length-take, length-drop) (omega arith)

module _ {b : List ℕ} {n : ℕ} (size : length b ≡ n) where
  module _ {below : ℕ} where
    refuted : (PlainDecimal b → ⊥) → NumberIs b below not_plain
    refuted f = bad (λ v l e. f (rw e (decimal_plain v)))

    -- no byte is no number
    pub empty_bad : n ≡ 0 → NumberIs b below not_plain
    empty_bad e = refuted (λ p. omega arith)

    -- six digits are no number below 65536
    pub long_bad : below ≤ 65536 → 5 < n → NumberIs b below not_plain
    long_bad u l = bad (λ v h e. omega (arith, ap length e, decimal_length 5 v (omega arith) (omega arith)))

    -- nor is a leading zero before more bytes
    pub zero_bad : get_or b 0 0 ≡ 48 → 1 < n → NumberIs b below not_plain
    zero_bad e l = refuted (λ p. omega (arith, p.no_leading_zero e))

    -- nor is a byte that is no digit
    pub byte_bad : {i : ℕ} → i < n → (Digit (get_or b i 0) → ⊥) → NumberIs b below not_plain
    byte_bad {i} l f = refuted (λ p. f (digit_at b i p.digits_only (omega arith)))

  -- before the first digit all are left
  pub reading_start : 0 < n → n ≤ 5 → (get_or b 0 0 ≡ 48 → n ≡ 1) → Reading b n 0 0
  unfolding number_of
  reading_start l u p = record {
    size = size;
    some = l;
    short = u;
    plain = p;
    inside = omega arith;
    rest = refl;
    passed = below_none (λ k. Digit (get_or b k 0));
    power = omega arith;
    small = omega arith;
  }

-- one digit read
pub reading_next : {b : List ℕ} {n v i : ℕ} → Reading b n v i → i < n → Digit (get_or b i 0) → Reading b n (10 * v + (get_or b i 0 - 48)) (i + 1)
unfolding number_from
reading_next {b} {n} {v} {i} h g d =
    let x : ℕ = get_or b i 0 in
    let p : 10 * v + (x - 48) < 10 ^ (i + 1) = rw (add-one, pow-suc) (omega arith) in
    let q : i + 1 ≤ 5 = omega arith in
    let r : drop i b ≡ x ∷ drop (i + 1) b = rw add-one (drop-cons b i 0 (omega arith)) in
    record {
      size = h.size;
      some = h.some;
      short = h.short;
      plain = h.plain;
      inside = omega arith;
      rest = sym (ap (number_from v) r) ∙ h.rest;
      passed = below_more (λ k. Digit (get_or b k 0)) i h.passed d;
      power = p;
      small = omega (arith, pow-le-pow_right {n = 10} (omega arith) q);
    }

module _ {b : List ℕ} {n v i : ℕ} (h : Reading b n v i) (g : n ≤ i) where
  all_read : (number_of b ≡ v) × (decimal v ≡ b)
  unfolding number_from
  all_read =
      let e : i ≡ length b = omega arith in
      let f : number_of b ≡ v = sym h.rest ∙ rw (e, drop-length b) in
      let p : PlainDecimal b = record { non_empty = omega arith; digits_only = digits_all b (λ k l. h.passed k (omega arith)); no_leading_zero = λ z. h.size ∙ h.plain z } in
      (f, rw (← f) (decimal_of_number b p))

  -- behind the last digit v is the number, if it is below the bound
  pub number_is : {below : ℕ} → v < below → NumberIs b below (record { refusal = 0; values = v ∷ [] })
  number_is l = is v l (sym all_read.1)

  -- and there is none, if it is not
  pub large_bad : {below : ℕ} → below ≤ v → NumberIs b below not_plain
  large_bad l = bad (λ w u e. omega (arith, all_read.0, ap number_of e, number_of_decimal w))
