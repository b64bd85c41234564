-- What an accepted call has. The conditions of refusals deny: what is not denied of a program is so, and what an accepted call has is the thing itself.
use mathlib.Core.Path.{◌≡◌, refl, ap, ap₂}
use mathlib.Core.List.{List, [], ◌∷◌}
use Prim.Native.Nat.{ℕ, suc, ◌≤◌, ◌<◌}
use native.Mathlib.Omega.{arith}
use lib.ListN.{length, take}
use Rattle.calculus.specs.Tree.{Sort, term, program, Tree, empty, alt, bound, free, con, abs, fresh, two, preorder, nodes, threads}
use Rattle.calculus.specs.Good.{Closed, Coherent, All, Good}
use Rattle.calculus.specs.Sheets.{Sheet, holds}
use Rattle.calculus.specs.Sexp.{list}
use Rattle.calculus.specs.Text.{encode, raw, raw_text, text}
use Rattle.calculus.specs.Column.{column, ColumnOf}
use Rattle.calculus.specs.Answers.{Values}
use Rattle.calculus.specs.Calls.{Accepts, front, put_front, TextOf, text_refusals, late_refusals, Reads, read, TableOf, table_refusals, Writes, written}
use Rattle.calculus.proofs.Preorders.{preorder_injective}
use Rattle.calculus.proofs.Outcomes.{text_of_unique, table_of_unique, reads_once, writes_once}
use Rattle.calculus.proofs.Texts.{text_length}
use Rattle.table.proofs.Verdicts.{accepts_both}
use Rattle.promises.specs.Worked.{Held}

-- it is denied that A is denied
abbrev pub Undenied : Type 0 → Type 0
Undenied A = (A → ⊥) → ⊥

-- through what follows
through : {A B : Type 0} → (A → B) → Undenied A → Undenied B
through f h g = h (λ a. g (f a))

-- two numbers are equal where that is not denied
pub same_number : (m n : ℕ) → Undenied (m ≡ n) → m ≡ n
same_number m n h =
    let l : n < m → ⊥ = λ k. h (λ e. omega arith) in
    let g : m < n → ⊥ = λ k. h (λ e. omega arith) in
    omega arith

same_numbers : (l m : List ℕ) → Undenied (l ≡ m) → l ≡ m
same_numbers [] [] h = refl
same_numbers [] (y ∷ m) h = absurd (h (λ e. let z : ◌≡◌ {A = ℕ} 0 1 = cc in omega arith))
same_numbers (x ∷ l) [] h = absurd (h (λ e. let z : ◌≡◌ {A = ℕ} 0 1 = cc in omega arith))
same_numbers (x ∷ l) (y ∷ m) h = ap₂ (λ (a : ℕ) (r : List ℕ). a ∷ r) (same_number x y (through (λ e. cc) h)) (same_numbers l m (through (λ e. cc) h))

same_trees : {s : Sort} (t u : Tree s) → Undenied (t ≡ u) → t ≡ u
same_trees t u h = preorder_injective t u (same_numbers (preorder t) (preorder u) (through (λ e. ap preorder e) h))

-- every index has its binder where that is not denied
pub closed_stable : {s : Sort} (d : ℕ) (t : Tree s) → Undenied (Closed d t) → Closed d t
closed_stable d empty h = tt
closed_stable d (alt t p) h = (closed_stable d t (through (λ c. c.0) h), closed_stable d p (through (λ c. c.1) h))
closed_stable d (bound i) h = let f : d ≤ i → ⊥ = λ k. h (λ l. omega arith) in omega arith
closed_stable d (free x) h = tt
closed_stable d (con c) h = tt
closed_stable d (abs k p) h = closed_stable (suc d) p h
closed_stable d (fresh t) h = closed_stable (suc d) t h
closed_stable d (two o s t) h = (closed_stable d s (through (λ c. c.0) h), closed_stable d t (through (λ c. c.1) h))

-- every thread is coherent where that is not denied
pub coherent_stable : (ts : List (Tree term)) → Undenied (All Coherent ts) → All Coherent ts
coherent_stable [] h = tt
coherent_stable (t ∷ ts) h = (
  record {
    within = λ l p k. closed_stable 1 p (through (λ c. c.0.within l p k) h);
    equal = λ l p q k m. same_trees p q (through (λ c. c.0.equal l p q k m) h);
  },
  coherent_stable ts (through (λ c. c.1) h),
)

-- a column is the program's where that is not denied
pub column_stable : (c : List ℕ) (count : ℕ) (p : Tree program) → Undenied (ColumnOf c count p) → ColumnOf c count p
column_stable c count p h =
    let f : length c < count → ⊥ = λ k. h (λ o. omega (arith, o.long)) in
    record { long = omega arith; is = same_numbers (take count c) (column p) (through (λ o. o.is) h) }

module _ {n : ℕ} {count : ℕ} {p : Tree program} where
  -- a good program in a table, with its column, is given none of 1, 14, 6 and 8
  pub good_table : {table : Sheet} → Held n table count p → Good n p → Accepts (table_refusals n table count)
  good_table {table} h g =
      let t = h.table_of in (
        (λ f. f p t),
        (
          (λ f. f.1.1 (rw (table_of_unique f.1.0 t) h.column_of)),
          (
            (λ f. f.1.1 (rw (table_of_unique f.1.0 t) g.closed)),
            ((λ f. f.1.1 (rw (table_of_unique f.1.0 t) g.coherent)), tt),
          ),
        ),
      )

  -- and the program in a table that is given none of them is good, and the column is its
  pub table_good : (table : Sheet) → Accepts (table_refusals n table count) → TableOf n table.numbers count p → Good n p × Held n table count p
  table_good table a t = (
    record {
      small = omega (arith, t.counts, t.small);
      ranges = t.ranges;
      closed = closed_stable 0 p (λ f. a.1.1.0 (p, (t, f)));
      coherent = coherent_stable (threads p) (λ f. a.1.1.1.0 (p, (t, f)));
    },
    record { table_of = t; column_of = column_stable table.sizes count p (λ f. a.1.0 (p, (t, f))) },
  )

-- an accepted call's answer that is one number
abbrev pub accepted : ℕ → Values
accepted m = record { refusal = 0; values = m ∷ [] }

-- the text of a program that is small and has a binder for every index is given none of 2 to 7
pub text_accepted : {n : ℕ} {b : List ℕ} {p : Tree program} → n ≤ 65536 → TextOf n b p → Closed 0 p → nodes p ≤ n → Accepts (text_refusals n b)
unfolding text raw_text
text_accepted {n} {b} {p} l t c s =
    let same : (q : Tree program) → TextOf n b q → q ≡ p = λ q h. text_of_unique h t in (
      (λ h. omega (arith, text_length n p (omega arith) t.ranges, ap length t.is)),
      (
        (λ f. f (list (encode (raw p))) t.is),
        (
          (λ f. f.1.1 (raw p) t.is),
          (
            (λ f. f.1.1 p t),
            (
              (λ f. f.1.1 (rw (same f.0 f.1.0) c)),
              ((λ f. omega (arith, f.1.1, ap nodes (same f.0 f.1.0))), tt),
            ),
          ),
        ),
      ),
    )

module _ {n : ℕ} {p : Tree program} (g : Good n p) where
  -- the text of a good program is read, whatever else a table with room for it holds
  pub good_read : (out : Sheet) → n ≤ 65536 → nodes p ≤ holds out → Reads n (text p) out (accepted (nodes p)) (put_front p out)
  good_read out l r =
      let t : TextOf n (text p) p = record { is = refl; ranges = g.ranges } in
      let same : (q : Tree program) → TextOf n (text p) q → q ≡ p = λ q h. text_of_unique h t in
      let late : Accepts (late_refusals n (text p) out) = ((λ f. f.1.1 (rw (same f.0 f.1.0) g.coherent)), ((λ f. omega (arith, f.1.1, ap nodes (same f.0 f.1.0))), tt)) in
      read p (accepts_both (late_refusals n (text p) out) (text_refusals n (text p)) (text_accepted l t g.closed g.small) late) t

  -- and nothing else can come of it
  pub good_read_only : {out : Sheet} {v : Values} {after : Sheet} → n ≤ 65536 → nodes p ≤ holds out → Reads n (text p) out v after → (v ≡ accepted (nodes p)) × (after ≡ put_front p out)
  good_read_only {out} l r h = reads_once h (good_read out l r)

  module _ {table : Sheet} {count : ℕ} (h : Held n table count p) where
    -- its table is written, whatever else an output with room for its text holds
    pub good_written : (out : List ℕ) → length (text p) ≤ length out → Writes n table count out (accepted (length (text p))) (front (text p) out)
    good_written out r =
        let a = good_table h g in
        let t = h.table_of in
        let fits : (q : Tree program) × (TableOf n table.numbers count q × (length out < length (text q))) → ⊥ = λ f. omega (arith, f.1.1, ap (λ (q : Tree program). length (text q)) (table_of_unique f.1.0 t)) in
        written p (a.0, (a.1.0, (a.1.1.0, (a.1.1.1.0, (fits, tt))))) t

    -- and nothing else can come of it
    pub good_written_only : {out : List ℕ} {v : Values} {after : List ℕ} → length (text p) ≤ length out → Writes n table count out v after → (v ≡ accepted (length (text p))) × (after ≡ front (text p) out)
    good_written_only {out} r k = writes_once k (good_written out r)
