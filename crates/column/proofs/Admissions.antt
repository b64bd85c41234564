-- The check with a column, from the table's check and the column's.
use mathlib.Core.Path.{◌≡◌, refl, ap}
use mathlib.Core.Logic.{inl, inr}
use mathlib.Core.Bool.{Bool, true, false}
use mathlib.Core.List.{List}
use Prim.Native.Nat.{ℕ}
use native.Mathlib.Omega.{arith}
use Rattle.calculus.specs.declared.Refusal.{Refusal}
use Rattle.calculus.specs.declared.Refusal.TheVariants as refusal
use Rattle.calculus.specs.Tree.{program, Tree}
use Rattle.calculus.specs.Good.{Good}
use Rattle.calculus.specs.Answers.{number}
use Rattle.calculus.specs.Sheets.{Sheet, sheet}
use Rattle.calculus.specs.Column.{ColumnOf}
use Rattle.calculus.specs.Calls.{Accepts, Refuses, TableOf, plain_refusals, table_refusals}
use Rattle.calculus.proofs.Answers.{number_injective, number_positive}
use Rattle.calculus.proofs.Outcomes.{table_of_unique}
use Rattle.table.specs.Checks.{Checks, checked_number}
use Rattle.std.specs.Prelude.{Result, Ok, Err}
use Rattle.table.proofs.Verdicts.{AdmittedIn, admitted_there, table_stands, refused_there}
use Rattle.column.specs.Sizes.{TreeOf, ColumnVerdict}
use Rattle.column.specs.Admissions.{ChecksWith, admitted, refused}

-- the table's check refuses with r
pub record RefusedIn (n : ℕ) (t : List ℕ) (count : ℕ) (r : Refusal) : Type 0 where
  pub refuses : Refuses (plain_refusals n t count) r

-- a program stands there
pub record SomeProgram (n : ℕ) (t : List ℕ) (count : ℕ) : Type 0 where
  pub program_there : Tree program
  pub table_of : TableOf n t count program_there

pub tree_of : {n : ℕ} {t : List ℕ} {count : ℕ} → SomeProgram n t count → TreeOf t count
tree_of p = record { sort = program; tree = p.program_there; stands = table_stands p.table_of; size = p.table_of.counts }

module _ {n : ℕ} {t : List ℕ} {count : ℕ} where
  pub admitted_some : AdmittedIn n t count → SomeProgram n t count
  admitted_some a = record { program_there = a.program_there; table_of = a.table_of }

  pub refused_in : {r : Result Unit Refusal} {q : Refusal} → r ≡ Err q → Checks n t count (checked_number r) → RefusedIn n t count q
  refused_in {q = q} e h = let s = refused_there e h in record { refuses = rw (number_injective s.0 q s.1.0) at s.1.1 }

  -- with another number than 1
  pub refused_some : {q : Refusal} → RefusedIn n t count q → (number q ≡ 1 → ⊥) → SomeProgram n t count
  refused_some {q} h f = go h.refuses
    where
      go : Refuses (plain_refusals n t count) q → SomeProgram n t count
      go (inl g) = absurd (f (ap number g.1))
      go (inr (a, inl g)) = record { program_there = g.0.0; table_of = g.0.1.0 }
      go (inr (a, inr (b, inl g))) = record { program_there = g.0.0; table_of = g.0.1.0 }
      go (inr (a, inr (b, inr (c, g)))) = absurd g

  -- a program stands there, but for 1
  pub checked_some : (r : Result Unit Refusal) → (r ≡ Err refusal.NoProgram → ⊥) → Checks n t count (checked_number r) → SomeProgram n t count
  checked_some (Ok u) f h = admitted_some (admitted_there refl h)
  checked_some (Err q) f h = refused_some (refused_in refl h) (λ z. f (ap Err (number_injective q refusal.NoProgram z)))

  -- 1 stays
  pub first_stays : (c : List ℕ) {q : Refusal} → RefusedIn n t count q → number q ≡ 1 → ChecksWith n (sheet t c) count (number q)
  first_stays c {q} h f = go h.refuses
    where
      go : Refuses (plain_refusals n t count) q → ChecksWith n (sheet t c) count (number q)
      go (inl g) = refused q (inl g)
      go (inr (a, inl g)) = absurd (omega (arith, f, ap number g.1))
      go (inr (a, inr (b, inl g))) = absurd (omega (arith, f, ap number g.1))
      go (inr (a, inr (b, inr (c, g)))) = absurd g

  module _ {c : List ℕ} {p : Tree program} (h : TableOf n t count p) (k : ColumnOf c count p) where
    -- where the column is right, 14 does not apply
    not_wrong : (q : Tree program) × (TableOf n t count q × (ColumnOf c count q → ⊥)) → ⊥
    not_wrong w = let e = table_of_unique h w.1.0 in w.1.1 (rw e at k)

    pub column_accepts : Accepts (plain_refusals n t count) → Accepts (table_refusals n (sheet t c) count)
    column_accepts a = (a.0, (not_wrong, a.1))

    pub column_refuses : (q : Refusal) → Refuses (plain_refusals n t count) q → Refuses (table_refusals n (sheet t c) count) q
    column_refuses q (inl g) = inl g
    column_refuses q (inr g) = inr (g.0, inr (not_wrong, g.1))

  module _ {c : List ℕ} {b : Bool} (v : ColumnVerdict t c count b) where
    -- the column is wrong
    pub not_right : SomeProgram n t count → b ≡ false → ChecksWith n (sheet t c) count 14
    not_right p e = refused refusal.WrongColumn (inr ((λ f. f p.program_there p.table_of), inl ((p.program_there, (p.table_of, v.wrong e _ (table_stands p.table_of) p.table_of.counts)), refl)))

    -- it is right
    pub right_admits : AdmittedIn n t count → b ≡ true → ChecksWith n (sheet t c) count 0
    right_admits a e =
        let k = v.right e _ (table_stands a.table_of) a.table_of.counts in
        admitted a.program_there a.table_of a.good k (column_accepts a.table_of k a.accepts)

    right_refuses : {q : Refusal} → SomeProgram n t count → RefusedIn n t count q → b ≡ true → ChecksWith n (sheet t c) count (number q)
    right_refuses {q} p h e = refused q (column_refuses p.table_of (v.right e _ (table_stands p.table_of) p.table_of.counts) q h.refuses)

    -- whatever the table's check answers, but for 1
    pub right_stays : (r : Result Unit Refusal) → (r ≡ Err refusal.NoProgram → ⊥) → Checks n t count (checked_number r) → b ≡ true → ChecksWith n (sheet t c) count (checked_number r)
    right_stays (Ok u) f h e = right_admits (admitted_there refl h) e
    right_stays (Err q) f h e = right_refuses (refused_some (refused_in refl h) (λ z. f (ap Err (number_injective q refusal.NoProgram z)))) (refused_in refl h) e

-- an admitted program stands there with its column
pub record HeldIn (n : ℕ) (table : Sheet) (count : ℕ) : Type 0 where
  pub accepts : Accepts (table_refusals n table count)
  pub program_there : Tree program
  pub table_of : TableOf n table.numbers count program_there
  pub good : Good n program_there
  pub column_of : ColumnOf table.sizes count program_there

module _ {n : ℕ} {table : Sheet} {count : ℕ} where
  -- the check admits
  pub held_there : {r : Result Unit Refusal} {u : Unit} → r ≡ Ok u → ChecksWith n table count (checked_number r) → HeldIn n table count
  held_there {r} e h = go h (ap checked_number e)
    where
      go : {m : ℕ} → ChecksWith n table count m → m ≡ 0 → HeldIn n table count
      go (admitted p h g k a) e = record { accepts = a; program_there = p; table_of = h; good = g; column_of = k }
      go (refused q g) e = absurd (omega (arith, number_positive q))

  -- it refuses: the first condition that holds has the answer's number
  pub refused_with : {r : Result Unit Refusal} {q : Refusal} → r ≡ Err q → ChecksWith n table count (checked_number r) → Refuses (table_refusals n table count) q
  refused_with {q} e h = go h (ap checked_number e)
    where
      go : {m : ℕ} → ChecksWith n table count m → m ≡ number q → Refuses (table_refusals n table count) q
      go (admitted p h g k a) e = absurd (omega (arith, number_positive q))
      go (refused s g) e = rw (number_injective s q e) at g
