-- What is within the node limit n is within a limit m that is no smaller.
use mathlib.Core.List.{List}
use Prim.Native.Nat.{ℕ, ◌≤◌}
use native.Mathlib.Omega.{arith}
use Rattle.calculus.specs.Tree.{Sort, term, program, code, at, Tree, empty, alt, bound, free, con, abs, fresh, two}
use Rattle.calculus.specs.Good.{InRange, Good}
use Rattle.calculus.specs.Step.{Step}
use Rattle.calculus.specs.Sheets.{Sheet}
use Rattle.calculus.specs.Calls.{TextOf, TableOf, StepsTo, ThreadOf}
use Rattle.promises.specs.Worked.{Held}

module _ {n m : ℕ} (l : n ≤ m) where
  -- numbers in their range
  pub wider_range : {s : Sort} (t : Tree s) → InRange n t → InRange m t
  wider_range empty h = tt
  wider_range (alt t p) h = (wider_range t h.0, wider_range p h.1)
  wider_range (bound i) h = omega arith
  wider_range (free x) h = omega arith
  wider_range (con c) h = h
  wider_range (abs code p) h = (tt, wider_range p h.1)
  wider_range (abs (at a) p) h = (omega arith, wider_range p h.1)
  wider_range (fresh t) h = wider_range t h
  wider_range (two o s t) h = (wider_range s h.0, wider_range t h.1)

  module _ {p : Tree program} where
    -- a program's text
    pub wider_text : {b : List ℕ} → TextOf n b p → TextOf m b p
    wider_text h = record { is = h.is; ranges = wider_range p h.ranges }

    -- a program that is admitted
    pub wider_good : Good n p → Good m p
    wider_good h = record { small = omega (arith, h.small); ranges = wider_range p h.ranges; closed = h.closed; coherent = h.coherent }

    -- a program in a table
    pub wider_table : {numbers : List ℕ} {count : ℕ} → TableOf n numbers count p → TableOf m numbers count p
    wider_table h = record { counts = h.counts; small = omega (arith, h.small); within = h.within; is = h.is; ranges = wider_range p h.ranges }

    -- and its column beside it
    pub wider_held : {table : Sheet} {count : ℕ} → Held n table count p → Held m table count p
    wider_held h = record { table_of = wider_table h.table_of; column_of = h.column_of }

  module _ {numbers : List ℕ} {count : ℕ} where
    -- a step of the program in a table
    pub wider_step : {p : Tree program} {s : Step} → StepsTo n numbers count p s → StepsTo m numbers count p s
    wider_step h = record { table_of = wider_table h.table_of; steps = h.steps }

    -- a thread of it
    unfoldable pub wider_thread : {k : ℕ} {t : Tree term} → ThreadOf n numbers count k t → ThreadOf m numbers count k t
    wider_thread h = record { before = h.before; after = h.after; table_of = wider_table h.table_of; place = h.place }
