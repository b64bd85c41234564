-- What the read of an operator's text leaves, from what the library's read leaves.
use mathlib.Core.Path.{◌≡◌, sym, ap, ◌∙◌}
use mathlib.Core.Bool.{Bool, true, false}
use mathlib.Core.List.{List, [], ◌∷◌}
use Prim.Native.Nat.{ℕ, ◌≤◌}
use native.Mathlib.Omega.{arith}
use lib.ListN.{get_or}
use Rattle.calculus.specs.declared.Refusal.{Refusal}
use Rattle.calculus.specs.declared.Refusal.TheVariants.{Closure}
use Rattle.calculus.specs.Tree.{program, Tree, nodes}
use Rattle.calculus.specs.Sheets.{Sheet, holds}
use Rattle.calculus.specs.Answers.{number, Values}
use Rattle.calculus.specs.Calls.{Accepts, put_front, TextOf, text_refusals, late_refusals, read_refusals, Reads}
use Rattle.calculus.specs.Calls as calls
use Rattle.calculus.specs.Report.{operator_refusals}
use Rattle.calculus.proofs.Answers.{number_positive}
use Rattle.calculus.proofs.Refusals.{accepted_not_refused, one_refusal}
use Rattle.calculus.proofs.Outcomes.{text_of_unique, reads_once}
use Rattle.table.specs.Nodes.{Stands}
use Rattle.table.specs.Checks.{NoneAllocated}
use Rattle.table.proofs.Allocated.{none_held, one_held}
use Rattle.table.proofs.Verdicts.{table_stands, both_accept}
use Rattle.promises.specs.Exactly.{Exactly}
use Rattle.promises.specs.Worked.{Held, HasRead}
use Rattle.promises.proofs.Admitted.{accepted}
use Rattle.promises.proofs.Worked.{read_gives}
use Rattle.promises.proofs.Refused.{reads_exactly, exactly_accepted, exactly_refused}
use Rattle.operator.specs.Operator.{ReadsOperators, read, turned_away, TurnedAway}
use Rattle.operator.proofs.Turned.{turned, accepted_before, accepted_still, plain_kept, turned_refused}

-- the refusal with the number m
abbrev refusal_values : ℕ → Values
refusal_values m = record { refusal = m; values = 0 ∷ [] }

-- the program p of m nodes was read
told : {n : ℕ} {b : List ℕ} {out t : Sheet} {m : ℕ} {p : Tree program} → nodes p ≡ m → t ≡ put_front p out → Accepts (operator_refusals n b out) → TextOf n b p → ReadsOperators n b out (accepted m) t
told {p = p} e f a t = rw (← e, f) (read p a t)

-- The library's read.
module _ {n : ℕ} {b : List ℕ} {out : Sheet} {v : Values} {t : Sheet} (c : Reads n b out v t) where
  -- It accepts: m nodes are counted.
  module _ {m : ℕ} (f : v ≡ accepted m) where
    -- what it has read
    pub has_read : HasRead n b out v t
    has_read = read_gives c (ap (λ (x : Values). x.refusal) f)

    counts : nodes has_read.program ≡ m
    counts = ap (λ (l : List ℕ). get_or l 0 0) (sym has_read.values ∙ ap (λ (x : Values). x.values) f)

    text_of : TextOf n b has_read.program
    text_of = record { is = has_read.is; ranges = has_read.good.ranges }

    accepts : Accepts (read_refusals n b out)
    accepts = (reads_exactly c).accepted_only (ap (λ (x : Values). x.refusal) f)

    -- they stand in the table, with their column
    pub read_held : Held n t m has_read.program
    read_held = rw counts at has_read.back

    stands : Stands t.numbers 0 has_read.program
    stands = table_stands read_held.table_of

    module _ {r : Bool} (h : NoneAllocated t.numbers m r) where
      -- no closure among them: the text is accepted
      pub none_read : r ≡ true → ReadsOperators n b out (accepted m) t
      none_read e =
          let p = has_read.program in
          let plain = plain_kept n b out text_of (none_held h p stands counts e) in
          told counts has_read.left (accepted_still n b out plain accepts) text_of

      -- one among them: it is turned away
      pub one_turned : r ≡ false → ReadsOperators n b out (refusal_values 15) t
      one_turned e = turned_away Closure v t (turned n b out (both_accept (late_refusals n b out) (text_refusals n b) accepts).0 text_of (one_held h has_read.program stands counts e)) c

  -- It refuses.
  pub refusal_turned : (r q : Refusal) → v.refusal ≡ number r → n ≤ holds out → TurnedAway r q → ReadsOperators n b out (refusal_values (number q)) t
  refusal_turned r q f l h = turned_away q v t (turned_refused n b out l r q h ((reads_exactly c).refused_only r f)) c

-- What it says to its caller.
module _ {n : ℕ} {b : List ℕ} {out : Sheet} where
  -- its number is given exactly when
  pub operators_exactly : {v : Values} {t : Sheet} → ReadsOperators n b out v t → Exactly (operator_refusals n b out) v.refusal
  operators_exactly (read p a t) = exactly_accepted (operator_refusals n b out) a
  operators_exactly (turned_away r v t g c) = exactly_refused (operator_refusals n b out) r g

  -- two outcomes that the contract allows coincide
  pub operators_once : {v w : Values} {t u : Sheet} → ReadsOperators n b out v t → ReadsOperators n b out w u → (v ≡ w) × (t ≡ u)
  operators_once (read p a t) (read q c s) = let e = text_of_unique t s in (ap (λ (x : Tree program). accepted (nodes x)) e, ap (λ (x : Tree program). put_front x out) e)
  operators_once (read p a t) (turned_away r v u g c) = absurd (accepted_not_refused (operator_refusals n b out) r a g)
  operators_once (turned_away r v u g c) (read p a t) = absurd (accepted_not_refused (operator_refusals n b out) r a g)
  operators_once (turned_away r v t g c) (turned_away q w u h d) = (ap (λ (x : Refusal). refusal_values (number x)) (one_refusal (operator_refusals n b out) r q g h), (reads_once c d).1)

  -- an accepted read is one of the library's
  pub accepted_plain : {v : Values} {t : Sheet} → ReadsOperators n b out v t → v.refusal ≡ 0 → Reads n b out v t
  accepted_plain (read p a t) e = calls.read p (accepted_before n b out a) t
  accepted_plain (turned_away r v t g c) e = absurd (omega (arith, number_positive r))
