-- The refusals of an operator's text beside the reader's: 15 exactly when, 8 never, 9 never where the output holds whatever is within the limit, all others as the reader's.
use mathlib.Core.Path.{◌≡◌, refl, ap}
use mathlib.Core.Logic.{◌⊎◌, inl, inr}
use mathlib.Core.List.{List, ◌∷◌}
use Prim.Native.Nat.{ℕ, ◌≤◌, ◌<◌}
use native.Mathlib.Omega.{arith}
use Rattle.calculus.specs.declared.Refusal.{Refusal}
use Rattle.calculus.specs.declared.Refusal.TheVariants.{Incoherent, NoRoom, Closure}
use Rattle.calculus.specs.Tree.{program, Tree, nodes}
use Rattle.calculus.specs.Good.{HoldsClosure}
use Rattle.calculus.specs.Sheets.{Sheet, holds}
use Rattle.calculus.specs.Answers.{number}
use Rattle.calculus.specs.Calls.{Accepts, Refuses, Refusals, TextOf, text_refusals, late_refusals, read_refusals}
use Rattle.calculus.specs.Report.{operator_refusals}
use Rattle.calculus.proofs.Refusals.{Below, not_above, given_applies}
use Rattle.calculus.proofs.Outcomes.{text_of_unique}
use Rattle.calculus.proofs.Closures.{plain_coherent, incoherent_holds}
use Rattle.table.proofs.Verdicts.{refuses_early, refuses_late, accepts_both, refuses_either, both_accept}
use Rattle.promises.proofs.Admitted.{closed_stable, text_accepted}
use Rattle.promises.proofs.Refused.{read_has_room}
use Rattle.operator.specs.Operator.{TurnedAway, ClosureText}

-- what is refused by a list whose numbers are below a refusal's is not given that refusal
not_given : (cs : Refusals) (r : Refusal) → Below (number r) cs → Refuses cs r → ⊥
not_given cs r b g = not_above cs (number r) b (given_applies cs r g)

module _ (n : ℕ) (b : List ℕ) (out : Sheet) where
  -- 2 to 7,
  abbrev early : Refusals
  early = text_refusals n b

  -- 8 and 9,
  abbrev late : Refusals
  late = late_refusals n b out

  -- and with 15 before them
  abbrev behind : Refusals
  behind = (Closure, (p : Tree program) × (TextOf n b p × HoldsClosure p)) ∷ late

  -- "15, a closure in an operator's text": of a program that 2 to 7 let pass
  pub turned : Accepts (text_refusals n b) → {p : Tree program} → TextOf n b p → HoldsClosure p → Refuses (operator_refusals n b out) Closure
  turned a {p} t h = refuses_late behind early Closure a (inl ((p, (t, h)), refl))

  pub closure_turned : n ≤ 65536 → ClosureText n b → Refuses (operator_refusals n b out) Closure
  closure_turned l c = turned (text_accepted l c.text_of c.closed c.small) c.text_of c.closure

  -- and only of it
  pub turned_closure : Refuses (operator_refusals n b out) Closure → ClosureText n b
  turned_closure g = go (refuses_either behind early Closure g)
    where
      go : Refuses early Closure ⊎ (Accepts early × Refuses behind Closure) → ClosureText n b
      go (inl h) = absurd (not_given early Closure (omega arith) h)
      go (inr (a, inl ((p, (t, h)), e))) =
          let small : n < nodes p → ⊥ = λ k. a.1.1.1.1.1.0 (p, (t, k)) in
          record { program_there = p; text_of = t; closed = closed_stable 0 p (λ f. a.1.1.1.1.0 (p, (t, f))); small = omega arith; closure = h }
      go (inr (a, inr (f, h))) = absurd (not_given late Closure (omega arith) h)

  -- "before 8, which this program then never gives"
  pub never_eight : Refuses (operator_refusals n b out) Incoherent → ⊥
  never_eight g = go (refuses_either behind early Incoherent g)
    where
      go : Refuses early Incoherent ⊎ (Accepts early × Refuses behind Incoherent) → ⊥
      go (inl h) = not_given early Incoherent (omega arith) h
      go (inr (a, inl (h, e))) = omega (arith, ap number e)
      go (inr (a, inr (f, inl ((p, (t, h)), e)))) = h (plain_coherent p (λ k. f (p, (t, k))))
      go (inr (a, inr (f, inr (i, inl (h, e))))) = omega (arith, ap number e)
      go (inr (a, inr (f, inr (i, inr h)))) = h.1

  -- any other refusal is the reader's
  pub refused_before : (r : Refusal) → (r ≡ Closure → ⊥) → Refuses (operator_refusals n b out) r → Refuses (read_refusals n b out) r
  refused_before r f g = go (refuses_either behind early r g)
    where
      go : Refuses early r ⊎ (Accepts early × Refuses behind r) → Refuses (read_refusals n b out) r
      go (inl h) = refuses_early late early r h
      go (inr (a, inl (h, e))) = absurd (f e)
      go (inr (a, inr (i, h))) = refuses_late late early r a h

  -- what is accepted is accepted by the reader
  pub accepted_before : Accepts (operator_refusals n b out) → Accepts (read_refusals n b out)
  accepted_before a = let c = both_accept behind early a in accepts_both late early c.0 c.1.1

  -- 9 never where the output holds whatever is within the limit
  pub never_nine : n ≤ holds out → Refuses (operator_refusals n b out) NoRoom → ⊥
  never_nine l g = read_has_room out l (refused_before NoRoom (λ e. omega (arith, ap number e)) g)

  -- Where 15 is not given, a refusal of the reader is,
  pub refused_still : (Refuses (operator_refusals n b out) Closure → ⊥) → (r : Refusal) → Refuses (read_refusals n b out) r → Refuses (operator_refusals n b out) r
  refused_still f r g = go (refuses_either late early r g)
    where
      go : Refuses early r ⊎ (Accepts early × Refuses late r) → Refuses (operator_refusals n b out) r
      go (inl h) = refuses_early behind early r h
      go (inr (a, h)) = refuses_late behind early r a (inr ((λ k. f (turned a k.1.0 k.1.1)), h))

  -- and what the reader accepts is accepted
  pub accepted_still : (Refuses (operator_refusals n b out) Closure → ⊥) → Accepts (read_refusals n b out) → Accepts (operator_refusals n b out)
  accepted_still f a = let c = both_accept late early a in accepts_both behind early c.0 ((λ k. f (turned c.0 k.1.0 k.1.1)), c.1)

  -- 15 is not given of a program without a closure
  pub plain_kept : {p : Tree program} → TextOf n b p → (HoldsClosure p → ⊥) → Refuses (operator_refusals n b out) Closure → ⊥
  plain_kept t f g = let c = turned_closure g in f (rw (text_of_unique t c.text_of) c.closure)

  -- What the reader refuses is turned away, 8 as 15
  pub turned_refused : n ≤ holds out → (r q : Refusal) → TurnedAway r q → Refuses (read_refusals n b out) r → Refuses (operator_refusals n b out) q
  turned_refused l r q w g = go (refuses_either late early r g)
    where
      go : Refuses early r ⊎ (Accepts early × Refuses late r) → Refuses (operator_refusals n b out) q
      go (inl h) = rw (w.other (λ e. not_given early Incoherent (omega arith) (rw e at h))) (refuses_early behind early r h)
      go (inr (a, inl ((p, (t, h)), e))) = rw (w.incoherent e) (turned a t (incoherent_holds p h))
      go (inr (a, inr (i, inl ((p, (t, h)), e)))) = absurd (a.1.1.1.1.1.0 (p, (t, omega arith)))
      go (inr (a, inr (i, inr h))) = absurd h.1

  -- so a text that the reader refuses with 8
  pub eight_turned : n ≤ holds out → Refuses (read_refusals n b out) Incoherent → Refuses (operator_refusals n b out) Closure
  eight_turned l g = turned_refused l Incoherent Closure (record { incoherent = λ e. refl; other = λ f. absurd (f refl) }) g
