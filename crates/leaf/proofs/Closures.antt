-- Request 7: what the program writes beside what it wrote before. 15 exactly of a closure; 8 as 15; all else as before, byte for byte.
use mathlib.Core.Path.{◌≡◌, refl}
use mathlib.Core.Logic.{◌↔◌}
use mathlib.Core.List.{List}
use Prim.Native.Nat.{ℕ, ◌≤◌}
use native.Mathlib.Omega.{arith}
use Rattle.calculus.specs.declared.Refusal.{Refusal}
use Rattle.calculus.specs.declared.Refusal.TheVariants.{Incoherent, NoRoom, Closure}
use Rattle.calculus.specs.Tree.{program, Tree}
use Rattle.calculus.specs.Good.{HoldsClosure}
use Rattle.calculus.specs.Calls.{Refusals, Refuses, TextOf, read_refusals}
use Rattle.calculus.specs.Report.{refusal_report, operator_refusals, zeros, ReportsBy, reported, refused, Reports, ReportsBefore}
use Rattle.calculus.proofs.Reports.{zeros_hold, refusal_report_injective, report_no_refusal}
use Rattle.operator.specs.Operator.{ClosureText}
use Rattle.operator.proofs.Turned.{closure_turned, turned_closure, never_eight, never_nine, refused_before, accepted_before, refused_still, accepted_still, turned_refused, eight_turned}

-- a refusal is written only where it is given
written_given : (cs : Refusals) {n k : ℕ} {b w : List ℕ} (r : Refusal) → w ≡ refusal_report r → ReportsBy cs n k b w → Refuses cs r
written_given cs r e (reported p a t) = absurd (report_no_refusal _ r e)
written_given cs r e (refused q g) = rw (← refusal_report_injective q r e) g

-- "turn away a text that holds kind 6 anywhere": it is not run, whatever its number
pub closure_refused : {n k : ℕ} {b w : List ℕ} {p : Tree program} → TextOf n b p → HoldsClosure p → Reports n k b w → (r : Refusal) × (w ≡ refusal_report r)
closure_refused t h (reported q a s) = absurd (a.1.1.1.1.1.1.0 (_, (t, h)))
closure_refused t h (refused r g) = (r, refl)

module _ {n k : ℕ} {b : List ℕ} where
  -- "15, a closure in an operator's text": it is written exactly where a closure stands anywhere in a text that 2 to 7 let pass
  pub closure_reported : n ≤ 65536 → Reports n k b (refusal_report Closure) ↔ ClosureText n b
  closure_reported l = ((λ h. turned_closure n b (zeros n) (written_given (operator_refusals n b (zeros n)) Closure refl h)), λ c. refused Closure (closure_turned n b (zeros n) l c))

  -- "before 8, which this program then never gives"
  pub eight_never : Reports n k b (refusal_report Incoherent) → ⊥
  eight_never h = never_eight n b (zeros n) (written_given (operator_refusals n b (zeros n)) Incoherent refl h)

  -- 9 neither, as before
  pub nine_never : Reports n k b (refusal_report NoRoom) → ⊥
  nine_never h = never_nine n b (zeros n) (omega (arith, zeros_hold n)) (written_given (operator_refusals n b (zeros n)) NoRoom refl h)

  -- what was refused with 8 is refused with 15
  pub eight_reported : ReportsBefore n k b (refusal_report Incoherent) → Reports n k b (refusal_report Closure)
  eight_reported h = refused Closure (eight_turned n b (zeros n) (omega (arith, zeros_hold n)) (written_given (read_refusals n b (zeros n)) Incoherent refl h))

  -- and what was refused with another number still is
  pub refusal_stays : (r : Refusal) → (r ≡ Incoherent → ⊥) → ReportsBefore n k b (refusal_report r) → Reports n k b (refusal_report r)
  refusal_stays r f h = refused r (turned_refused n b (zeros n) (omega (arith, zeros_hold n)) r r (record { incoherent = λ e. absurd (f e); other = λ g. refl }) (written_given (read_refusals n b (zeros n)) r refl h))

  -- Where it is not of a closure,
  module _ (f : ClosureText n b → ⊥) where
    -- what is written was written before,
    as_before : {w : List ℕ} → Reports n k b w → ReportsBefore n k b w
    as_before (reported p a t) = reported p (accepted_before n b (zeros n) a) t
    as_before (refused r g) = refused r (refused_before n b (zeros n) r (λ e. f (turned_closure n b (zeros n) (rw e at g))) g)

    -- and what was written still is
    still : {w : List ℕ} → ReportsBefore n k b w → Reports n k b w
    still (reported p a t) = reported p (accepted_still n b (zeros n) (λ g. f (turned_closure n b (zeros n) g)) a) t
    still (refused r g) = refused r (refused_still n b (zeros n) (λ h. f (turned_closure n b (zeros n) h)) r g)

    -- "Demands 2 and 3 are as before for what is accepted", and so is every other refusal
    pub reports_as_before : (w : List ℕ) → Reports n k b w ↔ ReportsBefore n k b w
    reports_as_before w = (as_before, still)
