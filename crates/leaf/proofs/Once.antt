-- What the program writes is a function of the bytes: one report of a text, and no byte past the text limit changes it. Of a refused text it is 2 to 7 or 15.
use mathlib.Core.Path.{◌≡◌, refl, sym, ap, ◌∙◌}
use mathlib.Core.Logic.{◌⊎◌, ⊎_elim, inl, inr}
use mathlib.Core.List.{List, [], ◌∷◌, ◌++◌}
use Prim.Native.Nat.{ℕ, ◌*◌, ◌≤◌, ◌<◌}
use native.Mathlib.Nat.{eq-or-lt_of_le}
use native.Mathlib.Omega.{arith}
use lib.ListN.{length, take, length-take}
use lib.Seq.{take_all}
use Rattle.calculus.specs.declared.Refusal.{Refusal}
use Rattle.calculus.specs.declared.Refusal.TheVariants.{TooLong, Incoherent, NoRoom}
use Rattle.calculus.specs.Tree.{program, Tree, threads}
use Rattle.calculus.specs.Run.{run}
use Rattle.calculus.specs.Answers.{number}
use Rattle.calculus.specs.Calls.{Refusals, front, TextOf}
use Rattle.calculus.specs.Report.{report, refusal_report, operator_refusals, zeros, ReportsBy, reported, refused, Reports}
use Rattle.calculus.proofs.Answers.{number_injective}
use Rattle.calculus.proofs.Bindings.{In}
use Rattle.calculus.proofs.Refusals.{given_listed, accepted_not_refused, one_refusal}
use Rattle.calculus.proofs.Outcomes.{text_of_unique}
use Rattle.calculus.proofs.Reports.{zeros_hold}
use Rattle.operator.proofs.Turned.{never_eight, never_nine}
use Rattle.leaf.specs.Reported.{Reported, ReportedWhole}

-- two reports of one text by one list of refusals are equal
pub reports_by_once : {cs : Refusals} {n k : ℕ} {b : List ℕ} {w u : List ℕ} → ReportsBy cs n k b w → ReportsBy cs n k b u → w ≡ u
reports_by_once {n = n} {k} (reported p a t) (reported q c s) = ap (λ (x : Tree program). report (run n k (threads x))) (text_of_unique t s)
reports_by_once {cs} (reported p a t) (refused r g) = absurd (accepted_not_refused cs r a g)
reports_by_once {cs} (refused r g) (reported p a t) = absurd (accepted_not_refused cs r a g)
reports_by_once {cs} (refused r g) (refused q h) = ap refusal_report (one_refusal cs r q g h)

module _ {n k : ℕ} {b : List ℕ} where
  -- and so are two of the program's
  pub reports_once : {w u : List ℕ} → Reports n k b w → Reports n k b u → w ≡ u
  reports_once = reports_by_once

  -- and so are two outcomes that the contract allows
  pub reported_once : {out : List ℕ} {c d : ℕ} {o u : List ℕ} → Reported n k b out c o → Reported n k b out d u → (c ≡ d) × (o ≡ u)
  reported_once {out} r s =
      let e = reports_once r.reports s.reports in
      (sym r.counts ∙ ap length e ∙ s.counts, r.is ∙ ap (λ (l : List ℕ). front l out) e ∙ sym s.is)

  -- the report of a text past the limit is a refusal, whatever the text
  too_long : {w : List ℕ} → 12 * n < length b → Reports n k b w → w ≡ refusal_report TooLong
  too_long h (reported p a t) = absurd (a.0 h)
  too_long h (refused r (inl g)) = ap refusal_report g.1
  too_long h (refused r (inr g)) = absurd (g.0 h)

-- what is reported of an input up to a place past the limit is the report of the whole input
pub cut_reported : {n k m : ℕ} (b : List ℕ) {w : List ℕ} → 12 * n < m → Reports n k (take m b) w → Reports n k b w
cut_reported {m = m} b l h =
    let size = length-take m b in
    let within : length (take m b) ≤ m = omega arith in
    ⊎_elim
    (λ (e : length (take m b) ≡ m). rw (too_long (omega arith) h) (refused TooLong (inl (omega arith, refl))))
    (λ (l : length (take m b) < m). rw (take_all m b (omega arith)) at h)
    (eq-or-lt_of_le within)

-- and so is the report of what a buffer longer than the limit holds of it
pub whole_reported : {n k : ℕ} {buffer : List ℕ} {m : ℕ} {out : List ℕ} {count : ℕ} {after : List ℕ} → 12 * n < length buffer → Reported n k (take m buffer) out count after → ReportedWhole n k buffer m out count after
whole_reported l r = record { each = λ b h. record { written = r.written; reports = cut_reported b l (rw h r.reports); counts = r.counts; is = r.is } }

-- that of what the buffer holds is one of them
pub held_reported : {n k : ℕ} {buffer : List ℕ} {m : ℕ} {out : List ℕ} {count : ℕ} {after : List ℕ} → ReportedWhole n k buffer m out count after → m ≤ length buffer → Reported n k (take m buffer) out count after
held_reported {buffer = buffer} {m} r l = r.each (take m buffer) (take_all (length buffer) (take m buffer) (omega (arith, length-take m buffer)))

-- what is in a list, and is neither of its last two, is before them
before_two : (l : List ℕ) {x y z : ℕ} → (y ≡ x → ⊥) → (z ≡ x → ⊥) → In x (l ++ (y ∷ z ∷ [])) → In x l
before_two [] f g (inl e) = f e
before_two [] f g (inr (inl e)) = g e
before_two [] f g (inr (inr h)) = h
before_two (a ∷ l) f g (inl e) = inl e
before_two (a ∷ l) f g (inr h) = inr (before_two l f g h)

-- what is written is the report of a run, or that of one of these refusals: 8 and 9 are never given
pub reports_can_give : {n k : ℕ} {b w : List ℕ} → Reports n k b w → ((p : Tree program) × (TextOf n b p × (w ≡ report (run n k (threads p))))) ⊎ ((r : Refusal) × (In (number r) (2 ∷ 3 ∷ 4 ∷ 5 ∷ 6 ∷ 7 ∷ 15 ∷ []) × (w ≡ refusal_report r)))
reports_can_give (reported p a t) = inl (p, (t, refl))
reports_can_give {n} {b = b} (refused r g) =
    let eight : 8 ≡ number r → ⊥ = λ e. never_eight n b (zeros n) (rw (number_injective r Incoherent (sym e)) at g) in
    let nine : 9 ≡ number r → ⊥ = λ e. never_nine n b (zeros n) (omega (arith, zeros_hold n)) (rw (number_injective r NoRoom (sym e)) at g) in
    inr (r, (before_two (2 ∷ 3 ∷ 4 ∷ 5 ∷ 6 ∷ 7 ∷ 15 ∷ []) eight nine (given_listed (operator_refusals n b (zeros n)) r g), refl))
