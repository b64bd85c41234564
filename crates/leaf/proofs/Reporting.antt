-- The report is written piece by piece.
use mathlib.Core.Path.{◌≡◌, sym, ap, ◌∙◌}
use mathlib.Core.List.{List, [], ◌∷◌}
use Prim.Native.Nat.{ℕ, ◌+◌, ◌*◌, ◌≤◌, ◌<◌}
use native.Mathlib.Omega.{arith}
use lib.ListN.{length, get_or, length-append}
use Rattle.calculus.specs.declared.Reason.{Reason}
use Rattle.calculus.specs.declared.Refusal.{Refusal}
use Rattle.calculus.specs.Sheets.{Sheet}
use Rattle.calculus.specs.Text.{text}
use Rattle.calculus.specs.Answers.{number, Values}
use Rattle.calculus.specs.Calls.{front, Writes}
use Rattle.calculus.specs.Report.{refusal_report}
use Rattle.calculus.proofs.Answers.{number_positive, number_small}
use Rattle.calculus.proofs.Texts.{text_length}
use Rattle.calculus.proofs.Outcomes.{table_of_unique}
use Rattle.writing.specs.declared.write.Output.{Output}
use Rattle.writing.specs.Writer.{numeral, Fits, Wrote}
use Rattle.promises.proofs.Admitted.{accepted}
use Rattle.small.specs.Limit.{small_limit}
use Rattle.promises.proofs.Worked.{good_writes}
use Rattle.leaf.specs.Written.{reason_atom, start_bytes, Blank, HoldsGood, EndWritten}
use Rattle.writing.proofs.Written.{wrote_more}
use Rattle.leaf.proofs.Stores.{lent, behind, lent_length, part_wrote}
use Rattle.leaf.proofs.Shapes.{numeral_length, reason_length, refused_head, refusal_is, report_is}

-- A refusal: behind its atom its number, behind that the closing bracket.
module _ (r : Refusal) {out mid : Output} {k : ℕ} (l : Blank out) (w : Wrote out mid refused_head) (e : k ≡ number r) where
  small : length (numeral k) ≤ 7
  small = numeral_length k (omega (arith, number_small r))

  -- there is room for the number
  pub refusal_number : Fits mid (numeral k)
  refusal_number = record { fits = omega (arith, small) }

  module _ {last : Output} (v : Wrote mid last (numeral k)) where
    -- and for the bracket
    pub refusal_closing : Fits last (41 ∷ [])
    refusal_closing = record { fits = omega (arith, small) }

    -- which ends the refusal's report
    pub refusal_wrote : {after : Output} → Wrote last after (41 ∷ []) → Wrote out after (refusal_report r)
    refusal_wrote u = rw (refusal_is r, ← e) (wrote_more w (wrote_more v u))

-- The bytes b of the reason q, where that is the reason r.
module _ {r q : Reason} {b : List ℕ} (e : r ≡ q) where
  -- there is room for as many
  pub reason_room : {out : Output} → length (reason_atom q) ≡ length b → Fits out (reason_atom r) → Fits out b
  reason_room d h = record { fits = omega (arith, ap (λ (x : Reason). length (reason_atom x)) e) }

  -- where they are its atom they are written as such
  pub reason_wrote : {out after : Output} → reason_atom q ≡ b → Wrote out after b → Wrote out after (reason_atom r)
  reason_wrote d h = rw (e, d) h

-- What a run's report begins with: a bracket, behind it the reason, behind that the steps.
module _ (r : Reason) (k : ℕ) {out mid : Output} (l : Blank out) (w : Wrote out mid (40 ∷ [])) where
  -- there is room for the reason
  pub start_reason : Fits mid (reason_atom r)
  start_reason = record { fits = omega (arith, reason_length r) }

  module _ {last : Output} (v : Wrote mid last (reason_atom r)) where
    -- and for the steps
    pub start_number : k < 65536 → Fits last (numeral k)
    start_number h = record { fits = omega (arith, reason_length r, numeral_length k h) }

    -- which end it
    pub start_wrote : {after : Output} → Wrote last after (numeral k) → Wrote out after (start_bytes r k)
    start_wrote u = wrote_more w (wrote_more v u)

start_length : (r : Reason) (k : ℕ) → k < 65536 → length (start_bytes r k) ≤ 15
start_length r k h = omega (arith, length-append (reason_atom r) (numeral k), reason_length r, numeral_length k h)

-- The end program: its text goes into the part of the output behind the start.
module _ (r : Reason) (k : ℕ) {table : Sheet} {count : ℕ} {out o : Output} (h : HoldsGood small_limit table count) (l : Blank out) (small : k < 65536) (w : Wrote out o (start_bytes r k)) where
  -- there is such a part
  pub start_fits : o.at ≤ 15
  start_fits = omega (arith, start_length r k small)

  module _ {v : Values} {e : List ℕ} (c : Writes small_limit table count (lent o.bytes.now o.at) v e) where
    worked : (v ≡ accepted (length (text h.program_there))) × (e ≡ front (text h.program_there) (lent o.bytes.now o.at))
    worked = good_writes h.held h.good (omega arith) (omega (arith, start_fits, lent_length o.bytes.now o.at (omega (arith, start_fits)))) c

    -- it is not refused
    pub end_not_refused : (q : Refusal) → v.refusal ≡ number q → ⊥
    end_not_refused q f = omega (arith, number_positive q, ap (λ (v : Values). v.refusal) worked.0)

    module _ {m : ℕ} (f : v ≡ accepted m) where
      counts : m ≡ length (text h.program_there)
      counts = ap (λ (v : Values). get_or v.values 0 0) (sym f ∙ worked.0)

      -- the report is short
      pub end_small : o.at + m ≤ 12 * small_limit + 15
      end_small = let g = h.good in omega (arith, start_fits, counts, text_length small_limit h.program_there (omega arith) g.ranges, g.small)

      text_wrote : Wrote o (behind o m e) (text h.program_there)
      text_wrote = rw (worked.1, counts) (part_wrote o (text h.program_there) (omega (arith, end_small, counts)))

      -- behind it there is room for the bracket
      pub end_closing : Fits (behind o m e) (41 ∷ [])
      end_closing = record { fits = omega (arith, end_small, text_wrote) }

      -- which ends the report
      pub end_written : {after : Output} → Wrote (behind o m e) after (41 ∷ []) → EndWritten small_limit r k table.numbers count out after
      end_written u = record { same = u.same ∙ w.same; fits = omega (arith, end_small); wrote = λ ts t. rw (report_is, table_of_unique t h.held.table_of) (wrote_more w (wrote_more text_wrote u)) }
