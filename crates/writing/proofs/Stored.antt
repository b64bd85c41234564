-- What the writing call answers, from the check of its table with its column and from the length of the text.
use mathlib.Core.Path.{◌≡◌, refl, ap}
use mathlib.Core.Logic.{inl}
use mathlib.Core.List.{List, [], ◌∷◌}
use Prim.Native.Nat.{ℕ, ◌+◌, ◌≤◌, ◌<◌}
use native.Mathlib.Omega.{arith}
use lib.ListN.{length}
use Rattle.std.specs.Prelude.{Result, Err}
use Rattle.calculus.specs.declared.Refusal.{Refusal}
use Rattle.calculus.specs.declared.Refusal.TheVariants.{NoRoom}
use Rattle.calculus.specs.Tree.{program, Tree, nodes}
use Rattle.calculus.specs.Text.{text}
use Rattle.calculus.specs.Answers.{number}
use Rattle.calculus.specs.Sheets.{Sheet}
use Rattle.calculus.specs.Calls.{Refusals, TableOf, table_refusals, Writes, written, not_written}
use Rattle.calculus.proofs.Outcomes.{table_of_unique}
use Rattle.table.specs.Checks.{checked_number}
use Rattle.table.proofs.Sets.{sets_front}
use Rattle.table.proofs.Trees.{one_tree}
use Rattle.table.proofs.Verdicts.{refuses_early, refuses_late, accepts_both, table_stands}
use Rattle.column.specs.Admissions.{ChecksWith}
use Rattle.column.proofs.Admissions.{HeldIn, refused_with}
use Rattle.writing.specs.Writing.{CountedProgram, TextLength, RoomForText, CellsForText, TextWritten}

-- the last refusal of the writing call
abbrev no_room : ℕ → List ℕ → ℕ → List ℕ → Refusals
no_room n t count out = (NoRoom, (p : Tree program) × (TableOf n t count p × (length out < length (text p)))) ∷ []

module _ {n : ℕ} {table : Sheet} {count : ℕ} {out : List ℕ} where
  -- the check refuses
  pub write_refused : {r : Result Unit Refusal} {q : Refusal} → r ≡ Err q → ChecksWith n table count (checked_number r) → Writes n table count out (record { refusal = number q; values = 0 ∷ [] }) out
  write_refused {q = q} e h = not_written q (refuses_early (no_room n table.numbers count out) (table_refusals n table count) q (refused_with e h))

module _ {n : ℕ} {table : Sheet} {count : ℕ} (a : HeldIn n table count) where
  abbrev t : List ℕ
  t = table.numbers

  -- an admitted program has its nodes counted
  pub counted : CountedProgram t count
  counted = record { program_there = a.program_there; stands = table_stands a.table_of; counts = a.table_of.counts }

  -- and a scratch that serves the check has a cell for each
  pub write_cells : (scratch : List ℕ) → n + 2 ≤ length scratch → CellsForText t scratch
  write_cells scratch h = record {
    enough = λ p g. omega (arith, a.table_of.small, a.table_of.counts, ap nodes (one_tree p a.program_there g (table_stands a.table_of)));
  }

  module _ {out : List ℕ} {r : ℕ} (l : TextLength t r) where
    -- its text is longer than the output
    pub write_no_room : length out < r → Writes n table count out (record { refusal = 9; values = 0 ∷ [] }) out
    write_no_room h =
        let e = l.is a.program_there (table_stands a.table_of) in
        not_written NoRoom (refuses_late (no_room n t count out) (table_refusals n table count) NoRoom a.accepts (inl ((a.program_there, (a.table_of, omega arith)), refl)))

    -- or the output holds it
    pub write_room : r ≤ length out → RoomForText t out
    write_room h = record { program_there = a.program_there; stands = table_stands a.table_of; room = omega (arith, l.is a.program_there (table_stands a.table_of)) }

    -- and it is written
    pub write_written : {after : List ℕ} → r ≤ length out → TextWritten t out after → Writes n table count out (record { refusal = 0; values = r ∷ [] }) after
    write_written h w =
        let p = a.program_there in
        let o = a.table_of in
        let e = l.is p (table_stands o) in
        let fits : (q : Tree program) × (TableOf n t count q × (length out < length (text q))) → ⊥ = λ f. omega (arith, f.1.1, ap (λ (q : Tree program). length (text q)) (table_of_unique f.1.0 o)) in
        rw (w.is p (table_stands o), sets_front (text p) out (omega arith), e) (written p (accepts_both (no_room n t count out) (table_refusals n table count) a.accepts (fits, tt)) o)
