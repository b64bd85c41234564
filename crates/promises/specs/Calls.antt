-- Document 01 (d) over the calls: what each of them has to give of a program with a known end.
use Rattle.std.specs.Prelude.{◌≡◌, List, [], ◌∷◌, map, ℕ, ◌≤◌, ◌<◌, length, get_or}
use Rattle.calculus.specs.declared.Reason.TheVariants.{Ended}
use Rattle.calculus.specs.Tree.{program_of}
use Rattle.calculus.specs.Sheets.{Sheet, sheet, holds}
use Rattle.calculus.specs.Run.{size}
use Rattle.calculus.specs.Answers.{reason_code, standing_code, Values}
use Rattle.calculus.specs.Column.{column}
use Rattle.calculus.specs.Calls.{front, Reads, Writes, StepsInto, end_table, RunsWith, StandsAt}
use Rattle.calculus.specs.Known.{Known, ascii}
use Rattle.promises.specs.Worked.{Held}

-- every outcome that the calls' contracts allow is the one that the row tells, for the node limit n
pub record RightCall (n : ℕ) (k : Known) : Type 0 where
  -- its text is read into its table, and its column beside it
  pub reads : (out : Sheet) (v : Values) (o : Sheet) → 2048 ≤ holds out → Reads n (ascii k.written) out v o →
      (v ≡ record { refusal = 0; values = size k.program ∷ [] }) × (o ≡ sheet (front k.table out.numbers) (front (column (program_of k.program)) out.sizes))
  -- its table is written as its text
  pub writes : (table : Sheet) (out : List ℕ) (v : Values) (o : List ℕ) → length (ascii k.written) ≤ length out → Held n table (size k.program) (program_of k.program) → Writes n table (size k.program) out v o →
      (v ≡ record { refusal = 0; values = length (ascii k.written) ∷ [] }) × (o ≡ front (ascii k.written) out)
  -- its run of 10,000 steps in tables and columns of 2,048 nodes, or of more, ends in its end after its steps, with its counts, and the table then holds that end, with
  -- its column
  pub runs : (table work : Sheet) (v : Values) (t w : Sheet) → 2048 ≤ holds table → 2048 ≤ holds work → Held n table (size k.program) (program_of k.program) →
      RunsWith n table (size k.program) work 10000 v t w →
      (v ≡ record { refusal = 0; values = reason_code Ended ∷ size k.end ∷ k.steps ∷ k.counts }) × (t ≡ end_table table k.end) × Held n t (size k.end) (program_of k.end)
  -- a single step of its end is refused with 11
  pub single : (table out : Sheet) (v : Values) (o : Sheet) → Held n table (size k.end) (program_of k.end) → StepsInto n table (size k.end) out v o → (v.refusal ≡ 11) × (o ≡ out)
  -- the threads of its end stand as told
  pub stands : (table : Sheet) (j : ℕ) (v : Values) → j < length k.end → Held n table (size k.end) (program_of k.end) → StandsAt n table (size k.end) j v →
      v ≡ record { refusal = 0; values = get_or (map standing_code k.standings) j 0 ∷ [] }

-- of every row of a list
abbrev pub Each : (Known → Type 0) → List Known → Type 0
Each P [] = Unit {0}
Each P (k ∷ ks) = P k × Each P ks
