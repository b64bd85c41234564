-- Demand 1, what comes out is admitted again, on numbers alone: of what read, step and run leave, with the count that they tell, no call gives 1, 14, 6 or 8.
use Rattle.std.specs.Prelude.{◌≡◌, ◌⊎◌, List, ℕ, get_or}
use Rattle.calculus.specs.Sheets.{Sheet}
use Rattle.calculus.specs.Answers.{Values}
use Rattle.calculus.specs.Calls.{Reads, Writes, StepsInto, RunsWith, StandsAt}

-- each call on the table, its column and its count accepts, or gives a number that tells of something else; the thread call gives none
pub record Admits (n : ℕ) (table : Sheet) (count : ℕ) : Type 0 where
  pub writes : (out : List ℕ) (v : Values) (o : List ℕ) → Writes n table count out v o → (v.refusal ≡ 0) ⊎ (v.refusal ≡ 9)
  pub steps : (out : Sheet) (v : Values) (o : Sheet) → StepsInto n table count out v o → (v.refusal ≡ 0) ⊎ ((v.refusal ≡ 7) ⊎ ((v.refusal ≡ 9) ⊎ (v.refusal ≡ 11)))
  pub runs : (work : Sheet) (limit : ℕ) (v : Values) (t w : Sheet) → RunsWith n table count work limit v t w → (v.refusal ≡ 0) ⊎ (v.refusal ≡ 9)
  pub stands : (k : ℕ) (v : Values) → StandsAt n table count k v → (v.refusal ≡ 0) ⊎ (v.refusal ≡ 10)

-- so is what an accepted read, step and run leave, with the column that they leave: read and step tell the nodes first, a run second
pub record AdmittedAgain : Type 0 where
  pub read : (n : ℕ) (b : List ℕ) (out : Sheet) (v : Values) (o : Sheet) → Reads n b out v o → v.refusal ≡ 0 → Admits n o (get_or v.values 0 0)
  pub stepped : (n : ℕ) (table : Sheet) (count : ℕ) (out : Sheet) (v : Values) (o : Sheet) → StepsInto n table count out v o → v.refusal ≡ 0 → Admits n o (get_or v.values 0 0)
  pub ran : (n : ℕ) (table : Sheet) (count : ℕ) (work : Sheet) (limit : ℕ) (v : Values) (t w : Sheet) → RunsWith n table count work limit v t w → v.refusal ≡ 0 → Admits n t (get_or v.values 1 0)
