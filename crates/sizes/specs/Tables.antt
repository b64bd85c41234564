-- Request 6, of tables: the same lent buffers at the node limit n and at a limit m that is no smaller. Where 1 is not given at n, a program within n stands in the table,
-- and every call gives at m what it gives at n, refused or not, in values and in buffers, but for a step whose result is beyond n and a run that stopped by room and has more at m.
use Rattle.std.specs.Prelude.{◌≡◌, ◌⊎◌, List, ℕ, ◌≤◌, min, get_or}
use Rattle.calculus.specs.Sheets.{Sheet, holds}
use Rattle.calculus.specs.Answers.{Values}
use Rattle.calculus.specs.Calls.{no_program, Writes, StepsInto, RunsWith, StandsAt, PartAt}

-- what comes at m of a step whose result is beyond n: it is made, or is beyond m too, or does not fit the output
abbrev pub BeyondStep : ℕ → Type 0
BeyondStep r = (r ≡ 0) ⊎ ((r ≡ 7) ⊎ (r ≡ 9))

module _ (n m : ℕ) (table : Sheet) (count : ℕ) where
  pub record SameCalls : Type 0 where
    pub writes : (out : List ℕ) (v v' : Values) (o o' : List ℕ) → Writes n table count out v o → (v.refusal ≡ 1 → ⊥) → Writes m table count out v' o' → (v' ≡ v) × (o' ≡ o)
    -- "the same lent tables give the same run": where one of the tables, or of their columns, holds at most n nodes
    pub runs : (work : Sheet) (most : ℕ) (v v' : Values) (t t' w w' : Sheet) → min (holds table) (holds work) ≤ n → RunsWith n table count work most v t w → (v.refusal ≡ 1 → ⊥) → RunsWith m table count work most v' t' w' → (v' ≡ v) × (t' ≡ t) × (w' ≡ w)
    -- and in any, where it did not stop by room, the reason 3
    pub roomy : (work : Sheet) (most : ℕ) (v v' : Values) (t t' w w' : Sheet) → RunsWith n table count work most v t w → (v.refusal ≡ 1 → ⊥) → (get_or v.values 0 0 ≡ 3 → ⊥) → RunsWith m table count work most v' t' w' → (v' ≡ v) × (t' ≡ t) × (w' ≡ w)
    pub stands : (k : ℕ) (v v' : Values) → StandsAt n table count k v → (v.refusal ≡ 1 → ⊥) → StandsAt m table count k v' → v' ≡ v
    -- the thread call tells no number
    pub parts : (k start start' : ℕ) (part part' : List ℕ) → ((no_program n table.numbers count).1 → ⊥) → PartAt n table count k start part → PartAt m table count k start' part' → (start' ≡ start) × (part' ≡ part)
    pub steps : (out : Sheet) (v v' : Values) (o o' : Sheet) → StepsInto n table count out v o → (v.refusal ≡ 1 → ⊥) → (v.refusal ≡ 7 → ⊥) → StepsInto m table count out v' o' → (v' ≡ v) × (o' ≡ o)
    pub steps_beyond : (out : Sheet) (v v' : Values) (o o' : Sheet) → StepsInto n table count out v o → v.refusal ≡ 7 → StepsInto m table count out v' o' → BeyondStep v'.refusal

abbrev pub SameTables : ℕ → ℕ → Type 0
SameTables n m = (table : Sheet) (count : ℕ) → SameCalls n m table count
