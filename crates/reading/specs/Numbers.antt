-- What the bytes of an N are: the plain decimal of a number below a bound, or of none.
use Rattle.std.specs.Prelude.{◌≡◌, List, [], ◌∷◌, ℕ, ◌<◌, Option, Some, None}
use Rattle.calculus.specs.declared.Refusal.TheVariants.{BadNumber}
use Rattle.calculus.specs.Sexp.{decimal}
use Rattle.calculus.specs.Answers.{number, Values}

-- document 01's number and value for each answer
abbrev pub number_values : Option ℕ → Values
number_values None = record { refusal = number BadNumber; values = 0 ∷ [] }
number_values (Some v) = record { refusal = 0; values = v ∷ [] }

pub data NumberIs (b : List ℕ) (below : ℕ) : Values → Type 0 where
  is : (v : ℕ) → v < below → b ≡ decimal v → NumberIs b below (record { refusal = 0; values = v ∷ [] })
  bad : ((v : ℕ) → v < below → b ≡ decimal v → ⊥) → NumberIs b below (record { refusal = number BadNumber; values = 0 ∷ [] })
