-- What a writer has been given: the report of an input.
use Rattle.std.specs.Prelude.{List, ℕ, take}
use Rattle.std.specs.Io.KnownBytes.{Keeps, Appends}
use Rattle.std.specs.declared.option.Option.{Option}
use Rattle.calculus.specs.Report.{Reports}
use Rattle.small.specs.Limit.{small_limit}
use Rattle.leaf.specs.Reported.{most}

-- what a writer holds has grown by the report of the input b
pub record Answers (old new : Option (List ℕ)) (b : List ℕ) : Type 0 where
  pub written : List ℕ
  pub reports : Reports small_limit most b written
  pub appends : Appends old new written

-- known bytes have grown by a front of bs
abbrev pub AppendsFront : Option (List ℕ) → Option (List ℕ) → List ℕ → Type 0
AppendsFront old new bs = (n : ℕ) × Appends old new (take n bs)

-- what a writer holds has stayed as it was, or grown by a front of the report of the input b
pub data Begins (old new : Option (List ℕ)) (b : List ℕ) : Type 0 where
  nothing : Keeps old new → Begins old new b
  some_of_it : (written : List ℕ) → Reports small_limit most b written → AppendsFront old new written → Begins old new b
