-- Request 6 in one: what holds of a node limit n and of a limit m that is no smaller.
use Rattle.std.specs.Prelude.{ℕ}
use Rattle.sizes.specs.Texts.{StoredTexts, OldLeaf, OldReport, SameReads, KeptRefusals}
use Rattle.sizes.specs.Tables.{SameTables}

pub record TwoSizes (n m : ℕ) : Type 0 where
  pub stored : StoredTexts n m
  pub old_leaf : OldLeaf n m
  pub old_report : OldReport n m
  pub reads : SameReads n m
  pub kept : KeptRefusals n m
  pub tables : SameTables n m
