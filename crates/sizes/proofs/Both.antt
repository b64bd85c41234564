-- "Prove the facts once over the limit and use them for both sizes."
use Prim.Native.Nat.{ℕ, ◌≤◌}
use native.Mathlib.Omega.{arith}
use Rattle.calculus.specs.Tree.{program, Tree, threads}
use Rattle.calculus.specs.Run.{finished_head}
use Rattle.calculus.specs.Calls.{TableOf}
use Rattle.mespindro.specs.Limit.{limit}
use Rattle.small.specs.Limit.{small_limit}
use Rattle.promises.specs.Heads.{size_told, Run, Further, SameHead}
use Rattle.promises.proofs.Heads.{demand_three_tables}
use Rattle.sizes.specs.Both.{TwoSizes}
use Rattle.sizes.proofs.Texts.{stored_texts, old_leaf, old_report, same_reads, kept_refusals}
use Rattle.sizes.proofs.Tables.{same_tables}

-- of any two limits,
pub two_sizes : (n m : ℕ) → n ≤ m → m ≤ 65536 → TwoSizes n m
two_sizes n m l k = record { stored = stored_texts n m l k; old_leaf = old_leaf n m l k; old_report = old_report n m l k; reads = same_reads n m l k; kept = kept_refusals n m l; tables = same_tables n m l }

-- and so of those of the small calls and of the plain ones
pub at_both : TwoSizes small_limit limit
at_both = two_sizes small_limit limit (omega arith) (omega arith)

-- "In demand 3 the limit is the one in force": that of the calls which are made, at either size
pub demand_three_plain : (a b : Run limit) → Further limit a b → (e : Tree program) → TableOf limit a.left.numbers (size_told a.told) e → SameHead limit a b (finished_head (threads e))
demand_three_plain = demand_three_tables limit

pub demand_three_small : (a b : Run small_limit) → Further small_limit a b → (e : Tree program) → TableOf small_limit a.left.numbers (size_told a.told) e → SameHead small_limit a b (finished_head (threads e))
demand_three_small = demand_three_tables small_limit
