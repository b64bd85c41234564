-- Request 2 over the calls, on numbers alone: what a run's six counts and a step's thread are, from one call to another.
use Rattle.std.specs.Prelude.{◌≡◌, ℕ, ◌+◌, ◌≤◌, get_or}
use Rattle.calculus.specs.declared.Rule.{Rule}
use Rattle.calculus.specs.declared.Rule.TheVariants.{Alloc, Beta, Fresh, Guard, Unif, Fail}
use Rattle.calculus.specs.Sheets.{Sheet}
use Rattle.calculus.specs.Run.{room_of}
use Rattle.calculus.specs.Answers.{rule_code, Values}
use Rattle.calculus.specs.Calls.{StepsInto}
use Rattle.promises.specs.Heads.{size_told, Run, Further}

-- what an accepted run tells: the reason's code first, the steps as the third of its values, and then the count of each rule, in document 01's order
abbrev pub reason_told : Values → ℕ
reason_told v = get_or v.values 0 0

abbrev pub steps_told : Values → ℕ
steps_told v = get_or v.values 2 0

abbrev pub count_told : Rule → Values → ℕ
count_told r v = get_or v.values (2 + rule_code r) 0

-- "Their sum is the step count."
abbrev pub SumTold : Type 0
SumTold = (n : ℕ) (a : Run n) → let v = a.told in count_told Alloc v + count_told Beta v + count_told Fresh v + count_told Guard v + count_told Unif v + count_told Fail v ≡ steps_told v

-- with further alternatives behind, at least as many steps and room larger by at least the nodes that these add, no count falls
abbrev pub NoCountFalls : Type 0
NoCountFalls = (n : ℕ) (a b : Run n) → Further n a b → (r : Rule) → count_told r a.told ≤ count_told r b.told

-- The run a stopped by steps, b goes on with what it left, the column too, in the same room; `whole` is the one run of as many steps, in the same room.
pub record GoneOn (n : ℕ) (a b whole : Run n) : Type 0 where
  pub by_steps : reason_told a.told ≡ 2
  pub table : b.table ≡ a.left
  pub count : b.count ≡ size_told a.told
  pub room : room_of n b.table b.work ≡ room_of n a.table a.work
  pub whole_table : whole.table ≡ a.table
  pub whole_count : whole.count ≡ a.count
  pub whole_room : room_of n whole.table whole.work ≡ room_of n a.table a.work
  pub whole_steps : whole.limit ≡ a.limit + b.limit

-- then the counts of a and b add up to those of the one run, and b stops as that one stops and leaves what it leaves
pub record AddsUp (n : ℕ) (a b whole : Run n) : Type 0 where
  pub reason : reason_told whole.told ≡ reason_told b.told
  pub nodes : size_told whole.told ≡ size_told b.told
  pub counts : (r : Rule) → count_told r whole.told ≡ count_told r a.told + count_told r b.told
  pub steps : steps_told whole.told ≡ steps_told a.told + steps_told b.told
  pub left : whole.left ≡ b.left

abbrev pub CountsAddUp : Type 0
CountsAddUp = (n : ℕ) (a b whole : Run n) → GoneOn n a b whole → AddsUp n a b whole

-- An accepted step with the node limit n: what was lent, what it told, what it left in the output.
pub record Single (n : ℕ) : Type 0 where
  pub table : Sheet
  pub count : ℕ
  pub out : Sheet
  pub told : Values
  pub left : Sheet
  pub steps : StepsInto n table count out told left
  pub accepted : told.refusal ≡ 0

-- the nodes, the rule and the thread that it tells
abbrev pub nodes_told : Values → ℕ
nodes_told v = get_or v.values 0 0

abbrev pub rule_told : Values → ℕ
rule_told v = get_or v.values 1 0

abbrev pub thread_told : Values → ℕ
thread_told v = get_or v.values 2 0

-- an accepted step tells a rule, 1 to 6: with 0 the call was refused
abbrev pub RuleTold : Type 0
RuleTold = (n : ℕ) (a : Single n) → (1 ≤ rule_told a.told) × (rule_told a.told ≤ 6)

-- from one single step to the next the thread told never falls
abbrev pub ThreadNeverFalls : Type 0
ThreadNeverFalls = (n : ℕ) (a b : Single n) → b.table.numbers ≡ a.left.numbers → b.count ≡ nodes_told a.told → thread_told a.told ≤ thread_told b.told
