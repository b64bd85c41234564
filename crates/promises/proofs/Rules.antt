-- Request 2 over the calls: the sum of a run's counts, what becomes of them with further alternatives and with further steps, and the thread of one step after another.
use mathlib.Core.Path.{◌≡◌, refl, sym, ap, ap₂, ◌∙◌}
use mathlib.Core.List.{List, ◌++◌}
use mathlib.Core.Option.{some}
use Prim.Native.Nat.{ℕ, ◌+◌, ◌-◌}
use native.Mathlib.Omega.{arith}
use lib.ListN.{length, get_or, replicate}
use Rattle.calculus.specs.declared.Reason.TheVariants.{Steps}
use Rattle.calculus.specs.declared.Rule.{Rule}
use Rattle.calculus.specs.declared.Rule.TheVariants.{Alloc, Beta, Fresh, Guard, Unif, Fail}
use Rattle.calculus.specs.declared.Counts.{Counts}
use Rattle.calculus.specs.Tree.{term, Tree, preorder, threads, program_of}
use Rattle.calculus.specs.Step.{step}
use Rattle.calculus.specs.Sheets.{Sheet, sheet}
use Rattle.calculus.specs.Run.{End, size, run, room_of}
use Rattle.calculus.specs.Tally.{count_of, run_counts}
use Rattle.calculus.specs.Column.{column}
use Rattle.calculus.specs.Answers.{reason_code}
use Rattle.calculus.specs.Calls.{TableOf, end_table, values_of_run}
use Rattle.calculus.proofs.Preorders.{threads_of_program, program_of_threads}
use Rattle.calculus.proofs.Answers.{reason_injective, rule_range}
use Rattle.calculus.proofs.Outcomes.{table_of_unique}
use Rattle.calculus.proofs.Steps.{chosen_step}
use Rattle.calculus.proofs.Tallies.{counts_behind, run_on, counts_add, thread_never_falls}
use Rattle.promises.specs.Heads.{size_told, Run}
use Rattle.promises.specs.Rules.{reason_told, count_told, SumTold, NoCountFalls, CountsAddUp, nodes_told, RuleTold, ThreadNeverFalls}
use Rattle.promises.proofs.Refused.{runs_exactly, run_length}
use Rattle.promises.proofs.Worked.{run_gives, step_gives, runs_as}
use Rattle.promises.proofs.Heads.{behind_there, end_is, end_there}

-- the count told for a rule is that rule's
count_is : (r : Rule) (e : End (List (Tree term))) (c : Counts) → count_told r (values_of_run e c) ≡ count_of r c
count_is Alloc e c = refl
count_is Beta e c = refl
count_is Fresh e c = refl
count_is Guard e c = refl
count_is Unif e c = refl
count_is Fail e c = refl

-- "Their sum is the step count."
pub sum_told : SumTold
sum_told n a = let h = run_gives a.runs a.accepted in rw h.values h.summed

-- what an accepted run of these threads tells and leaves
record RunOf (n : ℕ) (a : Run n) (p : List (Tree term)) : Type 0 where
  told : let room = room_of n a.table a.work in a.told ≡ values_of_run (run room a.limit p) (run_counts room a.limit p)
  left : a.left ≡ end_table a.table (run (room_of n a.table a.work) a.limit p).last

run_these : {n : ℕ} (a : Run n) (p : List (Tree term)) → TableOf n a.table.numbers a.count (program_of p) → RunOf n a p
run_these a p f = let e = rw (threads_of_program p) at (runs_as ((runs_exactly a.runs).accepted_only a.accepted) f a.runs) in record { told = e.0; left = e.1 }

counts_told : {n : ℕ} {a : Run n} {p : List (Tree term)} → RunOf n a p → (r : Rule) → count_told r a.told ≡ count_of r (run_counts (room_of n a.table a.work) a.limit p)
counts_told {n} {a} {p} h r =
    let room = room_of n a.table a.work in
    ap (count_told r) h.told ∙ count_is r (run room a.limit p) (run_counts room a.limit p)

-- with further alternatives behind, as many steps and room for them, no count falls
pub no_count_falls : NoCountFalls
no_count_falls n a b f r =
    let h = behind_there n a b f in
    omega (arith, counts_told (run_these a h.these h.first) r, counts_told (run_these b (h.these ++ h.others) h.second) r, counts_behind h.these h.others a.limit b.limit (room_of n a.table a.work) (room_of n b.table b.work) f.steps h.room r)

-- The run a stopped by steps, b goes on with what it left, `whole` is the one run.
pub counts_add_up : CountsAddUp
counts_add_up n a b whole g =
    let h = run_gives a.runs a.accepted in
    let p = threads h.program in
    let room = room_of n a.table a.work in
    let there : TableOf n a.table.numbers a.count (program_of p) = rw program_of_threads h.there.table_of in
    let first = run_these a p there in
    let E = (run room a.limit p).last in
    let next : TableOf n b.table.numbers b.count (program_of E) = rw (g.table, g.count, ← end_is h p there) (end_there h).table_of in
    let second = run_these b E next in
    let all : TableOf n whole.table.numbers whole.count (program_of p) = rw (g.whole_table, g.whole_count) there in
    let third = run_these whole p all in
    let stopped : (run room a.limit p).reason ≡ Steps = reason_injective (run room a.limit p).reason Steps (sym (ap reason_told first.told) ∙ g.by_steps) in
    let add : (r : Rule) → count_told r whole.told ≡ count_told r a.told + count_told r b.told =
    λ r. let x = rw (g.whole_room, g.whole_steps) at (counts_told third r) in let y = rw g.room at (counts_told second r) in omega (arith, x, y, counts_told first r, counts_add room a.limit b.limit p stopped r) in
    let lengths = (run_length a.runs).0 in
    let long : length whole.table.numbers ≡ length b.table.numbers = ap (λ (s : Sheet). length s.numbers) g.whole_table ∙ sym lengths.0 ∙ sym (ap (λ (s : Sheet). length s.numbers) g.table) in
    let wide : length whole.table.sizes ≡ length b.table.sizes = ap (λ (s : Sheet). length s.sizes) g.whole_table ∙ sym lengths.1 ∙ sym (ap (λ (s : Sheet). length s.sizes) g.table) in
    let one = run_on room a.limit b.limit p stopped in
    let last : (run room (a.limit + b.limit) p).last ≡ (run room b.limit E).last = ap (λ (e : End (List (Tree term))). e.last) one in
    let told = rw (g.whole_room, g.whole_steps) at third.told in
    let told_on = rw g.room at second.told in
    record {
      reason = ap reason_told told ∙ ap (λ (e : End (List (Tree term))). reason_code e.reason) one ∙ sym (ap reason_told told_on);
      nodes = ap size_told told ∙ ap size last ∙ sym (ap size_told told_on);
      counts = add;
      steps = omega (arith, sum_told n a, sum_told n b, sum_told n whole, add Alloc, add Beta, add Fresh, add Guard, add Unif, add Fail);
      left = (rw (g.whole_room, g.whole_steps, last) at third.left) ∙ same_end whole.table b.table (run room b.limit E).last long wide ∙ sym (rw g.room at second.left);
    }
  where
    -- an end is left alike in tables and columns of the same lengths
    same_end : (s t : Sheet) (q : List (Tree term)) → length s.numbers ≡ length t.numbers → length s.sizes ≡ length t.sizes → end_table s q ≡ end_table t q
    same_end s t q e f = let l = preorder (program_of q) in let c = column (program_of q) in ap₂ (λ (m k : ℕ). sheet (l ++ replicate (m - length l) 0) (c ++ replicate (k - length c) 0)) e f

-- an accepted step tells a rule
pub single_tells_rule : RuleTold
single_tells_rule n a = let h = step_gives a.steps a.accepted in rw h.values (rule_range h.step.rule)

-- from one single step to the next the thread told never falls
pub single_never_falls : ThreadNeverFalls
single_never_falls n a b t c =
    let h = step_gives a.steps a.accepted in
    let k = step_gives b.steps b.accepted in
    let told : nodes_told a.told ≡ size h.step.result = ap (λ (l : List ℕ). get_or l 0 0) h.values in
    let there : TableOf n b.table.numbers b.count (program_of h.step.result) = rw (t, c, told) h.back.table_of in
    let same : threads k.program ≡ h.step.result = ap threads (table_of_unique k.there.table_of there) ∙ threads_of_program h.step.result in
    let one : step (threads h.program) ≡ some h.step = chosen_step (threads h.program) h.good.coherent h.chosen in
    let two : step h.step.result ≡ some k.step = rw same at (chosen_step (threads k.program) k.good.coherent k.chosen) in
    omega (arith, thread_never_falls (threads h.program) one two, ap (λ (l : List ℕ). get_or l 2 0) h.values, ap (λ (l : List ℕ). get_or l 2 0) k.values)
