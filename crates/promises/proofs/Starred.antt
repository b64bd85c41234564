-- Document 01 (d) over the calls' contracts: the twelve marked cases as one statement over one list, for every node limit from 2,048 on. Their runs are computed once, in a
-- room of 2,048 nodes (`starred_right` of calculus): they end there, and so they are the same in every larger room.
use mathlib.Core.Path.{◌≡◌, refl, sym, ap, ◌∙◌}
use mathlib.Core.List.{List, [], ◌∷◌, ◌++◌, map}
use mathlib.Core.Option.{none}
use Prim.Native.Nat.{ℕ, ◌≤◌, ◌<◌}
use native.Mathlib.Omega.{arith}
use lib.ListN.{length, get_or}
use Rattle.calculus.specs.declared.Reason.TheVariants.{Ended, Room}
use Rattle.calculus.specs.declared.Standing.{Standing}
use Rattle.calculus.specs.Tree.{term, Tree, preorder, nodes, program_of}
use Rattle.calculus.specs.Good.{InRange, Closed, All, Good}
use Rattle.calculus.specs.Step.{step, standing}
use Rattle.calculus.specs.Sheets.{Sheet, sheet, holds}
use Rattle.calculus.specs.Run.{End, size, run, room_of}
use Rattle.calculus.specs.Tally.{run_counts}
use Rattle.calculus.specs.Text.{text}
use Rattle.calculus.specs.Column.{column}
use Rattle.calculus.specs.Answers.{reason_code, standing_code, Values, six}
use Rattle.calculus.specs.Calls.{front, Reads, Writes, StepsInto, end_table, RunsWith, thread_refusals, StandsAt, stands, not_stood}
use Rattle.calculus.specs.Known.{Known, Outcome, ascii, found, expected, AllRight, starred}
use Rattle.calculus.proofs.Preorders.{threads_of_program}
use Rattle.calculus.proofs.Refusals.{accepted_not_refused}
use Rattle.calculus.proofs.Tallies.{run_roomy}
use Rattle.calculus.proofs.Preservation.{run_good}
use Rattle.calculus.proofs.Ends.{starred_right}
use Rattle.mespindro.specs.Limit.{limit}
use Rattle.small.specs.Limit.{small_limit}
use Rattle.promises.specs.Worked.{Held}
use Rattle.promises.specs.Calls.{RightCall, Each}
use Rattle.promises.proofs.Admitted.{good_read_only, good_written_only}
use Rattle.promises.proofs.Worked.{end_held, good_stopped, good_runs}
use Rattle.promises.proofs.Heads.{stands_accepted, threads_there}
use Rattle.promises.proofs.Excluded.{closures, OneAtMost, one_good}

-- a row's program fits the limit, is in range and closed, and has at most one allocated abstraction in a thread
abbrev Checked : ℕ → Known → Type 0
Checked n k = let p = program_of k.program in (nodes p ≤ n) × InRange n p × Closed 0 p × All (λ t. OneAtMost (closures t)) k.program

starred_checked : (n : ℕ) → 2048 ≤ n → Each (Checked n) starred
unfolding starred nodes program_of closures
starred_checked n l = (omega arith, (omega arith, (omega arith, (omega arith, (omega arith, (omega arith, (omega arith, (omega arith, (omega arith, (omega arith, (omega arith, (omega arith, tt))))))))))))

checked_good : (n : ℕ) (k : Known) → Checked n k → Good n (program_of k.program)
checked_good n k c = one_good k.program c.0 c.1 c.2 c.3

-- how the thread behind these stands
code_there : (before : List (Tree term)) (t : Tree term) (after : List (Tree term)) → get_or (map standing_code (map standing (before ++ (t ∷ after)))) (length before) 0 ≡ standing_code (standing t)
code_there [] t after = refl
code_there (b ∷ before) t after = code_there before t after

-- A row that the definitions compute as it is told, with a good program: every call gives what it tells.
module _ (n : ℕ) (low : 2048 ≤ n) (high : n ≤ 65536) (k : Known) (e : found k ≡ expected k) (g : Good n (program_of k.program)) (size_small : size k.program ≤ 2048) where
  is_table : preorder (program_of k.program) ≡ k.table
  unfolding found expected
  is_table = ap (λ (o : Outcome). o.table) e

  is_text : text (program_of k.program) ≡ ascii k.written
  unfolding found expected
  is_text = ap (λ (o : Outcome). o.text) e

  is_run : run 2048 10000 k.program ≡ record { reason = Ended; taken = k.steps; last = k.end }
  unfolding found expected
  is_run = ap (λ (o : Outcome). o.run) e

  is_counts : six (run_counts 2048 10000 k.program) ≡ k.counts
  unfolding found expected
  is_counts = ap (λ (o : Outcome). o.counts) e

  is_end : (run 2048 10000 k.program).last ≡ k.end
  is_end = ap (λ (r : End (List (Tree term))). r.last) is_run

  end_standings : map standing k.end ≡ k.standings
  unfolding found expected
  end_standings = ap (map standing) (sym is_end) ∙ ap (λ (o : Outcome). o.standings) e

  end_single : step k.end ≡ none
  unfolding found expected
  end_single = ap step (sym is_end) ∙ ap (λ (o : Outcome). o.single) e

  -- it ends, and not by room
  not_room : (run 2048 10000 k.program).reason ≡ Room → ⊥
  not_room f = omega (arith, ap reason_code (sym f ∙ ap (λ (r : End (List (Tree term))). r.reason) is_run))

  -- so in every larger room
  is_roomy : {room : ℕ} → 2048 ≤ room → (run room 10000 k.program ≡ record { reason = Ended; taken = k.steps; last = k.end }) × (six (run_counts room 10000 k.program) ≡ k.counts)
  is_roomy l = let r = run_roomy 10000 k.program l not_room in (r.0 ∙ is_run, ap six r.1 ∙ is_counts)

  end_good : Good n (program_of k.end)
  end_good = rw is_end at (run_good n 2048 10000 k.program g (omega arith))

  reads_right : (out : Sheet) (v : Values) (o : Sheet) → 2048 ≤ holds out → Reads n (ascii k.written) out v o →
      (v ≡ record { refusal = 0; values = size k.program ∷ [] }) × (o ≡ sheet (front k.table out.numbers) (front (column (program_of k.program)) out.sizes))
  reads_right out v o l r =
      let z = good_read_only g (omega arith) (omega (arith, size_small)) (rw (← is_text) at r) in
      (z.0, z.1 ∙ ap (λ (t : List ℕ). sheet (front t out.numbers) (front (column (program_of k.program)) out.sizes)) is_table)

  writes_right : (table : Sheet) (out : List ℕ) (v : Values) (o : List ℕ) → length (ascii k.written) ≤ length out → Held n table (size k.program) (program_of k.program) → Writes n table (size k.program) out v o →
      (v ≡ record { refusal = 0; values = length (ascii k.written) ∷ [] }) × (o ≡ front (ascii k.written) out)
  writes_right table out v o l h r = rw is_text at (good_written_only g h (rw is_text l) r)

  runs_right : (table work : Sheet) (v : Values) (t w : Sheet) → 2048 ≤ holds table → 2048 ≤ holds work → Held n table (size k.program) (program_of k.program) →
      RunsWith n table (size k.program) work 10000 v t w →
      (v ≡ record { refusal = 0; values = reason_code Ended ∷ size k.end ∷ k.steps ∷ k.counts }) × (t ≡ end_table table k.end) × Held n t (size k.end) (program_of k.end)
  runs_right table work v t w l m h r =
      let a = is_roomy {room = room_of n table work} (omega arith) in
      let z = rw (threads_of_program k.program, a.0, a.1) at (good_runs h g (omega (arith, size_small)) r) in
      (z.0, z.1, rw z.1 (end_held table k.end end_good))

  single_right : (table out : Sheet) (v : Values) (o : Sheet) → Held n table (size k.end) (program_of k.end) → StepsInto n table (size k.end) out v o → (v.refusal ≡ 11) × (o ≡ out)
  single_right table out v o h r =
      let z = good_stopped h end_good (ap step (threads_of_program k.end) ∙ end_single) r in
      (ap (λ (x : Values). x.refusal) z.0, z.1)

  stands_right : (table : Sheet) (j : ℕ) {v : Values} → j < length k.end → Held n table (size k.end) (program_of k.end) → StandsAt n table (size k.end) j v →
      v ≡ record { refusal = 0; values = get_or (map standing_code k.standings) j 0 ∷ [] }
  stands_right table j l h (stands t a o) =
      let c : get_or (map standing_code (map standing k.end)) j 0 ≡ standing_code (standing t) =
      ap (λ (ts : List (Tree term)). get_or (map standing_code (map standing ts)) j 0) (sym (threads_of_program k.end) ∙ threads_there (program_of k.end) h.table_of o) ∙
      ap (λ (i : ℕ). get_or (map standing_code (map standing (o.before ++ (t ∷ o.after)))) i 0) (sym o.place) ∙
      code_there o.before t o.after in
      ap (λ (m : ℕ). record { refusal = 0; values = m ∷ [] }) (sym c ∙ ap (λ (ss : List Standing). get_or (map standing_code ss) j 0) end_standings)
  stands_right table j l h (not_stood q i) =
      absurd (accepted_not_refused (thread_refusals n table (size k.end) j) q (stands_accepted j h end_good (omega (arith, ap length (threads_of_program k.end)))) i)

  -- every call gives what the row tells
  pub right : RightCall n k
  right = record { reads = reads_right; writes = writes_right; runs = runs_right; single = single_right; stands = λ table j v l h r. stands_right table j l h r }

-- an equation of lists, row by row
rows : (ks : List Known) → AllRight ks → Each (λ k. found k ≡ expected k) ks
rows [] h = tt
rows (k ∷ ks) h = ((cc), rows ks (cc))

all_right : (n : ℕ) → 2048 ≤ n → n ≤ 65536 → (ks : List Known) → Each (λ k. found k ≡ expected k) ks → Each (Checked 2048) ks → Each (Checked n) ks → Each (RightCall n) ks
all_right n l h [] e s c = tt
all_right n l h (k ∷ ks) e s c = (right n l h k e.0 (checked_good n k c.0) s.0.0, all_right n l h ks e.1 s.1 c.1)

-- Document 01's twelve marked cases hold of the calls, for every such limit,
pub starred_calls : (n : ℕ) → 2048 ≤ n → n ≤ 65536 → Each (RightCall n) starred
starred_calls n l h = all_right n l h starred (rows starred starred_right) (starred_checked 2048 (omega arith)) (starred_checked n l)

-- and so at both sizes.
pub starred_plain : Each (RightCall limit) starred
starred_plain = starred_calls limit (omega arith) (omega arith)

pub starred_small : Each (RightCall small_limit) starred
starred_small = starred_calls small_limit (omega arith) (omega arith)
