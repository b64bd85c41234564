-- The thread calls, from the check of a table with its column and the place of a thread.
use mathlib.Core.Path.{◌≡◌, refl, ap, ◌∙◌}
use mathlib.Core.Logic.{inl}
use mathlib.Core.List.{List, [], ◌∷◌, ◌++◌}
use Prim.Native.Nat.{ℕ, ◌+◌, ◌*◌, ◌-◌, ◌≤◌, ◌<◌}
use native.Mathlib.Omega.{arith}
use Rattle.std.specs.Prelude.{Option, Some, None, Result, Ok, Err}
use lib.ListN.{length, get_or, take, drop, length-append}
use Rattle.calculus.specs.declared.Refusal.{Refusal}
use Rattle.calculus.specs.declared.Refusal.TheVariants as refusal
use Rattle.calculus.specs.Tree.{term, program, Tree, nodes, threads, program_of}
use Rattle.calculus.specs.Answers.{Values}
use Rattle.calculus.specs.Sheets.{Sheet}
use Rattle.calculus.specs.Column.{ColumnOf}
use Rattle.calculus.specs.Calls.{Refusals, Accepts, Refuses, TableOf, table_refusals, thread_refusals, ThreadOf, nodes_before, PartAt, part, no_part}
use Rattle.calculus.proofs.Outcomes.{table_of_unique}
use Rattle.calculus.proofs.Preorders.{nodes_positive, threads_of_program}
use Rattle.calculus.proofs.Columns.{size_behind, spine_length, spine_place}
use Rattle.table.specs.Nodes.{Stands}
use Rattle.table.specs.Checks.{checked_number}
use Rattle.table.proofs.Trees.{one_tree, see, moved, ends_in, own_part}
use Rattle.table.proofs.Verdicts.{refuses_early, refuses_late, accepts_both, table_stands}
use Rattle.column.specs.Sizes.{SizeAt}
use Rattle.column.specs.Admissions.{ChecksWith}
use Rattle.column.proofs.Locals.{column_sizes}
use Rattle.column.proofs.Admissions.{HeldIn, held_there, refused_with}
use Rattle.threads.specs.Places.{ProgramAt, place_values, PlaceOf, from, missing, SpanOf}

-- a thread stands behind those before it
pub behind_threads : {t : List ℕ} {x : Tree term} (before after : List (Tree term)) (i : ℕ) → Stands t i (program_of (before ++ (x ∷ after))) → Stands t (i + nodes_before before) x
unfolding program_of nodes_before
behind_threads [] after i h = (see _ h).parts_stand.0
behind_threads (y ∷ before) after i h = moved (omega arith) (behind_threads before after (i + 1 + nodes y) (see _ h).parts_stand.1)

-- and ends in the program
inside : (before after : List (Tree term)) (x : Tree term) → nodes_before before + nodes x ≤ nodes (program_of (before ++ (x ∷ after)))
unfolding program_of nodes
inside before after x =
    let m = nodes (program_of (x ∷ after)) in
    omega (arith, size_behind before (x ∷ after), spine_length m before, spine_place m before)

-- its entry in the program's column is its size
pub thread_size : {t c : List ℕ} → ProgramAt t c → (before after : List (Tree term)) (x : Tree term) {i : ℕ} → Stands t 0 (program_of (before ++ (x ∷ after))) → nodes_before before ≡ i →
    (i < length c) × (get_or c i 0 ≡ nodes x)
thread_size {c = c} p before after x w e =
    let q = program_of (before ++ (x ∷ after)) in
    let k : ColumnOf c (nodes q) q = rw (one_tree q p.program_there w p.stands) p.column_of in
    let l = inside before after x in
    (omega (arith, k.long, nodes_positive x), (column_sizes q w refl k).sized x _ (moved (omega arith) (behind_threads before after 0 w)) (omega arith) (omega arith))

-- the last refusal of the thread calls
abbrev no_thread : ℕ → List ℕ → ℕ → ℕ → Refusals
no_thread n t count k = (refusal.NoThread, (p : Tree program) × (TableOf n t count p × (length (threads p) ≤ k))) ∷ []

-- the thread k stands at the node i, and has its size in the column
pub record ThreadAt (n : ℕ) (table : Sheet) (count k i : ℕ) : Type 0 where
  pub thread : Tree term
  pub accepts : Accepts (thread_refusals n table count k)
  pub thread_of : ThreadOf n table.numbers count k thread
  pub start : nodes_before thread_of.before ≡ i
  pub there : Stands table.numbers i thread
  pub sized : (i < length table.sizes) × (get_or table.sizes i 0 ≡ nodes thread)

module _ {n : ℕ} {table : Sheet} {count : ℕ} where
  -- where the check refuses, so do the thread calls
  pub thread_refused : {r : Result Unit Refusal} {q : Refusal} (k : ℕ) → r ≡ Err q → ChecksWith n table count (checked_number r) → Refuses (thread_refusals n table count k) q
  thread_refused {q = q} k e h = refuses_early (no_thread n table.numbers count k) (table_refusals n table count) q (refused_with e h)

  -- then there is no part
  pub part_refused : {k : ℕ} {s : Refusal} → Refuses (thread_refusals n table count k) s → SpanOf n table count k 0 0
  part_refused {s = s} h = record { holds = no_part s h; within = omega arith }

module _ {n : ℕ} {table : Sheet} {count : ℕ} (a : HeldIn n table count) where
  -- it stands at the front with its column
  pub held_program : ProgramAt table.numbers table.sizes
  held_program = record { program_there = a.program_there; stands = table_stands a.table_of; column_of = rw a.table_of.counts a.column_of }

  this_one : {p : Tree program} → Stands table.numbers 0 p → TableOf n table.numbers count p
  this_one {p} h = rw (one_tree p a.program_there h (table_stands a.table_of)) a.table_of

  module _ {p : Tree program} (o : TableOf n table.numbers count p) {k : ℕ} where
    -- there are not so many threads
    pub too_few : length (threads p) ≤ k → Refuses (thread_refusals n table count k) refusal.NoThread
    too_few l = refuses_late (no_thread n table.numbers count k) (table_refusals n table count) refusal.NoThread a.accepts (inl ((p, (o, l)), refl))

    -- there are more
    pub enough : k < length (threads p) → Accepts (thread_refusals n table count k)
    enough l =
        let f : (q : Tree program) × (TableOf n table.numbers count q × (length (threads q) ≤ k)) → ⊥ = λ m. omega (arith, l, m.1.1, ap length (ap threads (table_of_unique m.1.0 o))) in
        accepts_both (no_thread n table.numbers count k) (table_refusals n table count) a.accepts (f, tt)

  -- there are not so many threads, by the place of one
  pub thread_missing : {k : ℕ} {r : Option ℕ} → r ≡ None → PlaceOf table.numbers k (place_values r) → Refuses (thread_refusals n table count k) refusal.NoThread
  thread_missing {k} e w = go w (ap (λ p. (place_values p).refusal) e)
    where
      go : {v : Values} → PlaceOf table.numbers k v → v.refusal ≡ 10 → Refuses (thread_refusals n table count k) refusal.NoThread
      go (from before x after h l) e = absurd (omega arith)
      go (missing p h l) e = too_few (this_one h) l

  there_at : {k i : ℕ} {v : Values} → PlaceOf table.numbers k v → v ≡ record { refusal = 0; values = i ∷ [] } → ThreadAt n table count k i
  there_at {k} {i} (from before x after h l) q =
      let both = ap (λ (v : Values). v.values) q in
      let start : nodes_before before ≡ i = cc in
      let o : ThreadOf n table.numbers count k x = record { before = before; after = after; table_of = this_one h; place = l } in
      let m : k < length (threads (program_of (before ++ (x ∷ after)))) = omega (arith, l, length-append before (x ∷ after), ap length (threads_of_program (before ++ (x ∷ after)))) in
      record {
        thread = x;
        accepts = enough o.table_of m;
        thread_of = o;
        start = start;
        there = moved (omega arith) (behind_threads before after 0 h);
        sized = thread_size held_program before after x h start;
      }
  there_at (missing p h l) q = absurd (omega (arith, ap (λ (v : Values). v.refusal) q))

  -- the thread is there
  pub thread_there : {k i : ℕ} {r : Option ℕ} → r ≡ Some i → PlaceOf table.numbers k (place_values r) → ThreadAt n table count k i
  thread_there q w = there_at w (ap place_values q)

-- the thread that the place tells, of a table that the check admits
pub thread_held : {n : ℕ} {table : Sheet} {count k i : ℕ} {r : Result Unit Refusal} {u : Unit} {q : Option ℕ} → r ≡ Ok u → ChecksWith n table count (checked_number r) → q ≡ Some i → PlaceOf table.numbers k (place_values q) → ThreadAt n table count k i
thread_held a h e p = thread_there (held_there a h) e p

-- so many nodes from the node i on are the part of the thread k
pub record PartIn (n : ℕ) (table : Sheet) (count k i many : ℕ) : Type 0 where
  pub fits : 2 * (i + many) ≤ length table.numbers
  pub span : SpanOf n table count k (2 * i) (2 * many)

-- as the column says
pub part_there : {n : ℕ} {table : Sheet} {count k i many : ℕ} → ThreadAt n table count k i → SizeAt table.sizes i many → PartIn n table count k i many
part_there {i} {many} h s =
    let m : many ≡ nodes h.thread = s.is ∙ h.sized.1 in
    let b = ends_in h.there in
    record {
      fits = omega arith;
      span = record { holds = rw (m, own_part h.there, ← h.start) (part h.thread h.accepts h.thread_of); within = omega arith };
    }

-- the part as it is lent, from its first number to before its last one's next
pub span_part : {n : ℕ} {table : Sheet} {count k start many : ℕ} → SpanOf n table count k start many → PartAt n table count k start (take (start + many - start) (drop start table.numbers))
span_part {start = start} {many} h = let e : start + many - start ≡ many = omega arith in rw e h.holds
