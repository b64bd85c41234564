-- Demand 1 over the calls: of every outcome that a contract allows, for any node limit n, the refusal number is given exactly when, and a refused call has done nothing.
use mathlib.Core.Path.{◌≡◌, refl, sym, ap, ◌∙◌}
use mathlib.Core.Logic.{◌⊎◌, inl, inr, ⊎_elim}
use mathlib.Core.List.{List, [], ◌∷◌}
use Prim.Native.Nat.{ℕ, ◌≤◌, ◌<◌}
use native.Mathlib.Omega.{arith}
use lib.ListN.{length, take, drop, length-append, length-take, length-drop, length-replicate}
use Rattle.calculus.specs.declared.Refusal.{Refusal}
use Rattle.calculus.specs.declared.Refusal.TheVariants.{NoRoom}
use Rattle.calculus.specs.Tree.{term, program, Tree, preorder, nodes, threads, program_of}
use Rattle.calculus.specs.Sheets.{Sheet, holds}
use Rattle.calculus.specs.Run.{Leads, stays, goes, size, next_program, run, room_of}
use Rattle.calculus.specs.Text.{text}
use Rattle.calculus.specs.Column.{column}
use Rattle.calculus.specs.Answers.{number, Values}
use Rattle.calculus.specs.Calls.{Refusals, Accepts, Refuses, Applies, front, put_front, zeros_behind, read_refusals, Reads, read, refused, write_refusals, Writes, written, not_written, step_refusals, StepsInto, stepped, not_stepped, run_refusals, RunsWith, ran, not_run, thread_refusals, StandsAt, stands, not_stood, PartAt, part, no_part}
use Rattle.calculus.proofs.Bindings.{In}
use Rattle.calculus.proofs.Preorders.{nodes_positive, preorder_length, program_of_threads}
use Rattle.calculus.proofs.Answers.{number_positive, number_injective}
use Rattle.calculus.proofs.Refusals.{Ascends, read_ascends, AscendsBehind, write_ascends, step_ascends, run_ascends, thread_ascends, lowest, one_first, fourteen_next, lowest_but, given_listed, accepted_not_refused, one_refusal}
use Rattle.calculus.proofs.Columns.{column_length}
use Rattle.calculus.proofs.Runs.{program_run_is}
use Rattle.threads.specs.Places.{SpanOf, ThreadPart}
use Rattle.promises.specs.Exactly.{Exactly, Lowest, LowestBut}
use Rattle.promises.proofs.Admitted.{Undenied, same_number, table_good}

-- One law for every call's list of refusals.

-- where none holds, none applies
none_applies : (cs : Refusals) (m : ℕ) → Accepts cs → Applies cs m → ⊥
none_applies [] m a h = h
none_applies (c ∷ cs) m a (inl h) = a.0 h.1
none_applies (c ∷ cs) m a (inr h) = none_applies cs m a.1 h

-- no condition holds, and 0 is returned
pub exactly_accepted : (cs : Refusals) → Accepts cs → Exactly cs 0
exactly_accepted cs a = record {
  refused = λ r g. absurd (accepted_not_refused cs r a g);
  refused_only = λ r e. absurd (omega (arith, number_positive r));
  accepted = λ b. refl;
  accepted_only = λ e. a;
}

-- the first condition that holds is r's, and r's number is returned
pub exactly_refused : (cs : Refusals) (r : Refusal) → Refuses cs r → Exactly cs (number r)
exactly_refused cs r g = record {
  refused = λ q h. ap number (one_refusal cs r q g h);
  refused_only = λ q e. rw (← number_injective r q e) g;
  accepted = λ a. absurd (accepted_not_refused cs r a g);
  accepted_only = λ e. absurd (omega (arith, number_positive r));
}

-- of a list that ascends the lowest number is given
lowest_accepted : (cs : Refusals) → Accepts cs → Lowest cs 0
lowest_accepted cs a = record { lowest = λ m h. absurd (none_applies cs m a h) }

lowest_refused : (cs : Refusals) (r : Refusal) → Ascends 0 cs → Refuses cs r → Lowest cs (number r)
lowest_refused cs r u g = record { lowest = λ m h. (number_positive r, lowest cs 0 r m u g h) }

-- of one that ascends behind 1 and 14 it is, but for 14
but_accepted : (cs : Refusals) → Accepts cs → LowestBut cs 0
but_accepted cs a = record { one = λ h. absurd (none_applies cs 1 a h); fourteen = λ h. absurd (none_applies cs 14 a h); lowest = λ m h. absurd (none_applies cs m a h) }

but_refused : (cs : Refusals) (r : Refusal) → AscendsBehind cs → Refuses cs r → LowestBut cs (number r)
but_refused cs r u g = record { one = one_first cs r u g; fourteen = fourteen_next cs r u g; lowest = λ m h. (number_positive r, lowest_but cs r m u g h) }

-- the numbers of a list that ascends from k are above it
pub refused_above : (cs : Refusals) (k : ℕ) (r : Refusal) → Ascends k cs → Refuses cs r → k < number r
refused_above [] k r a g = absurd g
refused_above (c ∷ cs) k r a (inl g) = omega (arith, a.0, ap number g.1)
refused_above (c ∷ cs) k r a (inr g) = omega (arith, a.0, refused_above cs (number c.0) r a.1 g.1)

-- it is not denied that a list accepts or refuses
settled : (cs : Refusals) → Undenied (Accepts cs ⊎ ((r : Refusal) × Refuses cs r))
settled [] f = f (inl tt)
settled (c ∷ cs) f = let no : c.1 → ⊥ = λ h. f (inr (c.0, inl (h, refl))) in settled cs (λ k. f (⊎_elim (λ a. inl (no, a)) (λ g. inr (g.0, inr (no, g.1))) k))

-- the list and its conditions determine the number
pub exactly_one : (cs : Refusals) {a b : ℕ} → Exactly cs a → Exactly cs b → a ≡ b
exactly_one cs {a} {b} x y = same_number a b (λ f. settled cs (λ k. f (⊎_elim (λ h. x.accepted h ∙ sym (y.accepted h)) (λ g. x.refused g.0 g.1 ∙ sym (y.refused g.0 g.1)) k)))

-- Reading: 2 to 9.
module _ {n : ℕ} {b : List ℕ} {out : Sheet} where
  -- a read's number is given exactly when
  pub reads_exactly : {v : Values} {o : Sheet} → Reads n b out v o → Exactly (read_refusals n b out) v.refusal
  reads_exactly (read p a t) = exactly_accepted (read_refusals n b out) a
  reads_exactly (refused r g) = exactly_refused (read_refusals n b out) r g

  -- the lowest that applies
  pub reads_lowest : {v : Values} {o : Sheet} → Reads n b out v o → Lowest (read_refusals n b out) v.refusal
  reads_lowest (read p a t) = lowest_accepted (read_refusals n b out) a
  reads_lowest (refused r g) = lowest_refused (read_refusals n b out) r (read_ascends n b out) g

  -- it is 0 or one of these
  pub reads_can_give : {v : Values} {o : Sheet} → Reads n b out v o → (v.refusal ≡ 0) ⊎ In v.refusal (2 ∷ 3 ∷ 4 ∷ 5 ∷ 6 ∷ 7 ∷ 8 ∷ 9 ∷ [])
  reads_can_give (read p a t) = inl refl
  reads_can_give (refused r g) = inr (given_listed (read_refusals n b out) r g)

  -- a refused read returns a count of 0 and changes nothing in lent memory
  pub read_refused : {v : Values} {o : Sheet} → Reads n b out v o → (v.refusal ≡ 0 → ⊥) → (v.values ≡ 0 ∷ []) × (o ≡ out)
  read_refused (read p a t) f = absurd (f refl)
  read_refused (refused r g) f = (refl, refl)

-- 9 is not given with an output for as many nodes as the limit: what is too large for it is given 7
pub read_has_room : {n : ℕ} {b : List ℕ} (out : Sheet) → n ≤ holds out → Refuses (read_refusals n b out) NoRoom → ⊥
read_has_room out l (inl g) = omega (arith, ap number g.1)
read_has_room out l (inr (a, inl g)) = omega (arith, ap number g.1)
read_has_room out l (inr (a, inr (c, inl g))) = omega (arith, ap number g.1)
read_has_room out l (inr (a, inr (c, inr (d, inl g)))) = omega (arith, ap number g.1)
read_has_room out l (inr (a, inr (c, inr (d, inr (e, inl g))))) = omega (arith, ap number g.1)
read_has_room out l (inr (a, inr (c, inr (d, inr (e, inr (f, inl g)))))) = omega (arith, ap number g.1)
read_has_room out l (inr (a, inr (c, inr (d, inr (e, inr (f, inr (i, inl g))))))) = omega (arith, ap number g.1)
read_has_room out l (inr (a, inr (c, inr (d, inr (e, inr (f, inr (i, inr (j, inl ((p, (t, h)), q))))))))) = i (p, (t, omega arith))
read_has_room out l (inr (a, inr (c, inr (d, inr (e, inr (f, inr (i, inr (j, inr (k, h))))))))) = h

-- Calls on a table: 1, 14, 6, 8.
module _ {n : ℕ} {table : Sheet} {count : ℕ} where
  -- a write's number is given exactly when: 9 too
  pub writes_exactly : {out : List ℕ} {v : Values} {o : List ℕ} → Writes n table count out v o → Exactly (write_refusals n table count out) v.refusal
  writes_exactly {out} (written p a t) = exactly_accepted (write_refusals n table count out) a
  writes_exactly {out} (not_written r g) = exactly_refused (write_refusals n table count out) r g

  -- a step's: 7, 9 and 11 too
  pub steps_exactly : {out : Sheet} {v : Values} {o : Sheet} → StepsInto n table count out v o → Exactly (step_refusals n table count out) v.refusal
  steps_exactly {out} (stepped p s a t) = exactly_accepted (step_refusals n table count out) a
  steps_exactly {out} (not_stepped r g) = exactly_refused (step_refusals n table count out) r g

  -- a run's: 9 too
  pub runs_exactly : {work : Sheet} {limit : ℕ} {v : Values} {t w : Sheet} → RunsWith n table count work limit v t w → Exactly (run_refusals n table count work) v.refusal
  runs_exactly {work} (ran p a t) = exactly_accepted (run_refusals n table count work) a
  runs_exactly {work} (not_run r g) = exactly_refused (run_refusals n table count work) r g

  -- the standing call's: 10 too
  pub stands_exactly : {k : ℕ} {v : Values} → StandsAt n table count k v → Exactly (thread_refusals n table count k) v.refusal
  stands_exactly {k} (stands t a h) = exactly_accepted (thread_refusals n table count k) a
  stands_exactly {k} (not_stood r g) = exactly_refused (thread_refusals n table count k) r g

  -- a write's number is the lowest that applies, but for 14
  pub writes_lowest : {out : List ℕ} {v : Values} {o : List ℕ} → Writes n table count out v o → LowestBut (write_refusals n table count out) v.refusal
  writes_lowest {out} (written p a t) = but_accepted (write_refusals n table count out) a
  writes_lowest {out} (not_written r g) = but_refused (write_refusals n table count out) r (write_ascends n table count out) g

  -- a step's
  pub steps_lowest : {out : Sheet} {v : Values} {o : Sheet} → StepsInto n table count out v o → LowestBut (step_refusals n table count out) v.refusal
  steps_lowest {out} (stepped p s a t) = but_accepted (step_refusals n table count out) a
  steps_lowest {out} (not_stepped r g) = but_refused (step_refusals n table count out) r (step_ascends n table count out) g

  -- a run's
  pub runs_lowest : {work : Sheet} {limit : ℕ} {v : Values} {t w : Sheet} → RunsWith n table count work limit v t w → LowestBut (run_refusals n table count work) v.refusal
  runs_lowest {work} (ran p a t) = but_accepted (run_refusals n table count work) a
  runs_lowest {work} (not_run r g) = but_refused (run_refusals n table count work) r (run_ascends n table count work) g

  -- the standing call's
  pub stands_lowest : {k : ℕ} {v : Values} → StandsAt n table count k v → LowestBut (thread_refusals n table count k) v.refusal
  stands_lowest {k} (stands t a h) = but_accepted (thread_refusals n table count k) a
  stands_lowest {k} (not_stood r g) = but_refused (thread_refusals n table count k) r (thread_ascends n table count k) g

  -- a write's number is 0 or one of these
  pub writes_can_give : {out : List ℕ} {v : Values} {o : List ℕ} → Writes n table count out v o → (v.refusal ≡ 0) ⊎ In v.refusal (1 ∷ 14 ∷ 6 ∷ 8 ∷ 9 ∷ [])
  writes_can_give (written p a t) = inl refl
  writes_can_give {out} (not_written r g) = inr (given_listed (write_refusals n table count out) r g)

  -- a step's
  pub steps_can_give : {out : Sheet} {v : Values} {o : Sheet} → StepsInto n table count out v o → (v.refusal ≡ 0) ⊎ In v.refusal (1 ∷ 14 ∷ 6 ∷ 7 ∷ 8 ∷ 9 ∷ 11 ∷ [])
  steps_can_give (stepped p s a t) = inl refl
  steps_can_give {out} (not_stepped r g) = inr (given_listed (step_refusals n table count out) r g)

  -- a run's
  pub runs_can_give : {work : Sheet} {limit : ℕ} {v : Values} {t w : Sheet} → RunsWith n table count work limit v t w → (v.refusal ≡ 0) ⊎ In v.refusal (1 ∷ 14 ∷ 6 ∷ 8 ∷ 9 ∷ [])
  runs_can_give (ran p a t) = inl refl
  runs_can_give {work} (not_run r g) = inr (given_listed (run_refusals n table count work) r g)

  -- the standing call's
  pub stands_can_give : {k : ℕ} {v : Values} → StandsAt n table count k v → (v.refusal ≡ 0) ⊎ In v.refusal (1 ∷ 14 ∷ 6 ∷ 8 ∷ 10 ∷ [])
  stands_can_give (stands t a h) = inl refl
  stands_can_give {k} (not_stood r g) = inr (given_listed (thread_refusals n table count k) r g)

  -- a refused write returns a count of 0 and changes nothing in lent memory
  pub write_refused : {out : List ℕ} {v : Values} {o : List ℕ} → Writes n table count out v o → (v.refusal ≡ 0 → ⊥) → (v.values ≡ 0 ∷ []) × (o ≡ out)
  write_refused (written p a t) f = absurd (f refl)
  write_refused (not_written r g) f = (refl, refl)

  -- so does a refused step
  pub step_refused : {out : Sheet} {v : Values} {o : Sheet} → StepsInto n table count out v o → (v.refusal ≡ 0 → ⊥) → (v.values ≡ 0 ∷ 0 ∷ 0 ∷ []) × (o ≡ out)
  step_refused (stepped p s a t) f = absurd (f refl)
  step_refused (not_stepped r g) f = (refl, refl)

  -- a refused run returns counts of 0 and changes nothing in either table or column
  pub run_refused : {work : Sheet} {limit : ℕ} {v : Values} {t w : Sheet} → RunsWith n table count work limit v t w → (v.refusal ≡ 0 → ⊥) → (v.values ≡ 0 ∷ 0 ∷ 0 ∷ 0 ∷ 0 ∷ 0 ∷ 0 ∷ 0 ∷ 0 ∷ []) × ((t ≡ table) × (w ≡ work))
  run_refused (ran p a t) f = absurd (f refl)
  run_refused (not_run r g) f = (refl, (refl, refl))

  -- a refused standing call returns 0 for the standing
  pub stand_refused : {k : ℕ} {v : Values} → StandsAt n table count k v → (v.refusal ≡ 0 → ⊥) → v.values ≡ 0 ∷ []
  stand_refused (stands t a h) f = absurd (f refl)
  stand_refused (not_stood r g) f = refl

  part_refused : {k start : ℕ} {v : Values} {l : List ℕ} → StandsAt n table count k v → PartAt n table count k start l → (l ≡ [] → (v.refusal ≡ 0 → ⊥)) × ((v.refusal ≡ 0 → ⊥) → l ≡ [])
  part_refused (stands t a h) (part u c i) = ((λ e z. omega (arith, ap length e, preorder_length u, nodes_positive u)), λ f. absurd (f refl))
  part_refused {k} (stands t a h) (no_part r g) = absurd (accepted_not_refused (thread_refusals n table count k) r a g)
  part_refused {k} (not_stood r g) (part u c i) = absurd (accepted_not_refused (thread_refusals n table count k) r c g)
  part_refused (not_stood r g) (no_part q h) = ((λ e z. omega (arith, number_positive r)), λ f. refl)

  -- the thread call's part is empty exactly when the standing call on the same input refuses
  pub part_empty : {B : Type 0} {k : ℕ} {v : Values} {block part_block : B} {address part_address : ℕ} {l : List ℕ} → StandsAt n table count k v → ThreadPart n table count k block address part_block part_address l →
      (l ≡ [] → (v.refusal ≡ 0 → ⊥)) × ((v.refusal ≡ 0 → ⊥) → l ≡ [])
  part_empty h k = part_refused h k.holds

  -- a part that is within the table has its length
  pub span_length : {k s m : ℕ} → SpanOf n table count k s m → length (take m (drop s table.numbers)) ≡ m
  span_length {k} {s} {m} h = omega (arith, h.within, length-take m (drop s table.numbers), length-drop s table.numbers)

  -- the exported thread call's length is 0 exactly when the standing call on the same input refuses
  pub span_empty : {k s m : ℕ} {v : Values} → StandsAt n table count k v → SpanOf n table count k s m → (m ≡ 0 → (v.refusal ≡ 0 → ⊥)) × ((v.refusal ≡ 0 → ⊥) → m ≡ 0)
  span_empty {k} {s} h i =
      let p = part_refused h i.holds in
      ((λ e. p.0 (ap (λ (j : ℕ). take j (drop s table.numbers)) e)), λ f. sym (span_length i) ∙ ap length (p.1 f))

-- No call makes lent memory longer or shorter: an accepted one fills a front that fits.

-- tables of one length, and their columns
abbrev pub SameLengths : Sheet → Sheet → Type 0
SameLengths s t = (length s.numbers ≡ length t.numbers) × (length s.sizes ≡ length t.sizes)

front_length : (new old : List ℕ) → length new ≤ length old → length (front new old) ≡ length old
front_length new old h = simp (length-append, length-drop) (omega arith)

put_length : (p : Tree program) (old : Sheet) → nodes p ≤ holds old → SameLengths (put_front p old) old
put_length p old h = (front_length (preorder p) old.numbers (omega (arith, preorder_length p)), front_length (column p) old.sizes (omega (arith, column_length p)))

zeros_length : (new old : List ℕ) → length new ≤ length old → length (zeros_behind new old) ≡ length old
zeros_length new old h = simp (length-append, length-replicate) (omega arith)

-- steps within the room lead to an end within it, or stay where they begin
end_fits : {m j : ℕ} {s e : List (Tree term)} → Leads next_program j s e → size s ≤ m → (1 ≤ j → size e ≤ m) → size e ≤ m
end_fits stays h f = h
end_fits (goes k l) h f = f (omega arith)

-- a read leaves the output and its column as long as they were
pub read_length : {n : ℕ} {b : List ℕ} {out : Sheet} {v : Values} {o : Sheet} → Reads n b out v o → SameLengths o out
read_length {out = out} (read p a t) = let fits : holds out < nodes p → ⊥ = λ h. a.1.1.1.1.1.1.1.0 (p, (t, h)) in put_length p out (omega arith)
read_length (refused r g) = (refl, refl)

module _ {n : ℕ} {table : Sheet} {count : ℕ} where
  -- so does a write
  pub write_length : {out : List ℕ} {v : Values} {o : List ℕ} → Writes n table count out v o → length o ≡ length out
  write_length {out} (written p a t) = let fits : length out < length (text p) → ⊥ = λ h. a.1.1.1.1.0 (p, (t, h)) in front_length (text p) out (omega arith)
  write_length (not_written r g) = refl

  -- so does a step
  pub step_length : {out : Sheet} {v : Values} {o : Sheet} → StepsInto n table count out v o → SameLengths o out
  step_length {out} (stepped p s a t) =
      let fits : holds out < size s.result → ⊥ = λ h. a.1.1.1.1.1.0 (p, (s, (t, h))) in
      put_length (program_of s.result) out (omega arith)
  step_length (not_stepped r g) = (refl, refl)

  -- a run leaves the table, the work table and their columns as long as they were
  pub run_length : {work : Sheet} {limit : ℕ} {v : Values} {t w : Sheet} → RunsWith n table count work limit v t w → SameLengths t table × SameLengths w work
  run_length {work} {limit} (ran p a t) =
      let e = run (room_of n table work) limit (threads p) in
      let i = program_run_is (room_of n table work) limit (threads p) in
      let long : count ≤ length table.sizes = (table_good table (a.0, (a.1.0, (a.1.1.0, (a.1.1.1.0, tt)))) t).1.column_of.long in
      let fits : size e.last ≤ holds table =
      end_fits i.leads (omega (arith, ap nodes (program_of_threads p), t.counts, t.within)) (λ j. omega (arith, i.fits e.taken e.last j (omega arith) i.leads)) in
      let q = program_of e.last in (
        (zeros_length (preorder q) table.numbers (omega (arith, preorder_length q)), zeros_length (column q) table.sizes (omega (arith, column_length q))),
        (length-replicate (length work.numbers) 0, length-replicate (length work.sizes) 0),
      )
  run_length (not_run r g) = ((refl, refl), (refl, refl))
