-- The same lent buffers at the node limit n and at a limit m that is no smaller: where a program within n stands in the table, a call's outcome at n is its outcome at m.
use mathlib.Core.Path.{◌≡◌, refl, ap}
use mathlib.Core.Logic.{inl, inr}
use mathlib.Core.List.{List, [], ◌∷◌, ◌++◌}
use mathlib.Core.Option.{some}
use Prim.Native.Nat.{ℕ, ◌≤◌}
use native.Mathlib.Omega.{arith}
use lib.ListN.{get_or, drop}
use Rattle.calculus.specs.declared.Refusal.{Refusal}
use Rattle.calculus.specs.declared.Refusal.TheVariants.{NoProgram, TooManyNodes}
use Rattle.calculus.specs.Tree.{program, Tree, threads}
use Rattle.calculus.specs.Good.{Good}
use Rattle.calculus.specs.Step.{Step, step}
use Rattle.calculus.specs.Sheets.{Sheet}
use Rattle.calculus.specs.Run.{room_of}
use Rattle.calculus.specs.Answers.{number, reason_code, Values}
use Rattle.calculus.specs.Calls.{Refusals, Accepts, Refuses, TableOf, no_program, table_refusals, write_refusals, Writes, written, not_written, StepsTo, step_refusals, StepsInto, stepped, not_stepped, run_refusals, RunsWith, ran, not_run, thread_refusals, StandsAt, stands, not_stood, PartAt, part, no_part}
use Rattle.calculus.proofs.Substitutes.{impossible}
use Rattle.calculus.proofs.Tallies.{run_roomy}
use Rattle.calculus.proofs.Outcomes.{table_of_unique, writes_once, steps_once, runs_once, stands_once, parts_once}
use Rattle.promises.specs.Worked.{Held}
use Rattle.promises.proofs.Admitted.{good_table, table_good}
use Rattle.promises.proofs.Refused.{refused_above, writes_exactly, steps_exactly, runs_exactly, stands_exactly}
use Rattle.sizes.specs.Tables.{BeyondStep, SameTables}
use Rattle.sizes.proofs.Wider.{wider_good, wider_table, wider_held, wider_step, wider_thread}

-- One law for the lists of every call. ds follows cs: accepted where cs is, and refused with the same, of the refusals r with P r.
record Follows (P : Refusal → Type 0) (cs ds : Refusals) : Type 0 where
  accepts : Accepts cs → Accepts ds
  refuses : (r : Refusal) → P r → Refuses cs r → Refuses ds r

at_end : {P : Refusal → Type 0} → Follows P [] []
at_end = record { accepts = λ a. a; refuses = λ r k g. g }

-- one refusal more: its condition in cs gives that in ds, and where the first does not hold the second does not
and_before : {P : Refusal → Type 0} {r : Refusal} {c d : Type 0} {cs ds : Refusals} → (P r → c → d) → ((c → ⊥) → d → ⊥) → Follows P cs ds → Follows P ((r, c) ∷ cs) ((r, d) ∷ ds)
and_before {P} {r} {c} {d} {cs} {ds} up down h = record { accepts = λ a. (down a.0, h.accepts a.1); refuses = go }
  where
    go : (q : Refusal) → P q → Refuses ((r, c) ∷ cs) q → Refuses ((r, d) ∷ ds) q
    go q k (inl (f, e)) = inl (up (rw e at k) f, e)
    go q k (inr (f, g)) = inr (down f, h.refuses q k g)

-- every refusal, and every one but 7
abbrev AnyRefusal : Refusal → Type 0
AnyRefusal r = Unit {0}

abbrev ButSeven : Refusal → Type 0
ButSeven r = number r ≡ 7 → ⊥

-- A program within n stands in the table: it is not denied.
module _ {n m : ℕ} (l : n ≤ m) {numbers : List ℕ} {count : ℕ} (there : (no_program n numbers count).1 → ⊥) {P : Refusal → Type 0} {cs ds : Refusals} (h : Follows P cs ds) where
  -- 1 is given at neither
  and_one : Follows P (no_program n numbers count ∷ cs) (no_program m numbers count ∷ ds)
  and_one = and_before (λ k f. absurd (there f)) (λ f g. there (λ p t. g p (wider_table l t))) h

  -- what is asked of the program there is asked of the same program
  and_of_program : {r : Refusal} {φ : Tree program → Type 0} → Follows P ((r, (p : Tree program) × (TableOf n numbers count p × φ p)) ∷ cs) ((r, (p : Tree program) × (TableOf m numbers count p × φ p)) ∷ ds)
  and_of_program = and_before (λ k f. (f.0, (wider_table l f.1.0, f.1.1))) (λ f g. there (λ p t. f (p, (t, rw (table_of_unique (wider_table l t) g.1.0) g.1.1)))) h

  -- and what is asked of its step of the same step
  and_of_step : {r : Refusal} {φ ψ : Tree program → Step → Type 0} → (P r → (p : Tree program) (s : Step) → φ p s → ψ p s) → ((p : Tree program) (s : Step) → ψ p s → φ p s) →
      Follows P ((r, (p : Tree program) × ((s : Step) × (StepsTo n numbers count p s × φ p s))) ∷ cs) ((r, (p : Tree program) × ((s : Step) × (StepsTo m numbers count p s × ψ p s))) ∷ ds)
  and_of_step up down =
      and_before (λ k f. (f.0, (f.1.0, (wider_step l f.1.1.0, up k f.0 f.1.0 f.1.1.1))))
      (λ f g. there (λ p t. let e = table_of_unique (wider_table l t) g.1.1.0.table_of in f (p, (g.1.0, (record { table_of = t; steps = rw e g.1.1.0.steps }, rw e (down g.0 g.1.0 g.1.1.1))))))
      h

module _ {n m : ℕ} (l : n ≤ m) (table : Sheet) {count : ℕ} (there : (no_program n table.numbers count).1 → ⊥) where
  -- what every call asks first, and what follows it
  table_follows : {cs ds : Refusals} → Follows AnyRefusal cs ds → Follows AnyRefusal (table_refusals n table count ++ cs) (table_refusals m table count ++ ds)
  table_follows h = and_one l there (and_of_program l there (and_of_program l there (and_of_program l there h)))

  -- a write's
  write_follows : (out : List ℕ) → Follows AnyRefusal (write_refusals n table count out) (write_refusals m table count out)
  write_follows out = table_follows (and_of_program l there at_end)

  -- a run's
  run_follows : (work : Sheet) → Follows AnyRefusal (run_refusals n table count work) (run_refusals m table count work)
  run_follows work = table_follows (and_before (λ k f. f) (λ f. f) at_end)

  -- the standing call's and the thread call's
  thread_follows : (k : ℕ) → Follows AnyRefusal (thread_refusals n table count k) (thread_refusals m table count k)
  thread_follows k = table_follows (and_of_program l there at_end)

  -- a step's, but for 7: what is beyond m is beyond n
  step_follows : (out : Sheet) → Follows ButSeven (step_refusals n table count out) (step_refusals m table count out)
  step_follows out =
      and_one l there (and_of_program l there (and_of_program l there (
      and_of_step l there (and_of_program l there (and_of_step l there (and_of_program l there at_end) (λ k p s f. f) (λ p s f. f))) (λ k. absurd (k refl)) (λ p s f. (f.0, omega (arith, f.1)))
      )))

  -- An outcome at n is one at m.
  writes_too : {out : List ℕ} {v : Values} {o : List ℕ} → Writes n table count out v o → Writes m table count out v o
  writes_too {out} (written p a t) = written p ((write_follows out).accepts a) (wider_table l t)
  writes_too {out} (not_written r g) = not_written r ((write_follows out).refuses r tt g)

  -- where the room is the same
  runs_too : {work : Sheet} {most : ℕ} {v : Values} {t w : Sheet} → room_of n table work ≡ room_of m table work → RunsWith n table count work most v t w → RunsWith m table count work most v t w
  runs_too {work} e (ran p a t) = rw e (ran p ((run_follows work).accepts a) (wider_table l t))
  runs_too {work} e (not_run r g) = not_run r ((run_follows work).refuses r tt g)

  -- or where it is not used up
  roomy_too : {work : Sheet} {most : ℕ} {v : Values} {t w : Sheet} → (get_or v.values 0 0 ≡ 3 → ⊥) → RunsWith n table count work most v t w → RunsWith m table count work most v t w
  roomy_too {work} {most} f (ran p a t) =
      let r = run_roomy {room = room_of n table work} {room' = room_of m table work} most (threads p) (omega arith) (λ e. f (ap reason_code e)) in
      rw (← r.0, ← r.1) (ran p ((run_follows work).accepts a) (wider_table l t))
  roomy_too {work} f (not_run r g) = not_run r ((run_follows work).refuses r tt g)

  stands_too : {k : ℕ} {v : Values} → StandsAt n table count k v → StandsAt m table count k v
  stands_too {k} (stands t a h) = stands t ((thread_follows k).accepts a) (wider_thread l h)
  stands_too {k} (not_stood r g) = not_stood r ((thread_follows k).refuses r tt g)

  parts_too : {k start : ℕ} {part : List ℕ} → PartAt n table count k start part → PartAt m table count k start part
  unfolding wider_thread
  parts_too {k} (part t a h) = part t ((thread_follows k).accepts a) (wider_thread l h)
  parts_too {k} (no_part r g) = no_part r ((thread_follows k).refuses r tt g)

  -- but for 7
  steps_too : {out : Sheet} {v : Values} {o : Sheet} → (v.refusal ≡ 7 → ⊥) → StepsInto n table count out v o → StepsInto m table count out v o
  steps_too {out} f (stepped p s a h) = stepped p s ((step_follows out).accepts a) (wider_step l h)
  steps_too {out} f (not_stepped r g) = not_stepped r ((step_follows out).refuses r f g)

-- 7 is given at n of a good program that has a step
beyond_good : {n : ℕ} (table : Sheet) {count : ℕ} (out : Sheet) → Refuses (step_refusals n table count out) TooManyNodes → (p : Tree program) × (Held n table count p × (Good n p × ((s : Step) × (step (threads p) ≡ some s))))
beyond_good table out (inl (f, q)) = absurd (omega (arith, ap number q))
beyond_good table out (inr (a, inl (f, q))) = absurd (omega (arith, ap number q))
beyond_good table out (inr (a, inr (b, inl (f, q)))) = absurd (omega (arith, ap number q))
beyond_good table out (inr (a, inr (b, inr (c, inl ((p, (s, (k, (i, l)))), q))))) =
    let (good, held) = table_good table (a, (b, (c, ((λ f. f.1.1 (rw (table_of_unique f.1.0 k.table_of) i)), tt)))) k.table_of in
    (p, (held, (good, (s, k.steps))))
beyond_good {n} table {count} out (inr (a, inr (b, inr (c, inr (d, g))))) = absurd (omega (arith, refused_above (drop 4 (step_refusals n table count out)) 7 TooManyNodes (omega arith) g))

-- and a good program that has a step is refused one with 7 or 9 only
seven_or_nine : {m : ℕ} (table : Sheet) {count : ℕ} (out : Sheet) {p : Tree program} {s : Step} {r : Refusal} → Held m table count p → Good m p → step (threads p) ≡ some s → Refuses (step_refusals m table count out) r → BeyondStep (number r)
seven_or_nine table out t g e (inl (f, q)) = absurd ((good_table t g).0 f)
seven_or_nine table out t g e (inr (a, inl (f, q))) = absurd ((good_table t g).1.0 f)
seven_or_nine table out t g e (inr (a, inr (b, inl (f, q)))) = absurd ((good_table t g).1.1.0 f)
seven_or_nine table out t g e (inr (a, inr (b, inr (c, inl (f, q))))) = inr (inl (ap number q))
seven_or_nine table out t g e (inr (a, inr (b, inr (c, inr (d, inl (f, q)))))) = absurd ((good_table t g).1.1.1.0 f)
seven_or_nine table out t g e (inr (a, inr (b, inr (c, inr (d, inr (i, inl (f, q))))))) = inr (inr (ap number q))
seven_or_nine table out t g e (inr (a, inr (b, inr (c, inr (d, inr (i, inr (j, inl (f, q)))))))) =
    impossible (cc (e, f.1.1, ap (λ (x : Tree program). step (threads x)) (table_of_unique f.1.0 t.table_of)))
seven_or_nine table out t g e (inr (a, inr (b, inr (c, inr (d, inr (i, inr (j, inr (k, f)))))))) = absurd f

-- so of a result beyond n
beyond_n : {n m : ℕ} {table : Sheet} {count : ℕ} {out : Sheet} {v : Values} {o : Sheet} → n ≤ m → Refuses (step_refusals n table count out) TooManyNodes → StepsInto m table count out v o → BeyondStep v.refusal
beyond_n l k (stepped p s a h) = inl refl
beyond_n {table = table} {out = out} l k (not_stepped r g) = let (p, (t, (good, (s, e)))) = beyond_good table out k in seven_or_nine table out (wider_held l t) (wider_good l good) e g

pub same_tables : (n m : ℕ) → n ≤ m → SameTables n m
same_tables n m l table count = record {
  writes = λ out v v' o o' h f h'. writes_once h' (writes_too l table (λ k. f ((writes_exactly h).refused NoProgram (inl (k, refl)))) h);
  runs = λ work most v v' t t' w w' i h f h'. runs_once h' (runs_too l table (λ k. f ((runs_exactly h).refused NoProgram (inl (k, refl)))) (omega arith) h);
  roomy = λ work most v v' t t' w w' h f g h'. runs_once h' (roomy_too l table (λ k. f ((runs_exactly h).refused NoProgram (inl (k, refl)))) g h);
  stands = λ k v v' h f h'. stands_once h' (stands_too l table (λ k. f ((stands_exactly h).refused NoProgram (inl (k, refl)))) h);
  parts = λ k start start' part part' f h h'. parts_once h' (parts_too l table f h);
  steps = λ out v v' o o' h f g h'. steps_once h' (steps_too l table (λ k. f ((steps_exactly h).refused NoProgram (inl (k, refl)))) (λ z. g (omega arith)) h);
  steps_beyond = λ out v v' o o' h e h'. beyond_n l ((steps_exactly h).refused_only TooManyNodes e) h';
}
