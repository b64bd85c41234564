-- Demand 2 over the calls: what every outcome that a contract allows has worked, for any node limit n.
use mathlib.Core.Path.{◌≡◌, refl, sym, ap, ◌∙◌}
use mathlib.Core.Logic.Iff
use mathlib.Core.Logic.{◌⊎◌, ◌↔◌, inl, inr, ⊎_elim}
use mathlib.Core.List.{List, [], ◌∷◌, ◌++◌}
use mathlib.Core.Option.{none, some}
use Prim.Native.Nat.{ℕ, ◌*◌, ◌-◌, ◌≤◌, ◌<◌}
use native.Mathlib.Omega.{arith}
use lib.ListN.{length, get_or, take, drop, replicate, length-append}
use lib.Seq.{take_at}
use Rattle.calculus.specs.declared.Refusal.TheVariants.{Finished}
use Rattle.calculus.specs.declared.Rule.{Rule}
use Rattle.calculus.specs.declared.Standing.{Standing}
use Rattle.calculus.specs.declared.Standing.TheVariants.{Answer, Stuck, Open, Partial}
use Rattle.calculus.specs.Tree.{term, program, unif, Tree, two, ok, preorder, nodes, threads, program_of}
use Rattle.calculus.specs.Put.{substitute}
use Rattle.calculus.specs.Whole.{Holding}
use Rattle.calculus.specs.Good.{InRange, Closed, Coherent, All, Good}
use Rattle.calculus.specs.Redex.{Weak, plug}
use Rattle.calculus.specs.Unifier.{Substitution, Solves, Unifier}
use Rattle.calculus.specs.Reduction.{Rewrites, alloc, beta, fresh_variable, guard_passed, unified, failed}
use Rattle.calculus.specs.Choice.{LeastNames, Chosen}
use Rattle.calculus.specs.Normal.{Normal}
use Rattle.calculus.specs.Step.{Step, step, standing}
use Rattle.calculus.specs.Sheets.{Sheet, sheet, holds}
use Rattle.calculus.specs.Run.{End, size, run, room_of}
use Rattle.calculus.specs.Tally.{run_counts}
use Rattle.calculus.specs.Text.{text}
use Rattle.calculus.specs.Column.{column, ColumnOf}
use Rattle.calculus.specs.Answers.{number, rule_code, standing_code, Values, refused_step}
use Rattle.calculus.specs.Calls.{Refuses, front, put_front, Reads, read, refused, TableOf, Writes, written, not_written, StepsTo, step_refusals, StepsInto, stepped, not_stepped, end_table, values_of_run, RunsWith, ran, not_run, Accepts, run_refusals, thread_refusals, ThreadOf, StandsAt, stands, not_stood}
use Rattle.calculus.proofs.Substitutes.{impossible}
use Rattle.calculus.proofs.Answers.{number_positive, standing_injective}
use Rattle.calculus.proofs.Alls.{all_threads, all_both, all_at}
use Rattle.calculus.proofs.Preorders.{preorder_length, program_of_threads}
use Rattle.calculus.proofs.Columns.{column_length}
use Rattle.calculus.proofs.Texts.{text_length}
use Rattle.calculus.proofs.Steps.{step_chosen, no_step_normal, normal_no_step}
use Rattle.calculus.proofs.Wholes.{whole_substitute, whole_put_in}
use Rattle.calculus.proofs.Standings.{Says, standing_exactly, partial_exactly, answer_exactly, value_exactly}
use Rattle.calculus.proofs.Runs.{program_run_is}
use Rattle.calculus.proofs.Preservation.{good_closed, good_coherent, step_good, run_good, run_choices, run_reductions}
use Rattle.calculus.proofs.Tallies.{counts_sum, counts_steps}
use Rattle.calculus.proofs.Outcomes.{table_of_unique, steps_once, runs_once}
use Rattle.promises.specs.Worked.{Held, Readable, Writable, HasRead, HasWritten, Settled, HasStepped, HasRun, HasStood}
use Rattle.promises.proofs.Admitted.{closed_stable, coherent_stable, good_table, table_good, accepted, good_read_only, good_written_only}

-- a program's own entries are its column, whatever stands behind them
pub column_held : (p : Tree program) (others : List ℕ) (count : ℕ) → nodes p ≡ count → ColumnOf (column p ++ others) count p
column_held p others count e = record { long = omega (arith, length-append (column p) others, column_length p); is = take_at (column p) others count (column_length p ∙ e) }

-- a program's own numbers and entries are a table that holds it and its column, whatever stands behind them
pub front_held : {n : ℕ} {p : Tree program} (rest others : List ℕ) → nodes p ≤ n → InRange n p → Held n (sheet (preorder p ++ rest) (column p ++ others)) (nodes p) p
front_held {p = p} rest others l r = record {
  table_of = record {
    counts = refl;
    small = l;
    within = omega (arith, length-append (preorder p) rest, preorder_length p);
    is = take_at (preorder p) rest (2 * nodes p) (preorder_length p);
    ranges = r;
  };
  column_of = column_held p others (nodes p) refl;
}

-- so are a good program's: what is said below is said of something
pub front_table : {n : ℕ} {p : Tree program} (rest others : List ℕ) → Good n p → Held n (sheet (preorder p ++ rest) (column p ++ others)) (nodes p) p
front_table rest others g = front_held rest others g.small g.ranges

-- what is put at a front is so held
pub put_held : {n : ℕ} {p : Tree program} (old : Sheet) → Good n p → Held n (put_front p old) (nodes p) p
put_held {p = p} old g = front_table (drop (length (preorder p)) old.numbers) (drop (length (column p)) old.sizes) g

-- and what an end leaves
pub end_held : {n : ℕ} (table : Sheet) (ts : List (Tree term)) → Good n (program_of ts) → Held n (end_table table ts) (size ts) (program_of ts)
end_held table ts g =
    let p = program_of ts in
    front_table (replicate (length table.numbers - length (preorder p)) 0) (replicate (length table.sizes - length (column p)) 0) g

-- what an accepted read has read
pub read_gives : {n : ℕ} {b : List ℕ} {out : Sheet} {v : Values} {o : Sheet} → Reads n b out v o → v.refusal ≡ 0 → HasRead n b out v o
read_gives {n} {b} {out} (read p a t) e =
    let small : n < nodes p → ⊥ = λ h. a.1.1.1.1.1.0 (p, (t, h)) in
    let fits : holds out < nodes p → ⊥ = λ h. a.1.1.1.1.1.1.1.0 (p, (t, h)) in
    let good : Good n p = record {
      small = omega arith;
      ranges = t.ranges;
      closed = closed_stable 0 p (λ f. a.1.1.1.1.0 (p, (t, f)));
      coherent = coherent_stable (threads p) (λ f. a.1.1.1.1.1.1.0 (p, (t, f)));
    } in
    record { program = p; good = good; is = t.is; fits = omega arith; values = refl; left = refl; back = put_held out good }
read_gives (refused r g) e = absurd (omega (arith, number_positive r))

-- reading is accepted exactly of the texts of good programs that fit the output
pub reads_iff : {n : ℕ} {b : List ℕ} {out : Sheet} {v : Values} {o : Sheet} → n ≤ 65536 → Reads n b out v o → (v.refusal ≡ 0) ↔ Readable n b out
reads_iff l h = (
  (λ e. let r = read_gives h e in record { program = r.program; good = r.good; is = r.is; held = omega (arith, r.good.small, r.fits) }),
  (λ f. ap (λ (x : Values). x.refusal) (good_read_only f.good l (omega (arith, f.good.small, f.held)) (rw (← f.is) at h)).0),
)

-- what an accepted write has written
pub write_gives : {n : ℕ} {table : Sheet} {count : ℕ} {out : List ℕ} {v : Values} {o : List ℕ} → Writes n table count out v o → v.refusal ≡ 0 → HasWritten n table count out v o
write_gives {n} {table} {out = out} (written p a t) e =
    let fits : length out < length (text p) → ⊥ = λ h. a.1.1.1.1.0 (p, (t, h)) in
    let (good, held) = table_good table (a.0, (a.1.0, (a.1.1.0, (a.1.1.1.0, tt)))) t in
    let begins : take (length (text p)) (front (text p) out) ≡ text p = take_at (text p) (drop (length (text p)) out) (length (text p)) refl in
    record { program = p; there = held; good = good; fits = omega arith; values = refl; left = refl; back = λ l r h. good_read_only good l r (rw begins at h) }
write_gives (not_written r g) e = absurd (omega (arith, number_positive r))

-- writing is accepted exactly where a good program stands, with its column, whose text fits the output
pub writes_iff : {n : ℕ} {table : Sheet} {count : ℕ} {out : List ℕ} {v : Values} {o : List ℕ} → Writes n table count out v o → (v.refusal ≡ 0) ↔ Writable n table count out
writes_iff h = (
  (λ e. let r = write_gives h e in record { program = r.program; there = r.there; good = r.good; held = omega (arith, r.fits) }),
  (λ f. ap (λ (x : Values). x.refusal) (good_written_only f.good f.there (omega (arith, f.held)) h).0),
)

-- a code is that of one standing
code_told : (s r : Standing) → (standing_code s ∷ [] ≡ standing_code r ∷ []) ↔ (s ≡ r)
code_told s r = (λ e. standing_injective s r (ap (λ (l : List ℕ). get_or l 0 0) e), ap (λ (x : Standing). standing_code x ∷ []))

-- threads with one more among them are others
one_among : (before : List (Tree term)) (t : Tree term) (after : List (Tree term)) → before ++ (t ∷ after) ≡ before ++ after → ⊥
one_among before t after e = omega (arith, simp length-append at (ap length e))

-- by document 003's rules a goal whose values nothing makes equal leaves no thread, and another one the thread with its unifier applied
rewrites_settle : {w : Weak} {rule : Rule} {r : Tree term} {new : List (Tree term)} (h : Rewrites w rule r new) → LeastNames h → (x y : Tree term) → r ≡ two unif x y →
    ((new ≡ []) × ((τ : Substitution) → Solves τ x y → ⊥)) ⊎ ((σ : Substitution) × (Unifier x y σ × (new ≡ substitute σ (plug w ok) ∷ [])))
rewrites_settle (alloc p l a) m x y e = impossible (cc)
rewrites_settle (beta l p v a) m x y e = impossible (cc)
rewrites_settle (fresh_variable t z a) m x y e = impossible (cc)
rewrites_settle (guard_passed v t a) m x y e = impossible (cc)
rewrites_settle (unified v u σ a b g) m x y e = let i : v ≡ x = cc in let j : u ≡ y = cc in inr (σ, (rw (← i, ← j) m, refl))
rewrites_settle (failed v u a b f) m x y e = let i : v ≡ x = cc in let j : u ≡ y = cc in inl (refl, rw (← i, ← j) f)

-- a thread is dropped by its goal exactly if no substitution makes the two values equal
pub goal_settled : {ts : List (Tree term)} {s : Step} (c : Chosen ts s) (x y : Tree term) → c.reduces.redex ≡ two unif x y → Settled ts s c x y
goal_settled {s = s} c x y e = go (rewrites_settle c.reduces.rewrites c.names x y e)
  where
    go : ((c.reduces.new ≡ []) × ((τ : Substitution) → Solves τ x y → ⊥)) ⊎ ((σ : Substitution) × (Unifier x y σ × (c.reduces.new ≡ substitute σ (plug c.reduces.context ok) ∷ []))) → Settled _ s c x y
    go (inl (i, f)) = record { dropped = ((λ k. f), λ k. rw i at c.reduces.to); kept = λ k. absurd (k f) }
    go (inr (σ, (u, i))) = let is = rw i at c.reduces.to in record { dropped = ((λ k. absurd (one_among c.reduces.before _ c.reduces.after (sym is ∙ k))), λ f. absurd (f σ u.solves)); kept = λ k. (σ, (u, is)) }

-- a step of the table is a step of the program in it
pub table_step : {n : ℕ} {numbers : List ℕ} {count : ℕ} {p q : Tree program} {s : Step} → TableOf n numbers count p → StepsTo n numbers count q s → step (threads p) ≡ some s
table_step t k = ap (λ (x : Tree program). step (threads x)) (table_of_unique t k.table_of) ∙ k.steps

module _ {n : ℕ} {table : Sheet} {count : ℕ} where
  -- what an accepted step has stepped
  pub step_gives : {out : Sheet} {v : Values} {o : Sheet} → StepsInto n table count out v o → v.refusal ≡ 0 → HasStepped n table count out v o
  step_gives {out} (stepped p s a k) e =
      let (good, held) = table_good table (a.0, (a.1.0, (a.1.1.0, (a.1.1.1.1.0, tt)))) k.table_of in
      let small : n < size s.result → ⊥ = λ h. a.1.1.1.0 (p, (s, (k, (good.coherent, h)))) in
      let fits : holds out < size s.result → ⊥ = λ h. a.1.1.1.1.1.0 (p, (s, (k, h))) in
      let result_good : Good n (program_of s.result) = step_good n (threads p) (rw program_of_threads good) k.steps (omega arith) in
      record {
        program = p;
        there = held;
        good = good;
        step = s;
        chosen = step_chosen (threads p) good.coherent k.steps;
        goal = goal_settled (step_chosen (threads p) good.coherent k.steps);
        fits = omega arith;
        values = refl;
        left = refl;
        result_good = result_good;
        back = put_held out result_good;
      }
  step_gives (not_stepped r g) e = absurd (omega (arith, number_positive r))

  -- 11 is given of a good program in which every thread is a value or stuck
  pub step_finished : {out : Sheet} {v : Values} {o : Sheet} → StepsInto n table count out v o → v.refusal ≡ 11 → (p : Tree program) × (Held n table count p × (Good n p × All Normal (threads p)))
  step_finished (stepped p s a k) e = absurd (omega arith)
  step_finished {out} (not_stepped r g) e = go g
    where
      go : Refuses (step_refusals n table count out) r → (p : Tree program) × (Held n table count p × (Good n p × All Normal (threads p)))
      go (inl (h, q)) = absurd (omega (arith, ap number q))
      go (inr (a, inl (h, q))) = absurd (omega (arith, ap number q))
      go (inr (a, inr (b, inl (h, q)))) = absurd (omega (arith, ap number q))
      go (inr (a, inr (b, inr (c, inl (h, q))))) = absurd (omega (arith, ap number q))
      go (inr (a, inr (b, inr (c, inr (d, inl (h, q)))))) = absurd (omega (arith, ap number q))
      go (inr (a, inr (b, inr (c, inr (d, inr (f, inl (h, q))))))) = absurd (omega (arith, ap number q))
      go (inr (a, inr (b, inr (c, inr (d, inr (f, inr (j, inl ((p, (t, i)), q)))))))) =
          let (good, held) = table_good table (a, (b, (c, (f, tt)))) t in
          (p, (held, (good, no_step_normal (threads p) (all_threads (λ s t. Closed 0 t) (λ t q c. c) p good.closed) i)))
      go (inr (a, inr (b, inr (c, inr (d, inr (f, inr (j, inr (i, h)))))))) = absurd h

  -- a good program in a table is stepped into an output with room for the result
  pub good_steps : {out : Sheet} {v : Values} {o : Sheet} {p : Tree program} {s : Step} → Held n table count p → Good n p → step (threads p) ≡ some s → size s.result ≤ n → size s.result ≤ holds out → StepsInto n table count out v o →
      (v ≡ record { refusal = 0; values = size s.result ∷ rule_code s.rule ∷ s.thread ∷ [] }) × (o ≡ put_front (program_of s.result) out)
  good_steps {p = p} {s} held g e l r h =
      let t = held.table_of in
      let a = good_table held g in
      let same : (q : Tree program) (x : Step) → StepsTo n table.numbers count q x → size x.result ≡ size s.result = λ q x k. let i = table_step t k in cc in
      steps_once h (
      stepped p s (
        a.0,
        (
          a.1.0,
          (
            a.1.1.0,
            (
              (λ k. omega (arith, k.1.1.1.1, same k.0 k.1.0 k.1.1.0)),
              (
                a.1.1.1.0,
                (
                  (λ k. omega (arith, k.1.1.1, same k.0 k.1.0 k.1.1.0)),
                  ((λ k. impossible (cc (e, k.1.1, ap (λ (x : Tree program). step (threads x)) (table_of_unique k.1.0 t)))), tt),
                ),
              ),
            ),
          ),
        ),
      )
      (record { table_of = t; steps = e })
      )

  -- and given 11 where it has no step
  pub good_stopped : {out : Sheet} {v : Values} {o : Sheet} {p : Tree program} → Held n table count p → Good n p → step (threads p) ≡ none → StepsInto n table count out v o → (v ≡ refused_step Finished) × (o ≡ out)
  good_stopped {p = p} held g e h =
      let t = held.table_of in
      let a = good_table held g in
      let never : (q : Tree program) (s : Step) → StepsTo n table.numbers count q s → ⊥ = λ q s k. impossible (cc (e, table_step t k)) in
      steps_once h (not_stepped Finished (inr (a.0, inr (a.1.0, inr (a.1.1.0, inr ((λ k. never k.0 k.1.0 k.1.1.0), inr (a.1.1.1.0, inr ((λ k. never k.0 k.1.0 k.1.1.0), inl ((p, (t, e)), refl)))))))))

  -- so of every good program in which every thread is a value or stuck
  pub finished_step : {out : Sheet} {v : Values} {o : Sheet} {p : Tree program} → StepsInto n table count out v o → Held n table count p → Good n p → All Normal (threads p) → v.refusal ≡ 11
  finished_step {p = p} h t g a = ap (λ (x : Values). x.refusal) (good_stopped t g (normal_no_step (threads p) a) h).0

  -- what an accepted run has run
  pub run_gives : {work : Sheet} {limit : ℕ} {v : Values} {t w : Sheet} → RunsWith n table count work limit v t w → v.refusal ≡ 0 → HasRun n table count work limit v t w
  run_gives {work} {limit} (ran p a t) e =
      let (good, held) = table_good table (a.0, (a.1.0, (a.1.1.0, (a.1.1.1.0, tt)))) t in
      let room = room_of n table work in
      let end : End (List (Tree term)) = run room limit (threads p) in
      let threads_good = all_both (Closed 0) Coherent (threads p) (all_threads (λ s t. Closed 0 t) (λ t q c. c) p good.closed) good.coherent in
      let result_good : Good n (program_of end.last) = run_good n room limit (threads p) (rw program_of_threads good) (omega arith) in
      record {
        program = p;
        there = held;
        good = good;
        end = end;
        is_run = program_run_is room limit (threads p);
        rewritings = run_reductions room limit (threads p) threads_good;
        choices = run_choices room limit (threads p) threads_good;
        counts = run_counts room limit (threads p);
        counted = counts_steps room limit (threads p) threads_good;
        summed = counts_sum room limit (threads p);
        values = refl;
        left = refl;
        cleared = refl;
        result_good = result_good;
        back = end_held table end.last result_good;
      }
  run_gives (not_run r g) e = absurd (omega (arith, number_positive r))

  -- a thread that the standing call accepts is closed and coherent, and the column is right
  thread_good : {k : ℕ} {t : Tree term} → Accepts (thread_refusals n table count k) → (o : ThreadOf n table.numbers count k t) → let p = program_of (o.before ++ (t ∷ o.after)) in Good n p × Held n table count p × Closed 0 t × Coherent t
  thread_good {t = t} a o =
      let ts : List (Tree term) = o.before ++ (t ∷ o.after) in
      let (good, held) = table_good table (a.0, (a.1.0, (a.1.1.0, (a.1.1.1.0, tt)))) o.table_of in
      (good, held, all_at (Closed 0) o.before t o.after (good_closed n ts good), all_at Coherent o.before t o.after (good_coherent n ts good))

  -- what an accepted standing call has told
  pub has_stood : {k : ℕ} {v : Values} → StandsAt n table count k v → v.refusal ≡ 0 → HasStood n table count k v
  has_stood (stands t a o) e =
      let (good, held, closed, coherent) = thread_good a o in
      let told : (s : Standing) → (standing_code (standing t) ∷ [] ≡ standing_code s ∷ []) ↔ (standing t ≡ s) = code_told (standing t) in
      let says : (s : Standing) → (standing_code (standing t) ∷ [] ≡ standing_code s ∷ []) ↔ Says s t = λ s. Iff.trans (told s) (standing_exactly t closed coherent s) in
      let value_or = value_exactly t closed coherent in
      record {
        thread = t;
        thread_of = o;
        column_of = held.column_of;
        good = good;
        standing = standing t;
        values = refl;
        answer_told = says Answer;
        stuck_told = says Stuck;
        open_told = says Open;
        partial_told = Iff.trans (told Partial) (partial_exactly t closed coherent);
        value_told = (
          (λ f. value_or.0 (⊎_elim (λ i. inl ((told Answer).0 i)) (λ i. inr ((told Partial).0 i)) f)),
          λ u. ⊎_elim (λ i. inl ((told Answer).1 i)) (λ i. inr ((told Partial).1 i)) (value_or.1 u),
        );
        answer_stays = λ f. let w = (says Answer).0 f in ((λ σ. whole_substitute σ t w), λ i u. whole_put_in i u t w);
      }
  has_stood (not_stood r g) e = absurd (omega (arith, number_positive r))

  -- not open, it is told as an answer exactly if it holds no free variable and no allocated abstraction
  pub told_finished : {k : ℕ} (t : Tree term) → Accepts (thread_refusals n table count k) → ThreadOf n table.numbers count k t → (standing_code (standing t) ∷ [] ≡ 3 ∷ [] → ⊥) → (standing_code (standing t) ∷ [] ≡ 1 ∷ []) ↔ (Holding t → ⊥)
  told_finished t a o f = let (good, held, closed, coherent) = thread_good a o in Iff.trans (code_told (standing t) Answer) (answer_exactly t closed coherent (λ e. f ((code_told (standing t) Open).1 e)))

  -- a run that nothing refuses tells and leaves what the run of the program in the table does
  pub runs_as : {work : Sheet} {limit : ℕ} {v : Values} {t w : Sheet} {p : Tree program} → Accepts (run_refusals n table count work) → TableOf n table.numbers count p → RunsWith n table count work limit v t w →
      (v ≡ values_of_run (run (room_of n table work) limit (threads p)) (run_counts (room_of n table work) limit (threads p))) × (t ≡ end_table table (run (room_of n table work) limit (threads p)).last)
  runs_as {p = p} a k h = let e = runs_once h (ran p a k) in (e.0, e.1)

  -- a good program in a table is run with a work table that holds it, whatever the step limit
  pub good_runs : {work : Sheet} {limit : ℕ} {v : Values} {t w : Sheet} {p : Tree program} → Held n table count p → Good n p → count ≤ holds work → RunsWith n table count work limit v t w →
      (v ≡ values_of_run (run (room_of n table work) limit (threads p)) (run_counts (room_of n table work) limit (threads p))) × (t ≡ end_table table (run (room_of n table work) limit (threads p)).last)
  good_runs k g r h = let a = good_table k g in runs_as (a.0, (a.1.0, (a.1.1.0, (a.1.1.1.0, ((λ l. omega arith), tt))))) k.table_of h

  -- a good program is always written into an output of the longest text
  pub good_writes : {out : List ℕ} {v : Values} {o : List ℕ} {p : Tree program} → Held n table count p → Good n p → n ≤ 65536 → 12 * n ≤ length out → Writes n table count out v o → (v ≡ accepted (length (text p))) × (o ≡ front (text p) out)
  good_writes {p = p} t g l r h = good_written_only g t (omega (arith, text_length n p (omega arith) g.ranges, g.small)) h
