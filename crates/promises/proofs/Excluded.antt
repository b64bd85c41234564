-- Document 01 (c) over the calls' contracts: of every outcome that they allow, each excluded with a program that shows it.
use mathlib.Core.Path.{◌≡◌, refl, sym, ap, ◌∙◌}
use mathlib.Core.Logic.{◌⊎◌, inl, inr}
use mathlib.Core.List.{List, [], ◌∷◌, ◌++◌}
use mathlib.Core.Option.{some, bind}
use Prim.Native.Nat.{ℕ, suc, ◌-◌, ◌≤◌}
use native.Mathlib.Omega.{arith}
use lib.ListN.{take}
use Rattle.calculus.specs.declared.Reason.{Reason}
use Rattle.calculus.specs.declared.Reason.TheVariants.{Ended}
use Rattle.calculus.specs.declared.Rule.TheVariants.{Guard}
use Rattle.calculus.specs.declared.Counts.{Counts}
use Rattle.calculus.specs.Tree.{Sort, term, program, guard, unif, Head, code, at, Tree, empty, alt, bound, free, con, abs, fresh, two, preorder, nodes, program_of, uses}
use Rattle.calculus.specs.Put.{put_in, substitute}
use Rattle.calculus.specs.Value.{single, structure, value}
use Rattle.calculus.specs.Unify.{one, all, shape, takes, carry, meet, solve, unify}
use Rattle.calculus.specs.Redex.{plug, own, redexes}
use Rattle.calculus.specs.Step.{least_from, variable_for, rewriting, first, step_thread, Step, step}
use Rattle.calculus.specs.Sheets.{Sheet, holds}
use Rattle.calculus.specs.Run.{End, size, room_of}
use Rattle.calculus.specs.Tally.{no_counts, one_more, Tally, uncounted, counted_run}
use Rattle.calculus.specs.Text.{text}
use Rattle.calculus.specs.Good.{InRange, Closed, Holds, Coherent, All, Good}
use Rattle.calculus.specs.Answers.{Values}
use Rattle.calculus.specs.Calls.{front, put_front, TextOf, Reads, end_table, values_of_run, StepsInto, RunsWith}
use Rattle.calculus.proofs.Alls.{all_each}
use Rattle.calculus.proofs.Preorders.{threads_of_program}
use Rattle.calculus.proofs.Texts.{text_injective}
use Rattle.calculus.proofs.Tallies.{counted_ended, counted_goes, counted_tells}
use Rattle.calculus.proofs.Exclusions.{step_accepts, reader_accepts}
use Rattle.promises.specs.Worked.{Held}
use Rattle.promises.specs.Rules.{steps_told}
use Rattle.promises.proofs.Refused.{reads_exactly}
use Rattle.promises.proofs.Worked.{good_steps, good_runs}

-- Coherence of threads with at most one allocated abstraction.

abbrev head_closures : Head → Tree program → List (ℕ × Tree program)
head_closures code p = []
head_closures (at l) p = (l, p) ∷ []

-- the allocated abstractions of a tree, location and body, inside every body too
unfoldable pub closures : {s : Sort} → Tree s → List (ℕ × Tree program)
closures empty = []
closures (alt t p) = closures t ++ closures p
closures (bound i) = []
closures (free x) = []
closures (con c) = []
closures (abs h p) = head_closures h p ++ closures p
closures (fresh t) = closures t
closures (two o s t) = closures s ++ closures t

abbrev Among : ℕ → Tree program → List (ℕ × Tree program) → Type 0
Among l q [] = ⊥
Among l q (c ∷ cs) = ((c.0 ≡ l) × (c.1 ≡ q)) ⊎ Among l q cs

module _ (l : ℕ) (q : Tree program) where
  among_left : (cs ds : List (ℕ × Tree program)) → Among l q cs → Among l q (cs ++ ds)
  among_left [] ds h = absurd h
  among_left (c ∷ cs) ds (inl h) = inl h
  among_left (c ∷ cs) ds (inr h) = inr (among_left cs ds h)

  among_right : (cs ds : List (ℕ × Tree program)) → Among l q ds → Among l q (cs ++ ds)
  among_right [] ds h = h
  among_right (c ∷ cs) ds h = inr (among_right cs ds h)

  -- they are all there
  pub holds_among : {s : Sort} (t : Tree s) → Holds l q t → Among l q (closures t)
  unfolding closures
  holds_among empty h = absurd h
  holds_among (alt t p) (inl h) = among_left (closures t) (closures p) (holds_among t h)
  holds_among (alt t p) (inr h) = among_right (closures t) (closures p) (holds_among p h)
  holds_among (bound i) h = absurd h
  holds_among (free x) h = absurd h
  holds_among (con c) h = absurd h
  holds_among (abs code p) (inl h) = absurd h
  holds_among (abs (at m) p) (inl h) = inl h
  holds_among (abs h p) (inr k) = among_right (head_closures h p) (closures p) (holds_among p k)
  holds_among (fresh t) h = holds_among t h
  holds_among (two o s t) (inl h) = among_left (closures s) (closures t) (holds_among s h)
  holds_among (two o s t) (inr h) = among_right (closures s) (closures t) (holds_among t h)

-- none, or one whose body has no index beyond its own binder
abbrev pub OneAtMost : List (ℕ × Tree program) → Type 0
OneAtMost [] = Unit {0}
OneAtMost (c ∷ []) = Closed 1 c.1
OneAtMost (c ∷ d ∷ cs) = ⊥

-- a thread with none is coherent, and one with one whose body has no index beyond its own binder
one_coherent : (t : Tree term) → OneAtMost (closures t) → Coherent t
one_coherent t h = go (closures t) h (λ l q. holds_among l q t)
  where
    go : (cs : List (ℕ × Tree program)) → OneAtMost cs → ((l : ℕ) (q : Tree program) → Holds l q t → Among l q cs) → Coherent t
    go [] o f = record { within = λ l p h. absurd (f l p h); equal = λ l p q h k. absurd (f l p h) }
    go (c ∷ []) o f = record {
      within = λ l p h. elim (f l p h) [ inl i ↦ rw i.1 at o | inr i ↦ absurd i ];
      equal = λ l p q h k. elim (f l p h) [ inl i ↦ elim (f l q k) [ inl j ↦ sym i.1 ∙ j.1 | inr j ↦ absurd j ] | inr i ↦ absurd i ];
    }
    go (c ∷ d ∷ cs) o f = absurd o

-- so is a thread with two, at two locations
pub two_coherent : (t : Tree term) (c d : ℕ × Tree program) → closures t ≡ c ∷ d ∷ [] → (c.0 ≡ d.0 → ⊥) → Closed 1 c.1 → Closed 1 d.1 → Coherent t
two_coherent t c d e f x y = go (λ l q h. rw e at (holds_among l q t h))
  where
    same : (l : ℕ) (p q : Tree program) → Among l p (c ∷ d ∷ []) → Among l q (c ∷ d ∷ []) → p ≡ q
    same l p q (inl i) (inl j) = sym i.1 ∙ j.1
    same l p q (inl i) (inr (inl j)) = absurd (f (i.0 ∙ sym j.0))
    same l p q (inl i) (inr (inr j)) = absurd j
    same l p q (inr (inl i)) (inl j) = absurd (f (j.0 ∙ sym i.0))
    same l p q (inr (inl i)) (inr (inl j)) = sym i.1 ∙ j.1
    same l p q (inr (inl i)) (inr (inr j)) = absurd j
    same l p q (inr (inr i)) j = absurd i

    body : (l : ℕ) (p : Tree program) → Among l p (c ∷ d ∷ []) → Closed 1 p
    body l p (inl i) = rw i.1 at x
    body l p (inr (inl i)) = rw i.1 at y
    body l p (inr (inr i)) = absurd i

    go : ((l : ℕ) (q : Tree program) → Holds l q t → Among l q (c ∷ d ∷ [])) → Coherent t
    go g = record { within = λ l p h. body l p (g l p h); equal = λ l p q h k. same l p q (g l p h) (g l q k) }

-- threads within the limit and in range are a good program if they are closed and have one allocated abstraction at most
pub one_good : {n : ℕ} (ts : List (Tree term)) → size ts ≤ n → InRange n (program_of ts) → Closed 0 (program_of ts) → All (λ t. OneAtMost (closures t)) ts → Good n (program_of ts)
one_good ts l r c o = record { small = l; ranges = r; closed = c; coherent = rw threads_of_program (all_each (λ t. OneAtMost (closures t)) Coherent ts one_coherent o) }

-- threads that stand in a table are within the limit and in range
held_good : {n : ℕ} {table : Sheet} {count : ℕ} (ts : List (Tree term)) → Held n table count (program_of ts) → Closed 0 (program_of ts) → All (λ t. OneAtMost (closures t)) ts → Good n (program_of ts)
held_good ts h c o = one_good ts (omega (arith, h.table_of.counts, h.table_of.small)) h.table_of.ranges c o

-- a counted run that stopped, with its counts
abbrev pub stopped : Reason → ℕ → List (Tree term) → Counts → End (Tally (List (Tree term)))
stopped r k ts c = record { reason = r; taken = k; last = record { state = ts; counts = c } }

-- with the counted run of the threads in hand
pub runs_to : {n : ℕ} {table : Sheet} {count : ℕ} {work : Sheet} {limit : ℕ} {v : Values} {t w : Sheet} {r : Reason} {k : ℕ} {q : List (Tree term)} {c : Counts} (ts : List (Tree term)) →
    Held n table count (program_of ts) → Good n (program_of ts) → count ≤ holds work → counted_run (room_of n table work) limit (uncounted ts) ≡ stopped r k q c → RunsWith n table count work limit v t w →
    (v ≡ values_of_run (record { reason = r; taken = k; last = q }) c) × (t ≡ end_table table q)
runs_to {n} {table} {work = work} {limit} ts h g l i z = let (j, d) = counted_tells (room_of n table work) limit ts i in rw (threads_of_program ts, j, d) at (good_runs h g l z)

-- A reader may not always refuse: the text `()` is read under every limit, whatever the output holds.
pub reader_must_read : {n : ℕ} {out : Sheet} {v : Values} {o : Sheet} → Reads n (text empty) out v o → 1 ≤ n → 1 ≤ holds out → v.refusal ≡ 0
unfolding nodes
reader_must_read {n} i l r =
    let a = (reads_exactly (reader_accepts n 0 0 0 l)).accepted_only refl in
    let fits : (p : Tree program) → TextOf n (text empty) p → nodes p ≡ 1 = λ p t. ap nodes (text_injective p empty t.is) in
    (reads_exactly i).accepted (a.0, (a.1.0, (a.1.1.0, (a.1.1.1.0, (a.1.1.1.1.0, (a.1.1.1.1.1.0, (a.1.1.1.1.1.1.0, ((λ k. omega (arith, k.1.1, fits k.0 k.1.0)), tt))))))))

-- Nor may a step: `((n b0))` steps to `(x0)`.
pub step_must_step : {n : ℕ} {table : Sheet} {count : ℕ} {out : Sheet} {v : Values} {o : Sheet} → Held n table count (program_of (fresh (bound 0) ∷ [])) → 3 ≤ holds out → StepsInto n table count out v o →
    (v.refusal ≡ 0) × (o ≡ put_front (program_of (free 0 ∷ [])) out)
unfolding nodes program_of closures
step_must_step h r i =
    let z = good_steps h (held_good (fresh (bound 0) ∷ []) h (omega arith) (tt, tt)) (ap step (threads_of_program (fresh (bound 0) ∷ [])) ∙ step_accepts) (omega (arith, h.table_of.counts, h.table_of.small)) (omega arith) i in
    (ap (λ (v : Values). v.refusal) z.0, z.1)

-- the run of one constructor ends in it at once
constructor_end : (room limit c : ℕ) → counted_run room limit (uncounted (con c ∷ [])) ≡ stopped Ended 0 (con c ∷ []) no_counts
unfolding substitute own redexes first step_thread step
constructor_end room limit c = counted_ended (uncounted (con c ∷ [])) room limit refl

leaves_constructor : {n : ℕ} {table : Sheet} {count c : ℕ} {work : Sheet} {k : ℕ} {v : Values} {t w : Sheet} → Held n table count (program_of (con c ∷ [])) → count ≤ holds work → RunsWith n table count work k v t w → take 4 t.numbers ≡ 1 ∷ 0 ∷ 4 ∷ c ∷ []
unfolding closures preorder program_of
leaves_constructor {n} {table} {c = c} {work} {k} h l r = rw (runs_to (con c ∷ []) h (held_good (con c ∷ []) h (omega arith) (tt, tt)) l (constructor_end (room_of n table work) k c) r).1

-- One fixed end program does not serve: what a run leaves of `(c1)` differs from what a run leaves of `(c2)` in the first four numbers, whatever the limits.
pub ends_must_differ : {n : ℕ} {table table' : Sheet} {count count' : ℕ} {work work' : Sheet} {k k' : ℕ} {v v' : Values} {t t' w w' : Sheet} →
    Held n table count (program_of (con 1 ∷ [])) → Held n table' count' (program_of (con 2 ∷ [])) → count ≤ holds work → count' ≤ holds work' →
    RunsWith n table count work k v t w → RunsWith n table' count' work' k' v' t' w' → take 4 t.numbers ≡ take 4 t'.numbers → ⊥
ends_must_differ {table = table} {table'} h h' l l' r r' e =
    let a = leaves_constructor h l r in
    let a' = leaves_constructor h' l' r' in
    let z : ◌≡◌ {A = ℕ} 1 2 = cc in omega arith

-- A step may not copy its input: `((g c1 c2))` does not step to itself.
pub step_must_not_copy : {n : ℕ} {table : Sheet} {count : ℕ} {out : Sheet} {v : Values} {o : Sheet} → Held n table count (program_of (two guard (con 1) (con 2) ∷ [])) → 3 ≤ holds out → StepsInto n table count out v o →
    o.numbers ≡ front (preorder (program_of (two guard (con 1) (con 2) ∷ []))) out.numbers → ⊥
unfolding nodes preorder program_of closures substitute single structure value plug own redexes rewriting first step_thread step
step_must_not_copy h r i e =
    let ts = two guard (con 1) (con 2) ∷ [] in
    let z = ap (λ (s : Sheet). s.numbers) (good_steps h (held_good ts h (omega arith) (tt, tt)) (ap step (threads_of_program ts)) (omega (arith, h.table_of.counts, h.table_of.small)) (omega arith) i).1 in
    let y : ◌≡◌ {A = ℕ} 4 9 = cc in omega arith

-- one step of a counted run, its result within the room
pub goes_on : {r : Reason} {j : ℕ} {e : List (Tree term)} {c : Counts} (room limit : ℕ) (t : Tally (List (Tree term))) {s : Step} → step t.state ≡ some s → size s.result ≤ room →
    counted_run room limit (record { state = s.result; counts = one_more t.counts s.rule }) ≡ stopped r j e c → counted_run room (suc limit) t ≡ stopped r (suc j) e c
goes_on room limit t h l i = counted_goes t h room limit l ∙ ap (λ (x : End (Tally (List (Tree term)))). record { reason = x.reason; taken = suc x.taken; last = x.last }) i

-- `((g (u x0 c1) x0) (g (u x0 c2) x0))`
abbrev two_threads : List (Tree term)
two_threads = two guard (two unif (free 0) (con 1)) (free 0) ∷ two guard (two unif (free 0) (con 2)) (free 0) ∷ []

abbrev two_goals : Counts
two_goals = record { alloc = 0; beta = 0; fresh = 0; guard = 2; unif = 2; fail = 0 }

two_threads_run : (room limit : ℕ) → 13 ≤ room → 4 ≤ limit → counted_run room limit (uncounted two_threads) ≡ stopped Ended 4 (con 1 ∷ con 2 ∷ []) two_goals
unfolding nodes program_of uses substitute single structure value one all shape takes carry meet solve unify plug own redexes rewriting first step_thread step bind
two_threads_run room limit l k =
    let j = limit - 4 in
    let e : limit ≡ suc (suc (suc (suc j))) = omega arith in
    let other = two guard (two unif (free 0) (con 2)) (free 0) ∷ [] in
    let a = two guard (con 0) (con 1) ∷ other in
    let b = con 1 ∷ other in
    let c = con 1 ∷ two guard (con 0) (con 2) ∷ [] in
    let d = con 1 ∷ con 2 ∷ [] in
    let at : List (Tree term) → ℕ → ℕ → Tally (List (Tree term)) = λ ts g u. record { state = ts; counts = record { alloc = 0; beta = 0; fresh = 0; guard = g; unif = u; fail = 0 } } in
    rw e
    (goes_on room (suc (suc (suc j))) (uncounted two_threads) refl (omega arith)
    (goes_on room (suc (suc j)) (at a 0 1) refl (omega arith) (goes_on room (suc j) (at b 1 1) refl (omega arith) (goes_on room j (at c 1 2) refl (omega arith) (counted_ended (at d 2 2) room j refl)))))

-- A run may not work its first thread alone: with `x0` in both, each thread of `((g (u x0 c1) x0) (g (u x0 c2) x0))` is worked with bindings of its own, 4 steps in all.
pub run_must_work_every_thread : {n : ℕ} {table : Sheet} {count : ℕ} {work : Sheet} {limit : ℕ} {v : Values} {t w : Sheet} →
    Held n table count (program_of two_threads) → count ≤ holds work → 4 ≤ limit → RunsWith n table count work limit v t w →
    (v ≡ values_of_run (record { reason = Ended; taken = 4; last = con 1 ∷ con 2 ∷ [] }) two_goals) × (t ≡ end_table table (con 1 ∷ con 2 ∷ []))
unfolding nodes program_of closures
run_must_work_every_thread {n} {table} {count} {work} {limit} h l k r = runs_to two_threads h (held_good two_threads h (omega arith) (tt, (tt, tt))) l (two_threads_run (room_of n table work) limit (omega (arith, h.table_of.counts, h.table_of.small, h.table_of.within, h.column_of.long)) k) r

-- The step count may not be made up: `()` takes none, `((g c1 c2))` takes one.
pub count_must_be_right : {n : ℕ} {table table' : Sheet} {count count' : ℕ} {work work' : Sheet} {k k' : ℕ} {v v' : Values} {t t' w w' : Sheet} →
    Held n table count empty → Held n table' count' (program_of (two guard (con 1) (con 2) ∷ [])) → count ≤ holds work → count' ≤ holds work' → 1 ≤ k' →
    RunsWith n table count work k v t w → RunsWith n table' count' work' k' v' t' w' → (steps_told v ≡ 0) × (steps_told v' ≡ 1)
unfolding nodes program_of closures substitute single structure value plug own redexes rewriting first step_thread step
count_must_be_right {n} {table} {table'} {work = work} {work'} {k} {k'} h h' l l' m r r' =
    let ts = two guard (con 1) (con 2) ∷ [] in
    let d = con 2 ∷ [] in
    let j = k' - 1 in
    let e : k' ≡ suc j = omega arith in
    let room = room_of n table' work' in
    let c : Counts = one_more no_counts Guard in
    let i : counted_run room k' (uncounted ts) ≡ stopped Ended 1 d c = rw e (goes_on room j (uncounted ts) refl (omega (arith, h'.table_of.counts, h'.table_of.small, h'.table_of.within, h'.column_of.long)) (counted_ended (record { state = d; counts = c }) room j refl)) in (
      ap steps_told (runs_to [] h (held_good [] h tt tt) l (counted_ended (uncounted []) (room_of n table work) k refl) r).0,
      ap steps_told (runs_to ts h' (held_good ts h' (omega arith) (tt, tt)) l' i r').0,
    )

-- `((n (g (u b0 c1) b0)))`
abbrev one_goal : List (Tree term)
one_goal = fresh (two guard (two unif (bound 0) (con 1)) (bound 0)) ∷ []

one_goal_run : (room limit : ℕ) → 7 ≤ room → 3 ≤ limit → counted_run room limit (uncounted one_goal) ≡ stopped Ended 3 (con 1 ∷ []) (record { alloc = 0; beta = 0; fresh = 1; guard = 1; unif = 1; fail = 0 })
unfolding nodes program_of uses put_in substitute single structure value one all shape takes carry meet solve unify plug own redexes least_from variable_for rewriting first step_thread step bind
one_goal_run room limit l k =
    let j = limit - 3 in
    let e : limit ≡ suc (suc (suc j)) = omega arith in
    let at : List (Tree term) → ℕ → ℕ → Tally (List (Tree term)) = λ ts g u. record { state = ts; counts = record { alloc = 0; beta = 0; fresh = 1; guard = g; unif = u; fail = 0 } } in
    rw e
    (goes_on room (suc (suc j)) (uncounted one_goal) refl (omega arith)
    (goes_on room (suc j) (at (two guard (two unif (free 0) (con 1)) (free 0) ∷ []) 0 0) refl (omega arith) (goes_on room j (at (two guard (con 0) (con 1) ∷ []) 0 1) refl (omega arith) (counted_ended (at (con 1 ∷ []) 1 1) room j refl))))

-- The six counts may not be made up: a run of `((n (g (u b0 c1) b0)))` takes a step each by fresh, guard and unif, and no other, in every room that holds it.
pub counts_must_be_right : {n : ℕ} {table : Sheet} {count : ℕ} {work : Sheet} {limit : ℕ} {v : Values} {t w : Sheet} → Held n table count (program_of one_goal) → count ≤ holds work → 3 ≤ limit → RunsWith n table count work limit v t w →
    v.values ≡ 1 ∷ 3 ∷ 3 ∷ 0 ∷ 0 ∷ 1 ∷ 1 ∷ 1 ∷ 0 ∷ []
unfolding nodes program_of closures
counts_must_be_right {n} {table} {work = work} {limit} h l k r =
    ap (λ (v : Values). v.values) (runs_to one_goal h (held_good one_goal h (omega arith) (tt, tt)) l (one_goal_run (room_of n table work) limit (omega (arith, h.table_of.counts, h.table_of.small, h.table_of.within, h.column_of.long)) k) r).0
