-- Demand 3 over the run's contract: with further alternatives put behind, as many steps and room for them, a finished alternative is never revised.
use mathlib.Core.Path.{◌≡◌, refl, sym, ap, ◌∙◌}
use mathlib.Core.Logic.{◌⊎◌, inl, inr}
use mathlib.Core.Bool.{Bool, true, false}
use mathlib.Core.List.{List, [], ◌∷◌, ◌++◌, append_assoc}
use Prim.Native.Nat.{ℕ, ◌+◌, ◌*◌, ◌-◌, ◌≤◌, ◌<◌}
use native.Mathlib.Omega.{arith}
use lib.ListN.{length, take, drop, replicate, length-append, take-append-drop}
use lib.Seq.{take_at, take-take}
use Rattle.calculus.specs.Tree.{term, program, Tree, empty, alt, preorder, nodes, threads, program_of, head_numbers}
use Rattle.calculus.specs.Good.{All, Good}
use Rattle.calculus.specs.Value.{value}
use Rattle.calculus.specs.Whole.{whole}
use Rattle.calculus.specs.Step.{finished, standing}
use Rattle.calculus.specs.Choice.{Quiet}
use Rattle.calculus.specs.Sheets.{Sheet}
use Rattle.calculus.specs.Run.{End, size, run, room_of, finished_head}
use Rattle.calculus.specs.Answers.{standing_code, Values}
use Rattle.calculus.specs.Calls.{Accepts, TableOf, end_table, RunsWith, thread_refusals, ThreadOf, StandsAt, stands, not_stood}
use Rattle.calculus.proofs.Substitutes.{impossible}
use Rattle.calculus.proofs.Preorders.{nodes_positive, preorder_prefix, threads_of_program, program_of_threads, size_append, preorder_append, head_numbers_length}
use Rattle.calculus.proofs.Answers.{number_positive}
use Rattle.calculus.proofs.Refusals.{accepted_not_refused}
use Rattle.calculus.proofs.Outcomes.{table_of_unique}
use Rattle.calculus.proofs.Runs.{program_run_only, finished_head_is, Movable, finished_head_quiet, demand_three}
use Rattle.promises.specs.Worked.{Held, HasRun}
use Rattle.promises.specs.Heads.{size_told, Run, Further, DemandThreeTables, DemandThreeEnd, SaysFinished}
use Rattle.promises.proofs.Admitted.{good_table}
use Rattle.promises.proofs.Worked.{run_gives}

-- the numbers of the threads ts are the front of a program's table: that program has ts and then others
begins : (ts : List (Tree term)) (p : Tree program) (r : List ℕ) → preorder p ≡ head_numbers ts ++ r → (us : List (Tree term)) × (p ≡ program_of (ts ++ us))
unfolding preorder program_of head_numbers
begins [] p r h = (threads p, sym (program_of_threads p))
begins (t ∷ ts) empty r h = impossible (cc)
begins (t ∷ ts) (alt u p) r h =
    let e : preorder u ++ preorder p ≡ (preorder t ++ head_numbers ts) ++ r = cc in
    let f = preorder_prefix u t (preorder p) (head_numbers ts ++ r) (rw append_assoc at e) in
    go f.0 (begins ts p r f.1)
  where
    go : u ≡ t → (us : List (Tree term)) × (p ≡ program_of (ts ++ us)) → (us : List (Tree term)) × (alt u p ≡ alt t (program_of (ts ++ us)))
    go e i = (i.0, (cc (e, i.1)))

-- the numbers of a head of threads, in a table that a run left with others behind it
head_front : (table : Sheet) (ts us : List (Tree term)) → take (2 * (size ts - 1)) (end_table table (ts ++ us)).numbers ≡ head_numbers ts
head_front table ts us =
    let zeros : List ℕ = replicate (length table.numbers - length (preorder (program_of (ts ++ us)))) 0 in
    ap (λ (l : List ℕ). take (2 * (size ts - 1)) (l ++ zeros)) (preorder_append ts us) ∙
    rw append_assoc (take_at (head_numbers ts) (preorder (program_of us) ++ zeros) (2 * (size ts - 1)) (omega (arith, head_numbers_length ts)))

-- the empty program is the last node
last_empty : (ts : List (Tree term)) → preorder (program_of ts) ≡ head_numbers ts ++ (0 ∷ 0 ∷ [])
unfolding preorder program_of head_numbers
last_empty [] = refl
last_empty (t ∷ ts) = rw (last_empty ts, append_assoc)

-- a table without the last node of its program
head_there : {n : ℕ} {table : List ℕ} {count : ℕ} {p : Tree program} → TableOf n table count p → take (2 * (count - 1)) table ≡ head_numbers (threads p)
head_there {table = table} {count} {p} h =
    let e : preorder p ≡ head_numbers (threads p) ++ (0 ∷ 0 ∷ []) = ap preorder (sym (program_of_threads p)) ∙ last_empty (threads p) in
    let c : size (threads p) ≡ nodes p = ap nodes (program_of_threads p) in
    sym (take-take (2 * (count - 1)) (2 * count) table (omega arith)) ∙ ap (take (2 * (count - 1))) (h.is ∙ e) ∙ take_at (head_numbers (threads p)) (0 ∷ 0 ∷ []) (2 * (count - 1)) (omega (arith, head_numbers_length (threads p), h.counts))

module _ {n : ℕ} {table : Sheet} {count : ℕ} {work : Sheet} {limit : ℕ} {v : Values} {t w : Sheet} where
  -- an accepted run's end is that of the run of the threads in the table
  pub end_is : (h : HasRun n table count work limit v t w) (p : List (Tree term)) → TableOf n table.numbers count (program_of p) → h.end.last ≡ (run (room_of n table work) limit p).last
  end_is h p f =
      ap (λ (e : End (List (Tree term))). e.last) (program_run_only h.is_run) ∙ ap (λ (ts : List (Tree term)). (run (room_of n table work) limit ts).last) (ap threads (table_of_unique h.there.table_of f) ∙ threads_of_program p)

  -- the table that it left holds that end, with the count that it tells, and its column
  pub end_there : (h : HasRun n table count work limit v t w) → Held n t (size_told v) (program_of h.end.last)
  end_there h = rw (ap size_told h.values) h.back

  -- and nothing else
  end_stands : (h : HasRun n table count work limit v t w) (e : Tree program) → TableOf n t.numbers (size_told v) e → e ≡ program_of h.end.last
  end_stands h e g = table_of_unique g (end_there h).table_of

module _ {n : ℕ} {table table' : Sheet} {count count' : ℕ} {work work' : Sheet} {k k' : ℕ} {v v' : Values} {t t' w w' : Sheet} where
  -- Demand 3 over two runs, the second with further alternatives behind: the numbers of the first end's finished head begin what the second leaves
  pub demand_three_calls : (p q : List (Tree term)) → TableOf n table.numbers count (program_of p) → TableOf n table'.numbers count' (program_of (p ++ q)) →
      RunsWith n table count work k v t w → v.refusal ≡ 0 → RunsWith n table' count' work' k' v' t' w' → v'.refusal ≡ 0 →
      k ≤ k' → room_of n table work + (size q - 1) ≤ room_of n table' work' →
      (e : Tree program) → TableOf n t.numbers (size_told v) e →
      let m = 2 * (size (finished_head (threads e)) - 1) in take m t'.numbers ≡ take m t.numbers
  demand_three_calls p q f f' r z r' z' l c e g =
      let h = run_gives r z in
      let h' = run_gives r' z' in
      let E = h.end.last in
      let d : threads e ≡ E = ap threads (end_stands h e g) ∙ threads_of_program E in
      let (rest, i) = demand_three p q k k' (room_of n table work) (room_of n table' work') l c in
      let (x, (more, (j, y))) = finished_head_is E in
      let b : t ≡ end_table table (finished_head E ++ more) = h.left ∙ ap (end_table table) j in
      let b' : t' ≡ end_table table' (finished_head E ++ rest) = h'.left ∙ ap (end_table table') (end_is h' (p ++ q) f' ∙ i ∙ ap (λ (ts : List (Tree term)). finished_head ts ++ rest) (sym (end_is h p f))) in
      let m = 2 * (size (finished_head E) - 1) in
      rw d (ap (λ (s : Sheet). take m s.numbers) b' ∙ head_front table' (finished_head E) rest ∙ sym (ap (λ (s : Sheet). take m s.numbers) b ∙ head_front table (finished_head E) more))

-- the threads in the first table, those in the second, which has others behind them, and the rooms
pub record Behind (n : ℕ) (a b : Run n) : Type 0 where
  pub these : List (Tree term)
  pub others : List (Tree term)
  pub first : TableOf n a.table.numbers a.count (program_of these)
  pub second : TableOf n b.table.numbers b.count (program_of (these ++ others))
  pub room : room_of n a.table a.work + (size others - 1) ≤ room_of n b.table b.work

-- where the first table but for its last node begins the second, these are there
pub behind_there : (n : ℕ) (a b : Run n) → Further n a b → Behind n a b
behind_there n a b f =
    let h = (run_gives a.runs a.accepted).there.table_of in
    let h' = (run_gives b.runs b.accepted).there.table_of in
    let p = threads (run_gives a.runs a.accepted).program in
    let q = (run_gives b.runs b.accepted).program in
    let m = 2 * (a.count - 1) in
    let i : take m (preorder q) ≡ head_numbers p = ap (take m) (sym h'.is) ∙ take-take m (2 * b.count) b.table.numbers (omega (arith, f.nodes)) ∙ f.begins ∙ head_there h in
    let (us, j) = begins p q (drop m (preorder q)) (sym (take-append-drop m (preorder q)) ∙ ap (λ (x : List ℕ). x ++ drop m (preorder q)) i) in
    let k : TableOf n a.table.numbers a.count (program_of p) = rw program_of_threads h in
    let k' : TableOf n b.table.numbers b.count (program_of (p ++ us)) = rw j at h' in
    let more : size us - 1 ≡ b.count - a.count = omega (arith, k.counts, k'.counts, size_append p us, nodes_positive (program_of us)) in
    record { these = p; others = us; first = k; second = k'; room = rw more f.room }

-- Demand 3 on the numbers alone: where the first table but for its last node begins the second, the finished head that the first run leaves begins what the second leaves
pub demand_three_tables : DemandThreeTables
demand_three_tables n a b f e g =
    let h = behind_there n a b f in
    demand_three_calls h.these h.others h.first h.second a.runs a.accepted b.runs b.accepted f.steps h.room e g

-- so of the end that the first run is defined to have
pub demand_three_end : DemandThreeEnd
demand_three_end n a b f h = rw threads_of_program at (demand_three_tables n a b f (program_of h.end.last) (end_there h).table_of)

-- the finished head is no longer than the threads
head_shorter : (ts : List (Tree term)) → length (finished_head ts) ≤ length ts
head_shorter ts = let (f, (rest, (s, o))) = finished_head_is ts in omega (arith, ap length s, length-append (finished_head ts) rest)

-- a thread inside the finished head is finished
head_finished : (before : List (Tree term)) (t : Tree term) (after : List (Tree term)) → length before < length (finished_head (before ++ (t ∷ after))) → finished t ≡ true
unfolding finished_head
head_finished [] t after h = go (finished t) refl
  where
    go : (b : Bool) → finished t ≡ b → finished t ≡ true
    go true e = e
    go false e = absurd (omega (arith, rw (e, finished_head) at h))
head_finished (x ∷ before) t after h = go (finished x) refl (head_finished before t after)
  where
    go : (b : Bool) → finished x ≡ b → (length before < length (finished_head (before ++ (t ∷ after))) → finished t ≡ true) → finished t ≡ true
    go true e f = f (omega (arith, rw (e, finished_head) at h))
    go false e f = absurd (omega (arith, rw (e, finished_head) at h))

-- and the thread behind it is not
head_open : (before : List (Tree term)) (t : Tree term) (after : List (Tree term)) → length before ≡ length (finished_head (before ++ (t ∷ after))) → finished t ≡ false
unfolding finished_head
head_open [] t after h = go (finished t) refl
  where
    go : (b : Bool) → finished t ≡ b → finished t ≡ false
    go false e = e
    go true e = absurd (omega (arith, rw (e, finished_head) at h))
head_open (x ∷ before) t after h = go (finished x) refl (head_open before t after)
  where
    go : (b : Bool) → finished x ≡ b → (length before ≡ length (finished_head (before ++ (t ∷ after))) → finished t ≡ false) → finished t ≡ false
    go true e f = f (omega (arith, rw (e, finished_head) at h))
    go false e f = absurd (omega (arith, rw (e, finished_head) at h))

finished_code : (t : Tree term) → finished t ≡ true → SaysFinished (record { refusal = 0; values = standing_code (standing t) ∷ [] })
unfolding standing
finished_code t h = (refl, go (whole t) refl (value t) refl)
  where
    go : (a : Bool) → whole t ≡ a → (b : Bool) → value t ≡ b → (standing_code (standing t) ∷ [] ≡ 1 ∷ []) ⊎ ((standing_code (standing t) ∷ [] ≡ 4 ∷ []) ⊎ (standing_code (standing t) ∷ [] ≡ 2 ∷ []))
    go true w b v = inl (rw (h, w, standing))
    go false w true v = inr (inl (rw (h, w, v, standing)))
    go false w false v = inr (inr (rw (h, w, v, standing)))

-- the standing call accepts every thread of a good program
pub stands_accepted : {n : ℕ} {table : Sheet} {count : ℕ} {p : Tree program} (k : ℕ) → Held n table count p → Good n p → k < length (threads p) → Accepts (thread_refusals n table count k)
stands_accepted k h g l =
    let a = good_table h g in
    (a.0, (a.1.0, (a.1.1.0, (a.1.1.1.0, ((λ f. omega (arith, f.1.1, ap (λ (q : Tree program). length (threads q)) (table_of_unique f.1.0 h.table_of))), tt)))))

-- the threads of the program there, around the thread that was asked for
pub threads_there : {n : ℕ} {table : List ℕ} {count k : ℕ} {u : Tree term} (e : Tree program) → TableOf n table count e → (o : ThreadOf n table count k u) → threads e ≡ o.before ++ (u ∷ o.after)
threads_there {u = u} e g o = ap threads (table_of_unique g o.table_of) ∙ threads_of_program (o.before ++ (u ∷ o.after))

module _ {n : ℕ} {table : Sheet} {count : ℕ} {work : Sheet} {limit : ℕ} {v : Values} {t w : Sheet} where
  -- no rule of document 003 rewrites a thread of the finished head that a run leaves, and some rule rewrites the thread behind it, if there is one
  pub head_quiet : RunsWith n table count work limit v t w → v.refusal ≡ 0 → (e : Tree program) → TableOf n t.numbers (size_told v) e →
      All Quiet (finished_head (threads e)) × ((rest : List (Tree term)) × ((threads e ≡ finished_head (threads e) ++ rest) × Movable rest))
  head_quiet r z e g = finished_head_quiet (threads e) (rw (end_stands (run_gives r z) e g) (run_gives r z).result_good.coherent)

  -- of each thread of the finished head that a run leaves, the standing call on what it left says answer, partial or stuck
  pub finished_as_told : RunsWith n table count work limit v t w → v.refusal ≡ 0 → (e : Tree program) → TableOf n t.numbers (size_told v) e →
      {k : ℕ} {s : Values} → k < length (finished_head (threads e)) → StandsAt n t (size_told v) k s → SaysFinished s
  finished_as_told r z e g {k} l (stands u a o) = finished_code u (head_finished o.before u o.after (omega (arith, o.place, ap (λ (ts : List (Tree term)). length (finished_head ts)) (threads_there e g o))))
  finished_as_told r z e g {k} l (not_stood q i) =
      let h = run_gives r z in
      let held : Held n t (size_told v) e = rw (end_stands h e g) (end_there h) in
      absurd (accepted_not_refused (thread_refusals n t (size_told v) k) q (stands_accepted k held (rw (end_stands h e g) h.result_good) (omega (arith, head_shorter (threads e)))) i)

-- and of the thread behind it, if there is one, open: so the numbers alone tell where the finished head ends
pub open_as_told : {n : ℕ} {t : Sheet} {count : ℕ} (e : Tree program) → TableOf n t.numbers count e → {k : ℕ} {s : Values} → k ≡ length (finished_head (threads e)) → StandsAt n t count k s → s.refusal ≡ 0 → s.values ≡ 3 ∷ []
unfolding standing
open_as_told e g l (stands u a o) z = rw (head_open o.before u o.after (omega (arith, o.place, ap (λ (ts : List (Tree term)). length (finished_head ts)) (threads_there e g o))), standing)
open_as_told e g l (not_stood q i) z = absurd (omega (arith, number_positive q))
