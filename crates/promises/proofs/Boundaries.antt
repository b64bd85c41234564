-- Document 01's boundaries hold of the calls at both sizes, and request 5's of the column: proved once, for a size.
use mathlib.Core.Path.{◌≡◌, refl, sym, ap, ap₂, ◌∙◌}
use mathlib.Core.Logic.{inl, inr}
use mathlib.Core.List.{List, [], ◌∷◌, ◌++◌, append-nil}
use mathlib.Core.Option.{some}
use Prim.Native.Nat.{ℕ, suc, ◌+◌, ◌*◌, ◌-◌, ◌≤◌, ◌<◌}
use native.Mathlib.Omega.{arith}
use lib.ListN.{length, get_or, take}
use Rattle.calculus.specs.declared.Refusal.TheVariants.{NoProgram, TooLong, NoBinder, TooManyNodes, NoRoom, NoThread, WrongColumn}
use Rattle.calculus.specs.Tree.{term, program, app, at, Tree, empty, alt, bound, free, con, abs, fresh, two, preorder, nodes, threads, program_of}
use Rattle.calculus.specs.Good.{InRange, Closed, Coherent, All, Good}
use Rattle.calculus.specs.Step.{Step, step}
use Rattle.calculus.specs.Sheets.{Sheet, sheet, holds}
use Rattle.calculus.specs.Run.{size, room_of}
use Rattle.calculus.specs.Sexp.{digits, decimal, atom, bytes}
use Rattle.calculus.specs.Text.{free_leaf, raw_empty, raw_alt, raw_leaf, encode, raw, raw_text, text}
use Rattle.calculus.specs.Column.{column, ColumnOf}
use Rattle.calculus.specs.Answers.{number, Values}
use Rattle.calculus.specs.Calls.{Refusals, Refuses, front, Reads, TableOf, no_program, wrong_column, write_refusals, Writes, nodes_before, StepsTo, step_refusals, StepsInto, run_refusals, RunsWith, thread_refusals, part, no_part}
use Rattle.calculus.specs.Known.{ascii}
use Rattle.calculus.proofs.Substitutes.{impossible}
use Rattle.calculus.proofs.Preorders.{nodes_positive, preorder_injective}
use Rattle.calculus.proofs.Texts.{raw_text_injective, text_injective, text_length}
use Rattle.calculus.proofs.Refusals.{Below, write_ascends, step_ascends, run_ascends, thread_ascends}
use Rattle.calculus.proofs.Outcomes.{table_of_unique, parts_once}
use Rattle.promises.specs.Worked.{Held}
use Rattle.promises.specs.Exactly.{Exactly}
use Rattle.promises.specs.Boundaries.{Size, plain, small, around, ReadGives, nested, fresh_numbers, falling, ReadBoundaries, CallsGive, CallsAccept, TableBoundaries, ColumnTold, ColumnBoundaries, fresh_over, closure, put_into, twice, twice_and_one, CallBoundaries, no_step, one_beta, RunBoundaries, Boundaries}
use Rattle.promises.proofs.Admitted.{good_table, good_read_only}
use Rattle.promises.proofs.Refused.{reads_exactly, writes_exactly, steps_exactly, runs_exactly, stands_exactly}
use Rattle.promises.proofs.Worked.{column_held, front_held, front_table, reads_iff, writes_iff, table_step, good_steps, good_stopped, run_gives, good_runs, good_writes}
use Rattle.promises.proofs.Heads.{stands_accepted}
use Rattle.promises.proofs.Given.{behind, two_only, gives_3, gives_4, gives_5, gives_6, gives_7, gives_8, gives_9}
use Rattle.promises.proofs.Samples.{nested_text, nested_length, fresh_nodes, fresh_in, fresh_out, fresh_closed, fresh_closures, chain, chain_text, chain_nodes, chain_closed, chain_table, chain_column, no_such_program, not_empty, atom_no_program, no_variable_program, first_kind, behind_alternative, one_empty, not_two, refused_below, behind_one, guarded, guarded_step, put_step, pair, pair_and_one, result_of, twice_nodes, twice_and_one_nodes, twice_result, twice_and_one_result, four, three, four_step, refusal_of, beta_told, guarded_run, guarded_stays, con_ends, put_stays, put_stops, twice_goes, told}
use Rattle.promises.proofs.Excluded.{closures, OneAtMost, one_good, two_coherent, runs_to}

-- How the numbers at the limit stand in a text.
record Texts (calls : Size) : Type 0 where
  free_last : text (program_of (free (calls.limit - 1) ∷ [])) ≡ around "((1:x" calls.last "))"
  free_beyond : text (program_of (free calls.limit ∷ [])) ≡ around "((1:x" calls.beyond "))"
  location_last : text (program_of (abs (at (calls.limit - 1)) empty ∷ [])) ≡ around "((1:L" calls.last "()))"
  location_beyond : text (program_of (abs (at calls.limit) empty ∷ [])) ≡ around "((1:L" calls.beyond "()))"
  index_last : text (program_of (bound (calls.limit - 1) ∷ [])) ≡ around "((1:v" calls.last "))"
  index_beyond : text (program_of (bound calls.limit ∷ [])) ≡ around "((1:v" calls.beyond "))"
  index : bytes (encode (raw (bound calls.limit))) ≡ around "(1:v" calls.beyond ")"
  index_short : length (around "(1:v" calls.beyond ")") ≤ 12

-- The boundaries of a size, of whatever limit from 2,048 to 65,535.
module _ (calls : Size) (low : 2048 ≤ calls.limit) (high : calls.limit < 65536) (long : calls.bytes ≡ 12 * calls.limit) (chained : calls.chain + 3 ≡ calls.limit) (halved : 2 * calls.half + 12 ≡ calls.limit) (texts : Texts calls) where
  -- a text of a good program is read
  read_good : (p : Tree program) {b : List ℕ} → text p ≡ b → Good calls.limit p → ReadGives calls b 0
  read_good p e g out v o l h = (reads_iff (omega arith) h).1 (record { program = p; good = g; is = e; held = omega (arith, g.small) })

  -- a text of a program with a number outside its range gives 5
  read_out : (p : Tree program) {b : List ℕ} → text p ≡ b → length b ≤ calls.bytes → (InRange calls.limit p → ⊥) → ReadGives calls b 5
  unfolding text
  read_out p e m f out v o l h = gives_5 h (omega arith) (raw p) e (λ q t. f (rw (text_injective q p (t.is ∙ sym e)) at t.ranges))

  -- a text with an index without a binder gives 6
  read_unbound : (p : Tree program) {b : List ℕ} → text p ≡ b → length b ≤ calls.bytes → InRange calls.limit p → (Closed 0 p → ⊥) → ReadGives calls b 6
  read_unbound p e m r f out v o l h = gives_6 h (omega arith) (record { is = e; ranges = r }) f

  -- a text with a thread that is not coherent gives 8
  read_incoherent : (p : Tree program) {b : List ℕ} → text p ≡ b → length b ≤ calls.bytes → InRange calls.limit p → Closed 0 p → nodes p ≤ calls.limit → (All Coherent (threads p) → ⊥) → ReadGives calls b 8
  read_incoherent p e k r c m f out v o l h = gives_8 h (omega arith) (record { is = e; ranges = r }) c m f

  chain_ranges : (k : ℕ) → InRange calls.limit (program_of (chain k))
  unfolding chain program_of
  chain_ranges k = (fresh_in calls.limit k (con 0) (omega arith), tt)

  chain_good : (k : ℕ) → k + 3 ≤ calls.limit → Good calls.limit (program_of (chain k))
  unfolding chain closures
  chain_good k l = one_good (chain k) (omega (arith, chain_nodes k)) (chain_ranges k) (chain_closed k) (rw fresh_closures tt, tt)

  -- threads closed, in range, and each with one allocated abstraction at most: their text is read
  read_one : {b : List ℕ} (ts : List (Tree term)) → text (program_of ts) ≡ b → size ts ≤ calls.limit → InRange calls.limit (program_of ts) → Closed 0 (program_of ts) → All (λ t. OneAtMost (closures t)) ts → ReadGives calls b 0
  read_one ts e m r c a = read_good (program_of ts) e (one_good ts m r c a)

  chain_reads : (out : Sheet) (v : Values) (o : Sheet) → calls.limit ≤ holds out → Reads calls.limit (nested calls.chain (ascii "(1:c1:0)")) out v o →
      (v ≡ record { refusal = 0; values = calls.limit ∷ [] }) × (o ≡ sheet (front (1 ∷ 0 ∷ fresh_numbers calls.chain (4 ∷ 0 ∷ 0 ∷ 0 ∷ [])) out.numbers) (front (calls.limit ∷ falling (suc calls.chain) (1 ∷ [])) out.sizes))
  chain_reads out v o l h =
      let k = calls.chain in
      let z = good_read_only (chain_good k (omega arith)) (omega arith) (omega (arith, chain_nodes k)) (rw (← chain_text k) at h) in
      let t : preorder (program_of (chain k)) ≡ 1 ∷ 0 ∷ fresh_numbers k (4 ∷ 0 ∷ 0 ∷ 0 ∷ []) = sym (append-nil (preorder (program_of (chain k)))) ∙ chain_table k [] in
      let c : column (program_of (chain k)) ≡ calls.limit ∷ falling (suc k) (1 ∷ []) = sym (append-nil (column (program_of (chain k)))) ∙ chain_column k [] ∙ ap (λ (m : ℕ). m ∷ falling (suc k) (1 ∷ [])) chained in
      (z.0 ∙ ap (λ (m : ℕ). record { refusal = 0; values = m ∷ [] }) (chain_nodes k ∙ chained), z.1 ∙ ap₂ (λ (x y : List ℕ). sheet (front x out.numbers) (front y out.sizes)) t c)

  chain_too_large : ReadGives calls (nested (suc calls.chain) (ascii "(1:c1:0)")) 7
  unfolding ascii
  chain_too_large out v o l h =
      let k = suc calls.chain in
      gives_7 h (omega (arith, nested_length k (ascii "(1:c1:0)"))) {p = program_of (chain k)} (record { is = chain_text k; ranges = chain_ranges k }) (chain_closed k) (omega (arith, chain_nodes k))

  -- the text of a short program is within the longest
  short : (p : Tree program) {b : List ℕ} → text p ≡ b → nodes p ≤ 4 → InRange 65536 p → length b ≤ calls.bytes
  short p e m r = omega (arith, text_length 65536 p (omega arith) r, ap length e)

  -- an index outside its range, below as many binders as one could ask for
  index_nested : ReadGives calls (nested (suc calls.limit) (around "(1:v" calls.beyond ")")) 5
  unfolding program_of
  index_nested =
      let m = suc calls.limit in
      let i = bound calls.limit in
      read_out (program_of (fresh_over m i ∷ [])) (nested_text m i texts.index) (omega (arith, nested_length m (around "(1:v" calls.beyond ")"), texts.index_short)) (λ r. omega (arith, fresh_out calls.limit m i r.0))

  read_boundaries : ReadBoundaries calls
  unfolding ascii nodes threads program_of closures digits decimal bytes encode raw raw_text text
  read_boundaries = record {
    chain_in = chain_reads;
    chain_out = chain_too_large;
    constructor_in = read_one (con 65535 ∷ []) refl (omega arith) (omega arith) (tt, tt) (tt, tt);
    constructor_out = read_out (program_of (con 65536 ∷ [])) refl (omega arith) (λ r. omega arith);
    free_in = read_one (free (calls.limit - 1) ∷ []) texts.free_last (omega arith) (omega arith) (tt, tt) (tt, tt);
    free_out = read_out (program_of (free calls.limit ∷ [])) texts.free_beyond (short (program_of (free calls.limit ∷ [])) texts.free_beyond (omega arith) (omega arith)) (λ r. omega arith);
    location_in = read_one (abs (at (calls.limit - 1)) empty ∷ []) texts.location_last (omega arith) (omega arith) (tt, tt) (tt, tt);
    location_out = read_out (program_of (abs (at calls.limit) empty ∷ [])) texts.location_beyond (short (program_of (abs (at calls.limit) empty ∷ [])) texts.location_beyond (omega arith) (omega arith)) (λ r. omega arith);
    index_in = read_unbound (program_of (bound (calls.limit - 1) ∷ [])) texts.index_last (short (program_of (bound (calls.limit - 1) ∷ [])) texts.index_last (omega arith) (omega arith)) (omega arith) (λ c. omega arith);
    index_out = read_out (program_of (bound calls.limit ∷ [])) texts.index_beyond (short (program_of (bound calls.limit ∷ [])) texts.index_beyond (omega arith) (omega arith)) (λ r. omega arith);
    index_out_bound = index_nested;
    zero_first = λ out v o l h. gives_5 h (omega arith) (raw_alt (raw_leaf free_leaf (48 ∷ 49 ∷ [])) raw_empty) refl (λ p t. no_variable_program p (raw_text_injective (raw p) (raw_alt (raw_leaf free_leaf (48 ∷ 49 ∷ [])) raw_empty) t.is));
    length_zero_first = λ out v o l h. gives_3 h (omega arith) (λ s e. no_such_program s (58 ∷ 120 ∷ 49 ∷ 58 ∷ 48 ∷ 41 ∷ 41 ∷ []) e);
    lone_atom = λ out v o l h. gives_4 h (omega arith) (atom (99 ∷ [])) refl (atom_no_program (99 ∷ []));
    top_index = read_unbound (program_of (bound 0 ∷ [])) refl (omega arith) (omega arith) (λ c. omega arith);
    no_text = λ out v o l h. gives_3 h (omega arith) not_empty;
    body_reaches = read_incoherent (program_of (fresh (abs (at 0) (alt (bound 1) empty)) ∷ [])) refl (omega arith) (omega arith) (omega arith) (omega arith) (λ c. omega (arith, c.0.within 0 (alt (bound 1) empty) (inl (refl, refl))));
    two_bodies =
        read_incoherent (program_of (two app (abs (at 0) empty) (abs (at 0) (alt (con 0) empty)) ∷ [])) refl (omega arith) (omega arith) (omega arith) (omega arith)
        (λ c. let e : empty ≡ alt (con 0) empty = c.0.equal 0 empty (alt (con 0) empty) (inl (inl (refl, refl))) (inr (inl (refl, refl))) in impossible (cc));
    two_threads = read_one (abs (at 0) empty ∷ abs (at 0) (alt (con 0) empty) ∷ []) refl (omega arith) (omega arith) (omega arith) (tt, ((tt, tt), tt));
    longest = λ b out v o h. ((λ e. omega (arith, two_only calls.limit b out ((reads_exactly h).refused_only TooLong e))), (λ k. (reads_exactly h).refused TooLong (inl (omega arith, refl))));
    room_in = λ out v o l h. (reads_iff (omega arith) h).1 (record { program = program_of (con 1 ∷ []); good = one_good (con 1 ∷ []) (omega arith) (omega arith) (tt, tt) (tt, tt); is = refl; held = omega (arith, l.0, l.1) });
    room_out = λ out v o l h. gives_9 h (omega arith) {p = program_of (con 1 ∷ [])} (record { is = refl; ranges = omega arith }) (one_good (con 1 ∷ []) (omega arith) (omega arith) (tt, tt) (tt, tt)) (omega arith);
    column_out = λ out v o l h. gives_9 h (omega arith) {p = program_of (con 1 ∷ [])} (record { is = refl; ranges = omega arith }) (one_good (con 1 ∷ []) (omega arith) (omega arith) (tt, tt) (tt, tt)) (omega arith);
  }

  -- Calls on a table.

  -- 1 is given by every call on a table in which no program stands
  calls_give_1 : {table : Sheet} {count : ℕ} → ((p : Tree program) → TableOf calls.limit table.numbers count p → ⊥) → CallsGive calls table count 1
  calls_give_1 f = record {
    writes = λ out v o h. (writes_exactly h).refused NoProgram (inl (f, refl));
    steps = λ out v o h. (steps_exactly h).refused NoProgram (inl (f, refl));
    runs = λ work k v t w h. (runs_exactly h).refused NoProgram (inl (f, refl));
    stands = λ k v h. (stands_exactly h).refused NoProgram (inl (f, refl));
  }

  -- 14 where one stands, and the column is not its
  calls_give_14 : {table : Sheet} {count : ℕ} (p : Tree program) → TableOf calls.limit table.numbers count p → (ColumnOf table.sizes count p → ⊥) → CallsGive calls table count 14
  calls_give_14 p t f = record {
    writes = λ out v o h. (writes_exactly h).refused WrongColumn (inr ((λ g. g p t), inl ((p, (t, f)), refl)));
    steps = λ out v o h. (steps_exactly h).refused WrongColumn (inr ((λ g. g p t), inl ((p, (t, f)), refl)));
    runs = λ work k v x w h. (runs_exactly h).refused WrongColumn (inr ((λ g. g p t), inl ((p, (t, f)), refl)));
    stands = λ k v h. (stands_exactly h).refused WrongColumn (inr ((λ g. g p t), inl ((p, (t, f)), refl)));
  }

  -- 6 where the column is its, and it has an index without a binder
  calls_give_6 : {table : Sheet} {count : ℕ} {p : Tree program} → Held calls.limit table count p → (Closed 0 p → ⊥) → CallsGive calls table count 6
  calls_give_6 {table} {count} {p} held f =
      let t = held.table_of in
      let right : (wrong_column calls.limit table count).1 → ⊥ = λ g. g.1.1 (rw (table_of_unique g.1.0 t) held.column_of) in
      record {
        writes = λ out v o h. (writes_exactly h).refused NoBinder (inr ((λ g. g p t), inr (right, inl ((p, (t, f)), refl))));
        steps = λ out v o h. (steps_exactly h).refused NoBinder (inr ((λ g. g p t), inr (right, inl ((p, (t, f)), refl))));
        runs = λ work k v x w h. (runs_exactly h).refused NoBinder (inr ((λ g. g p t), inr (right, inl ((p, (t, f)), refl))));
        stands = λ k v h. (stands_exactly h).refused NoBinder (inr ((λ g. g p t), inr (right, inl ((p, (t, f)), refl))));
      }

  -- a good program is written and run
  calls_accept : {table : Sheet} {count : ℕ} {p : Tree program} → Held calls.limit table count p → Good calls.limit p → CallsAccept calls table count
  calls_accept t g = record {
    writes = λ out v o l h. ap (λ (x : Values). x.refusal) (good_writes t g (omega arith) (omega arith) h).0;
    runs = λ work k v x w l h. ap (λ (x : Values). x.refusal) (good_runs t g (omega arith) h).0;
  }

  -- the numbers of a program with one outside its range are no program's that is admitted
  calls_out : {table : Sheet} {count : ℕ} (p : Tree program) → take (2 * count) table.numbers ≡ preorder p → (InRange calls.limit p → ⊥) → CallsGive calls table count 1
  calls_out p e f = calls_give_1 (λ q t. let same : q ≡ p = preorder_injective q p (sym t.is ∙ e) in f (rw same at t.ranges))

  -- and threads that are good stand in front of anything
  accept_one : (ts : List (Tree term)) (rest others : List ℕ) → size ts ≤ calls.limit → InRange calls.limit (program_of ts) → Closed 0 (program_of ts) → All (λ t. OneAtMost (closures t)) ts →
      CallsAccept calls (sheet (preorder (program_of ts) ++ rest) (column (program_of ts) ++ others)) (size ts)
  accept_one ts rest others m r c a = let g = one_good ts m r c a in calls_accept (front_table rest others g) g

  chain_held : (rest others : List ℕ) → Held calls.limit (sheet (1 ∷ 0 ∷ fresh_numbers calls.chain (4 ∷ 0 ∷ 0 ∷ 0 ∷ rest)) (calls.limit ∷ falling (suc calls.chain) (1 ∷ others))) calls.limit (program_of (chain calls.chain))
  chain_held rest others =
      let k = calls.chain in
      rw (chain_table k rest, chain_column k others, chain_nodes k, chained) at (front_table rest others (chain_good k (omega arith)))

  table_boundaries : TableBoundaries calls
  unfolding preorder nodes threads program_of closures column
  table_boundaries = record {
    no_nodes = λ table. calls_give_1 (λ p t. omega (arith, t.counts, nodes_positive p));
    one_too_many = λ table. calls_give_1 (λ p t. omega (arith, t.small));
    beyond = λ table count l. calls_give_1 (λ p t. omega (arith, t.within));
    chain_in = λ rest others. calls_accept (chain_held rest others) (chain_good calls.chain (omega arith));
    kind_out = λ rest sizes. calls_give_1 (λ p t. omega (arith, behind_alternative p 11 (0 ∷ 0 ∷ 0 ∷ []) (sym t.is)));
    term_for_program = λ rest sizes. calls_give_1 (λ p t. omega (arith, first_kind p 4 0 [] (sym t.is)));
    program_for_term = λ rest sizes. calls_give_1 (λ p t. omega (arith, behind_alternative p 0 (0 ∷ 0 ∷ 0 ∷ []) (sym t.is)));
    constructor_in = λ rest others. accept_one (con 65535 ∷ []) rest others (omega arith) (omega arith) (tt, tt) (tt, tt);
    free_in = λ rest others. accept_one (free (calls.limit - 1) ∷ []) rest others (omega arith) (omega arith) (tt, tt) (tt, tt);
    free_out = λ rest sizes. calls_out (program_of (free calls.limit ∷ [])) refl (λ r. omega arith);
    location_in = λ rest others. accept_one (abs (at (calls.limit - 1)) empty ∷ []) rest others (omega arith) (omega arith) (tt, tt) (tt, tt);
    location_out = λ rest sizes. calls_out (program_of (abs (at calls.limit) empty ∷ [])) refl (λ r. omega arith);
    index_in = λ rest others. calls_give_6 (front_held {p = program_of (bound (calls.limit - 1) ∷ [])} rest others (omega arith) (omega arith)) (λ c. omega arith);
    index_out = λ rest sizes. calls_out (program_of (bound calls.limit ∷ [])) refl (λ r. omega arith);
    not_zero = λ rest sizes. calls_give_1 (λ p t. omega (arith, first_kind p 0 1 [] (sym t.is)));
    ends_late = λ rest sizes. calls_give_1 (λ p t. not_two p t.counts);
    ends_early = λ rest sizes. calls_give_1 (λ p t. omega (arith, t.counts, one_empty p (0 ∷ 0 ∷ 0 ∷ 0 ∷ 0 ∷ []) (sym t.is)));
  }

  -- The column.

  -- 14 is given where its condition holds, and only there
  column_told : (table : Sheet) (count : ℕ) (cs : Refusals) (m : ℕ) → Below 14 cs → Exactly (no_program calls.limit table.numbers count ∷ wrong_column calls.limit table count ∷ cs) m → ColumnTold calls table count m
  column_told table count cs m b x = ((λ e. only (x.refused_only WrongColumn e)), λ w. x.refused WrongColumn (inr ((λ f. f w.0 w.1.0), inl (w, refl))))
    where
      only : Refuses (no_program calls.limit table.numbers count ∷ wrong_column calls.limit table count ∷ cs) WrongColumn → (wrong_column calls.limit table count).1
      only (inl g) = absurd (omega (arith, ap number g.1))
      only (inr (a, inl g)) = g.0
      only (inr (a, inr g)) = absurd (omega (arith, refused_below cs 14 WrongColumn b g.1))

  behind_one_good : Good calls.limit (program_of behind_one)
  unfolding behind_one nodes program_of closures
  behind_one_good = one_good behind_one (omega arith) (omega arith) (omega arith) (tt, (tt, tt))

  column_boundaries : ColumnBoundaries calls
  unfolding preorder nodes threads program_of column behind_one
  column_boundaries = record {
    writes = λ table count out v o h. column_told table count (behind (behind (write_refusals calls.limit table count out))) v.refusal (write_ascends calls.limit table count out).1.1.1 (writes_exactly h);
    steps = λ table count out v o h. column_told table count (behind (behind (step_refusals calls.limit table count out))) v.refusal (step_ascends calls.limit table count out).1.1.1 (steps_exactly h);
    runs = λ table count work k v t w h. column_told table count (behind (behind (run_refusals calls.limit table count work))) v.refusal (run_ascends calls.limit table count work).1.1.1 (runs_exactly h);
    stands = λ table count k v h. column_told table count (behind (behind (thread_refusals calls.limit table count k))) v.refusal (thread_ascends calls.limit table count k).1.1.1 (stands_exactly h);
    behind = λ numbers others count p t g. calls_accept (record { table_of = t; column_of = column_held p others count t.counts }) g;
    fewer = λ numbers sizes count p t l. calls_give_14 p t (λ c. omega (arith, c.long));
    right = λ rest others. calls_accept (front_table rest others behind_one_good) behind_one_good;
    short = λ rest. calls_give_14 (program_of behind_one) (front_table rest [] behind_one_good).table_of (λ c. omega (arith, c.long));
    wrong = λ rest others. calls_give_14 (program_of behind_one) (front_table rest [] behind_one_good).table_of (λ c. omega (arith, ap (λ (l : List ℕ). get_or l 6 0) c.is));
    before_binders = λ rest others. calls_give_14 (program_of (bound 0 ∷ [])) (front_held {p = program_of (bound 0 ∷ [])} rest [] (omega arith) (omega arith)).table_of (λ c. omega (arith, ap (λ (l : List ℕ). get_or l 1 0) c.is));
    binders_next = λ rest others. calls_give_6 (front_held {p = program_of (bound 0 ∷ [])} rest others (omega arith) (omega arith)) (λ c. omega arith);
  }

  -- A table with a good program in it.
  module _ {table : Sheet} {count : ℕ} {p : Tree program} (held : Held calls.limit table count p) (g : Good calls.limit p) where
    -- 9 of a write: its text is longer than the output
    write_gives_9 : {out : List ℕ} {v : Values} {o : List ℕ} → Writes calls.limit table count out v o → length out < length (text p) → v.refusal ≡ 9
    write_gives_9 h l = let a = good_table held g in (writes_exactly h).refused NoRoom (inr (a.0, inr (a.1.0, inr (a.1.1.0, inr (a.1.1.1.0, inl ((p, (held.table_of, l)), refl))))))

    -- 9 of a run: the work table or its column holds fewer nodes
    run_gives_9 : {work : Sheet} {k : ℕ} {v : Values} {x w : Sheet} → RunsWith calls.limit table count work k v x w → holds work < count → v.refusal ≡ 9
    run_gives_9 h l = let a = good_table held g in (runs_exactly h).refused NoRoom (inr (a.0, inr (a.1.0, inr (a.1.1.0, inr (a.1.1.1.0, inl (l, refl))))))

    -- 10: it has no more threads
    no_thread : {k : ℕ} → length (threads p) ≤ k → Refuses (thread_refusals calls.limit table count k) NoThread
    no_thread l = let a = good_table held g in inr (a.0, inr (a.1.0, inr (a.1.1.0, inr (a.1.1.1.0, inl ((p, (held.table_of, l)), refl)))))

    module _ {s : Step} (e : step (threads p) ≡ some s) {out : Sheet} {v : Values} {o : Sheet} (h : StepsInto calls.limit table count out v o) where
      -- 7 of a step: its result is beyond the limit
      step_gives_7 : calls.limit < size s.result → v.refusal ≡ 7
      step_gives_7 l =
          let a = good_table held g in
          (steps_exactly h).refused TooManyNodes (inr (a.0, inr (a.1.0, inr (a.1.1.0, inl ((p, (s, (record { table_of = held.table_of; steps = e }, (g.coherent, l)))), refl)))))

      -- 9 of a step: its result is within the limit, and the output or its column does not hold it
      step_gives_9 : size s.result ≤ calls.limit → holds out < size s.result → v.refusal ≡ 9
      step_gives_9 m l =
          let a = good_table held g in
          let t = held.table_of in
          let one_step : (q : Tree program) (x : Step) → StepsTo calls.limit table.numbers count q x → size x.result ≡ size s.result = λ q x k. let i = table_step t k in cc in
          (steps_exactly h).refused NoRoom (inr (a.0, inr (a.1.0, inr (a.1.1.0, inr ((λ k. omega (arith, k.1.1.1.1, one_step k.0 k.1.0 k.1.1.0)), inr (a.1.1.1.0, inl ((p, (s, (record { table_of = t; steps = e }, l))), refl)))))))

  -- `(c1)`, `(c1 c2)` and `((g c1 c2))`
  one_con : Good calls.limit (program_of (con 1 ∷ []))
  unfolding nodes program_of closures
  one_con = one_good (con 1 ∷ []) (omega arith) (omega arith) (tt, tt) (tt, tt)

  two_con : Good calls.limit (program_of (con 1 ∷ con 2 ∷ []))
  unfolding nodes program_of closures
  two_con = one_good (con 1 ∷ con 2 ∷ []) (omega arith) (omega arith) (omega arith) (tt, (tt, tt))

  guarded_good : Good calls.limit (program_of guarded)
  unfolding guarded nodes program_of closures
  guarded_good = one_good guarded (omega arith) (omega arith) (omega arith) (tt, tt)

  -- they are good
  module _ (t : Tree term) (k : ℕ) where
    put_good : nodes t + k + 10 ≤ calls.limit → InRange calls.limit t → Closed 1 t → closures t ≡ [] → Good calls.limit (program_of (put_into t k))
    unfolding nodes program_of closures threads
    put_good l r c e = record {
      small = omega (arith, fresh_nodes k (con 0));
      ranges = (((omega arith, (r, tt)), (omega arith, (fresh_in calls.limit k (con 0) (omega arith), tt))), tt);
      closed = (((c, tt), (fresh_closed 1 k 0, tt)), tt);
      coherent = (two_coherent (two app (abs (at 0) (alt t empty)) (closure k)) (0, alt t empty) (1, alt (fresh_over k (con 0)) empty) (rw (e, fresh_closures k (con 0))) (λ z. omega arith) (c, tt) (fresh_closed 1 k 0, tt), tt);
    }

  twice_good : (k : ℕ) → k + 14 ≤ calls.limit → Good calls.limit (program_of (twice k))
  unfolding nodes closures
  twice_good k l = put_good pair k (omega arith) (omega arith) (omega arith) refl

  twice_and_one_good : (k : ℕ) → k + 15 ≤ calls.limit → Good calls.limit (program_of (twice_and_one k))
  unfolding nodes closures
  twice_and_one_good k l = put_good pair_and_one k (omega arith) (omega arith) (omega arith) refl

  four_good : Good calls.limit (program_of four)
  unfolding four nodes program_of closures
  four_good = one_good four (omega arith) (omega arith) (omega arith) (tt, (tt, (tt, (tt, tt))))

  call_boundaries : CallBoundaries calls
  unfolding ascii preorder nodes threads program_of digits decimal bytes encode raw raw_text text column guarded four three step beta_told nodes_before
  call_boundaries = record {
    write_in = λ rest others out v o l h. (writes_iff h).1 (record { program = program_of (con 1 ∷ []); there = front_table rest others one_con; good = one_con; held = omega arith });
    write_out = λ rest others out v o l h. write_gives_9 (front_table rest others one_con) one_con h (omega arith);
    step_in = λ rest others out v o l h. refusal_of (good_steps (front_table rest others guarded_good) guarded_good guarded_step (omega arith) (omega (arith, l.0, l.1)) h).0;
    step_out = λ rest others out v o l h. step_gives_9 (front_table rest others guarded_good) guarded_good guarded_step h (omega arith) (omega arith);
    step_column_out = λ rest others out v o l h. step_gives_9 (front_table rest others guarded_good) guarded_good guarded_step h (omega arith) (omega arith);
    result_in = λ out v o t l h. (good_steps t (twice_good calls.half (omega arith)) (put_step pair calls.half) (omega (arith, twice_result calls.half)) (omega (arith, twice_result calls.half)) h).0 ∙ ap beta_told (twice_result calls.half ∙ halved);
    result_out = λ out v o t h. step_gives_7 t (twice_and_one_good calls.half (omega arith)) (put_step pair_and_one calls.half) h (omega (arith, twice_and_one_result calls.half));
    no_threads = λ rest others out v o h. refusal_of (good_stopped (front_table rest others (one_good [] (omega arith) tt tt tt)) (one_good [] (omega arith) tt tt tt) refl h).0;
    rule_and_thread = λ rest others out v o l h. (good_steps (front_table rest others four_good) four_good four_step (omega arith) (omega arith) h).0;
    run_in = λ rest others work k v t w l h. refusal_of (good_runs (front_table rest others one_con) one_con (omega (arith, l.0, l.1)) h).0;
    run_out = λ rest others work k v t w l h. run_gives_9 (front_table rest others one_con) one_con h (omega arith);
    run_column_out = λ rest others work k v t w l h. run_gives_9 (front_table rest others one_con) one_con h (omega arith);
    thread_in = λ {k = k} t g l h. (stands_exactly h).accepted (stands_accepted k t g l);
    thread_out = λ t g l h. (stands_exactly h).refused NoThread (no_thread t g l);
    part_in = λ rest others start l h. parts_once h (part (con 2) (stands_accepted 1 (front_table rest others two_con) two_con (omega arith)) (record { before = con 1 ∷ []; after = []; table_of = (front_table rest others two_con).table_of; place = refl }));
    part_out = λ rest others start l h. parts_once h (no_part NoThread (no_thread (front_table rest others two_con) two_con (omega arith)));
  }

  module _ {table : Sheet} {count : ℕ} {work : Sheet} {v : Values} {x w : Sheet} (r : RunsWith calls.limit table count work 1 v x w) where
    -- one step in a room for its result
    goes_once : (k : ℕ) → Held calls.limit table count (program_of (twice k)) → count ≤ holds work → 2 * k + 12 ≤ room_of calls.limit table work → v ≡ told 2 (2 * k + 12) 1 one_beta
    unfolding told
    goes_once k h l m =
        let g = twice_good k (omega (arith, h.table_of.counts, h.table_of.small, twice_nodes k)) in
        (runs_to (twice k) h g l (twice_goes k (room_of calls.limit table work) m) r).0 ∙ ap (λ (y : ℕ). told 2 y 1 one_beta) (twice_result k)

    -- none in a smaller one
    stops_at_once : (t : Tree term) (k : ℕ) → Held calls.limit table count (program_of (put_into t k)) → Good calls.limit (program_of (put_into t k)) → count ≤ holds work → room_of calls.limit table work < size (result_of t k) → v ≡ told 3 count 0 no_step
    unfolding told
    stops_at_once t k h g l m = (runs_to (put_into t k) h g l (put_stops t k (room_of calls.limit table work) m) r).0 ∙ ap (λ (y : ℕ). told 3 y 0 no_step) h.table_of.counts

    -- 18 nodes that become 20, with room for fewer
    stops_short : Held calls.limit table count (program_of (twice 4)) → count ≤ holds work → room_of calls.limit table work < 20 → v ≡ told 3 18 0 no_step
    stops_short h l m =
        stops_at_once pair 4 h (twice_good 4 (omega arith)) l (omega (arith, twice_result 4)) ∙ ap (λ (y : ℕ). told 3 y 0 no_step) (sym h.table_of.counts ∙ twice_nodes 4)

  -- the nodes of 18 in a work table
  eighteen : {table : Sheet} {count m : ℕ} → Held calls.limit table count (program_of (twice 4)) → 18 ≤ m → count ≤ m
  eighteen h l = omega (arith, h.table_of.counts, twice_nodes 4)

  run_boundaries : RunBoundaries calls
  unfolding preorder nodes program_of column guarded told
  run_boundaries = record {
    zeros = λ a b c work v t w l r.
        let room = room_of calls.limit (sheet (preorder (program_of guarded) ++ (a ∷ [])) (column (program_of guarded) ++ (b ∷ c ∷ []))) work in
        let z = runs_to guarded (front_table (a ∷ []) (b ∷ c ∷ []) guarded_good) guarded_good (omega (arith, l.0, l.1)) (guarded_run room 0 (omega (arith, l.0, l.1))) r in
        (z.0, z.1, rw (l.0, l.1) at (run_gives r (refusal_of z.0)).cleared);
    no_steps = λ rest others work v t w l r.
        (runs_to guarded (front_table rest others guarded_good) guarded_good (omega arith) (guarded_stays (room_of calls.limit (sheet (preorder (program_of guarded) ++ rest) (column (program_of guarded) ++ others)) work)) r).0;
    end_first = λ rest others work v t w l r.
        (runs_to (con 1 ∷ []) (front_table rest others one_con) one_con (omega arith) (con_ends (room_of calls.limit (sheet (preorder (program_of (con 1 ∷ [])) ++ rest) (column (program_of (con 1 ∷ [])) ++ others)) work)) r).0;
    limit_first = λ {table} work v t w h l m r.
        (runs_to (twice 4) h (twice_good 4 (omega arith)) (eighteen h (omega (arith, m.0, m.1))) (put_stays pair 4 (room_of calls.limit table work)) r).0 ∙ ap (λ (y : ℕ). told 2 y 0 no_step) (twice_nodes 4);
    room_in = λ work v t w h l m r. goes_once r 4 h (eighteen h (omega (arith, m.0, m.1))) (omega (arith, l.0, l.1, m.0, m.1));
    table_short = λ work v t w h l m r. stops_short r h (eighteen h (omega (arith, m.0, m.1))) (omega (arith, l.0, l.1, m.0, m.1));
    column_short = λ work v t w h l m r. stops_short r h (eighteen h (omega (arith, m.0, m.1))) (omega (arith, l.0, l.1, m.0, m.1));
    work_short = λ work v t w h l m r. stops_short r h (eighteen h (omega (arith, m.0, m.1))) (omega (arith, l.0, l.1, m.0, m.1));
    work_column_short = λ work v t w h l m r. stops_short r h (eighteen h (omega (arith, m.0, m.1))) (omega (arith, l.0, l.1, m.0, m.1));
    limit_in = λ work v t w h l m r. goes_once r calls.half h (omega (arith, h.table_of.counts, twice_nodes calls.half)) (omega arith) ∙ ap (λ (y : ℕ). told 2 y 1 one_beta) halved;
    limit_out = λ work v t w h l m r. stops_at_once r pair_and_one calls.half h (twice_and_one_good calls.half (omega arith)) (omega (arith, h.table_of.counts, twice_and_one_nodes calls.half)) (omega (arith, twice_and_one_result calls.half)) ∙ ap (λ (y : ℕ). told 3 y 0 no_step) (sym h.table_of.counts ∙ twice_and_one_nodes calls.half);
  }

  boundaries : Boundaries calls
  boundaries = record { reading = read_boundaries; tables = table_boundaries; columns = column_boundaries; on_tables = call_boundaries; running = run_boundaries }

-- Both sizes.

plain_texts : Texts plain
unfolding ascii program_of digits decimal bytes encode raw raw_text text
plain_texts = record { free_last = refl; free_beyond = refl; location_last = refl; location_beyond = refl; index_last = refl; index_beyond = refl; index = refl; index_short = omega arith }

small_texts : Texts small
unfolding ascii program_of digits decimal bytes encode raw raw_text text
small_texts = record { free_last = refl; free_beyond = refl; location_last = refl; location_beyond = refl; index_last = refl; index_beyond = refl; index = refl; index_short = omega arith }

pub plain_boundaries : Boundaries plain
plain_boundaries = boundaries plain (omega arith) (omega arith) (omega arith) (omega arith) (omega arith) plain_texts

pub small_boundaries : Boundaries small
small_boundaries = boundaries small (omega arith) (omega arith) (omega arith) (omega arith) (omega arith) small_texts
