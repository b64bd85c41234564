-- What the read and the run leave, and the report of both: what is read is run, and its end is written.
use mathlib.Core.Path.{◌≡◌, sym, ap, ◌∙◌}
use mathlib.Core.List.{List, [], ◌∷◌}
use Prim.Native.Nat.{ℕ, ◌*◌, ◌≤◌}
use native.Mathlib.Omega.{arith}
use lib.ListN.{length, get_or, drop, length-append, length-replicate}
use Rattle.calculus.specs.declared.Reason.{Reason}
use Rattle.calculus.specs.declared.Counts.{Counts}
use Rattle.calculus.specs.declared.Refusal.{Refusal}
use Rattle.calculus.specs.Tree.{term, Tree, threads, program_of}
use Rattle.calculus.specs.Sheets.{Sheet, holds}
use Rattle.calculus.specs.Run.{End, run, room_of}
use Rattle.calculus.specs.Tally.{run_counts}
use Rattle.calculus.specs.Answers.{number, reason_code, Values, six}
use Rattle.calculus.specs.Calls.{Reads, values_of_run, RunsWith}
use Rattle.calculus.specs.Report.{report, refusal_report, zeros, reported, refused}
use Rattle.calculus.proofs.Answers.{number_positive, reason_injective, same_value, number_small}
use Rattle.calculus.proofs.Runs.{program_run_only}
use Rattle.calculus.proofs.Outcomes.{table_of_unique}
use Rattle.writing.specs.declared.write.Output.{Output}
use Rattle.writing.specs.Writer.{numeral, Wrote}
use Rattle.promises.proofs.Admitted.{accepted}
use Rattle.small.specs.Limit.{small_limit}
use Rattle.promises.specs.Worked.{Held, HasRead, HasRun}
use Rattle.promises.proofs.Worked.{run_gives, good_runs}
use Rattle.promises.proofs.Refused.{read_length}
use Rattle.operator.specs.Operator.{ReadsOperators}
use Rattle.operator.proofs.Reading.{has_read, read_held, operators_exactly, accepted_plain}
use Rattle.leaf.specs.Reported.{most, Reported}
use Rattle.leaf.specs.Written.{Blank, HoldsGood, Loaded, EndWritten, RunWritten}
use Rattle.leaf.proofs.Stores.{wrote_front}
use Rattle.leaf.proofs.Shapes.{numeral_length, refusal_is}

-- what a run that stopped returns
abbrev pub stopped : Reason → ℕ → ℕ → Counts → Values
stopped r m k c = record { refusal = 0; values = reason_code r ∷ m ∷ k ∷ six c }

-- The run of the program in the table, in a work table that holds as much, for so many steps as are allowed.
module _ {table : Sheet} {count : ℕ} {work : Sheet} {allowed : ℕ} {v : Values} {t w : Sheet} (h : Loaded small_limit table count) (long : holds work ≡ small_limit) (c : RunsWith small_limit table count work allowed v t w) where
  abbrev loaded_end : End (List (Tree term))
  loaded_end = run small_limit allowed (threads h.good_there.program_there)

  room_is : room_of small_limit table work ≡ small_limit
  room_is = let a = h.wide in let b = h.long in omega arith

  run_values : v ≡ values_of_run loaded_end (run_counts small_limit allowed (threads h.good_there.program_there))
  run_values = let g = h.good_there in rw room_is at (good_runs g.held g.good (omega (arith, g.held.table_of.small)) c).0

  has_run : HasRun small_limit table count work allowed v t w
  has_run = run_gives c (ap (λ (x : Values). x.refusal) run_values)

  end_is : has_run.end ≡ loaded_end
  end_is = rw (room_is, table_of_unique has_run.there.table_of h.good_there.held.table_of) at (program_run_only has_run.is_run)

  -- it is not refused
  pub run_not_refused : (q : Refusal) → v.refusal ≡ number q → ⊥
  run_not_refused q f = omega (arith, number_positive q, ap (λ (x : Values). x.refusal) run_values)

  module _ (r : Reason) {m k : ℕ} {d : Counts} (f : v ≡ stopped r m k d) where
    value : (i : ℕ) → get_or (stopped r m k d).values i 0 ≡ get_or (values_of_run has_run.end has_run.counts).values i 0
    value i = same_value i (sym f ∙ has_run.values)

    reason_is : r ≡ has_run.end.reason
    reason_is = reason_injective r has_run.end.reason (value 0)

    -- the steps are as few as the limit says
    pub run_few : k ≤ allowed
    run_few = omega (arith, value 2, has_run.is_run.within)

    end_there : Held small_limit t m (program_of has_run.end.last)
    end_there = rw (value 1) has_run.back

    -- the table holds the end, a good program
    pub run_holds : HoldsGood small_limit t m
    run_holds = record { program_there = program_of has_run.end.last; held = end_there; good = has_run.result_good }

    end_told : ◌≡◌ {A = End (List (Tree term))} (record { reason = r; taken = k; last = has_run.end.last }) has_run.end
    end_told = rw (reason_is, value 2)

    -- its report is that of the run
    pub run_written : {out after : Output} → EndWritten small_limit r k t.numbers m out after → RunWritten small_limit allowed table.numbers count out after
    run_written e = record {
      same = e.same;
      fits = e.fits;
      wrote = λ q s. rw (table_of_unique s h.good_there.held.table_of, ← end_is, ← end_told) (e.wrote has_run.end.last end_there.table_of);
    }

-- The read of the operator's text b into zeros.
module _ {b : List ℕ} {v : Values} {t : Sheet} (c : ReadsOperators small_limit b (zeros small_limit) v t) where
  module _ {m : ℕ} (f : v ≡ accepted m) where
    plain : Reads small_limit b (zeros small_limit) v t
    plain = accepted_plain c (ap (λ (x : Values). x.refusal) f)

    abbrev what : HasRead small_limit b (zeros small_limit) v t
    what = has_read plain f

    -- the table holds a good program
    pub read_loaded : Loaded small_limit t m
    read_loaded = record {
      good_there = record { program_there = what.program; held = read_held plain f; good = what.good };
      wide = (read_length plain).0 ∙ length-replicate {A = ℕ} (2 * small_limit) 0;
      long = (read_length plain).1 ∙ length-replicate {A = ℕ} small_limit 0;
    }

    -- the report of its run is the text's
    pub run_reported : {out after : Output} → out.at ≡ 0 → RunWritten small_limit most t.numbers m out after → Reported small_limit most b out.bytes.now after.at after.bytes.now
    run_reported z w =
        let p = what.program in
        let u = w.wrote p (read_held plain f).table_of in
        record {
          written = report (run small_limit most (threads p));
          reports = reported p ((operators_exactly c).accepted_only (ap (λ (x : Values). x.refusal) f)) (record { is = what.is; ranges = what.good.ranges });
          counts = omega (arith, u);
          is = wrote_front z u w.fits;
        }

  -- the report of a refusal is the text's
  pub refusal_reported : (r : Refusal) {out after : Output} → v.refusal ≡ number r → Blank out → Wrote out after (refusal_report r) → Reported small_limit most b out.bytes.now after.at after.bytes.now
  refusal_reported r f l u = record {
    written = refusal_report r;
    reports = refused r ((operators_exactly c).refused_only r f);
    counts = omega arith;
    is = wrote_front l.none u (omega (arith, ap length (refusal_is r), length-append (numeral (number r)) (41 ∷ []), numeral_length (number r) (omega (arith, number_small r))));
  }

-- a report is within its output
pub reported_within : {n k : ℕ} {b out : List ℕ} {count : ℕ} {after : List ℕ} → Reported n k b out count after → length after ≡ length out → count ≤ length after
reported_within {out = out} r e = omega (arith, r.counts, ap length r.is, length-append r.written (drop (length r.written) out))
