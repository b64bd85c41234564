-- What is reported of these inputs, one for each reason and some refused ones, document 01's two examples among them. That nothing else can be is `reports_once`.
use mathlib.Core.Path.{◌≡◌, refl, ap, ◌∙◌}
use mathlib.Core.Logic.{inl, inr}
use mathlib.Core.List.{List, [], ◌∷◌, ◌++◌}
use Prim.Native.Nat.{ℕ, zero, suc, ◌-◌, ◌≤◌}
use native.Mathlib.Omega.{arith}
use Rattle.calculus.specs.declared.Reason.TheVariants.{Ended, Steps, Room}
use Rattle.calculus.specs.declared.Refusal.TheVariants.{NotCanonical}
use Rattle.calculus.specs.Tree.{term, program, app, guard, unif, Head, code, at, Tree, empty, alt, bound, con, abs, fresh, two, nodes, threads, program_of, uses, stored}
use Rattle.calculus.specs.Put.{put_in}
use Rattle.calculus.specs.Value.{single, structure, value}
use Rattle.calculus.specs.Redex.{plug, own, redexes}
use Rattle.calculus.specs.Step.{least_from, variable_for, location_for, rewriting, first, step_thread, step}
use Rattle.calculus.specs.Good.{InRange, Closed, HoldsClosure, Good}
use Rattle.calculus.specs.Run.{End, size, later, next_program, run}
use Rattle.calculus.specs.Sexp.{digits, decimal, bytes}
use Rattle.calculus.specs.Text.{encode, raw, raw_text, text}
use Rattle.calculus.specs.Known.{ascii, only}
use Rattle.calculus.specs.Calls.{TextOf}
use Rattle.calculus.specs.Report.{zeros, report, reported, refused, Reports}
use Rattle.calculus.proofs.Preorders.{threads_of_program}
use Rattle.calculus.proofs.Machines.{run_ended, run_goes, run_large, run_returns}
use Rattle.calculus.proofs.Closures.{plain_coherent}
use Rattle.calculus.proofs.Ends.{report_example, refusal_example, closure_example}
use Rattle.calculus.proofs.Reports.{zeros_hold}
use Rattle.promises.proofs.Admitted.{good_read}
use Rattle.promises.proofs.Refused.{reads_exactly}
use Rattle.promises.proofs.Samples.{not_empty}
use Rattle.small.specs.Limit.{small_limit}
use Rattle.promises.proofs.Excluded.{closures, holds_among}
use Rattle.operator.proofs.Turned.{accepted_still, plain_kept}
use Rattle.leaf.specs.Reported.{most}
use Rattle.leaf.proofs.Shapes.{room_report, three_steps_report}
use Rattle.leaf.proofs.Closures.{closure_reported}

-- what is reported of the text of a good program without a closure is its run
good_reports : {n k : ℕ} {p : Tree program} → n ≤ 65536 → Good n p → (HoldsClosure p → ⊥) → Reports n k (text p) (report (run n k (threads p)))
good_reports {n} {k} {p} l g f =
    let t : TextOf n (text p) p = record { is = refl; ranges = g.ranges } in
    reported p (accepted_still n (text p) (zeros n) (plain_kept n (text p) (zeros n) t f) ((reads_exactly (good_read g (zeros n) l (omega (arith, g.small, zeros_hold n)))).accepted_only refl)) t

-- with its run and the report of that in hand
run_reports : (ts : List (Tree term)) {e : End (List (Tree term))} {w : List ℕ} → size ts ≤ small_limit → InRange small_limit (program_of ts) → Closed 0 (program_of ts) → closures (program_of ts) ≡ [] →
    run small_limit most ts ≡ e → report e ≡ w → Reports small_limit most (text (program_of ts)) w
run_reports ts {e} {w} l i c o r h =
    let none : HoldsClosure (program_of ts) → ⊥ = λ k. rw o at (holds_among k.0 k.1.0 (program_of ts) k.1.1) in
    let q : report (run small_limit most (threads (program_of ts))) ≡ w = ap (λ (l : List (Tree term)). report (run small_limit most l)) (threads_of_program ts) ∙ ap report r ∙ h in
    rw q at (good_reports {k = most} (omega arith) (record { small = l; ranges = i; closed = c; coherent = plain_coherent (program_of ts) none }) none)

-- By steps: two steps allocate the two abstractions, the third applies the first to the second, and what it leaves its step returns.

-- `((a (l ((a b0 b0))) (l ((a b0 b0)))))`, or with locations
abbrev halves : Head → Head → List (Tree term)
halves h k = let w : Head → Tree term = λ x. abs x (only (two app (bound 0) (bound 0))) in two app (w h) (w k) ∷ []

halves_run : run small_limit most (halves code code) ≡ record { reason = Steps; taken = most; last = halves (at 1) (at 1) }
unfolding nodes program_of threads uses stored put_in single structure value plug own redexes least_from location_for rewriting first step_thread step next_program run
halves_run =
    run_goes next_program size {s = halves code code} {q = halves (at 0) code} small_limit (most - 1) refl (omega arith)
    ∙ ap (later next_program size) (run_goes next_program size {s = halves (at 0) code} {q = halves (at 0) (at 1)} small_limit (most - 2) refl (omega arith)
    ∙ ap (later next_program size) (run_goes next_program size {s = halves (at 0) (at 1)} {q = halves (at 1) (at 1)} small_limit (most - 3) refl (omega arith)
    ∙ ap (later next_program size) (run_returns next_program size {s = halves (at 1) (at 1)} small_limit (most - 3) refl (omega arith))))

halves_text : text (program_of (halves code code)) ≡ ascii "((1:a(1:l((1:a(1:v1:0)(1:v1:0))))(1:l((1:a(1:v1:0)(1:v1:0))))))"
unfolding ascii program_of digits decimal bytes encode raw raw_text text
halves_text = refl

halves_report : report (record { reason = Steps; taken = 10000; last = halves (at 1) (at 1) }) ≡ ascii "(5:steps5:10000((1:a(1:L1:1((1:a(1:v1:0)(1:v1:0))))(1:L1:1((1:a(1:v1:0)(1:v1:0)))))))"
unfolding report ascii program_of digits decimal bytes encode raw
halves_report = refl

-- "runs 10,000 steps"; "The other reasons are the atoms `5:steps` and `4:room`"
pub steps_reports : Reports small_limit most (ascii "((1:a(1:l((1:a(1:v1:0)(1:v1:0))))(1:l((1:a(1:v1:0)(1:v1:0))))))") (ascii "(5:steps5:10000((1:a(1:L1:1((1:a(1:v1:0)(1:v1:0))))(1:L1:1((1:a(1:v1:0)(1:v1:0)))))))")
unfolding nodes program_of closures
steps_reports = rw (← halves_text) (run_reports (halves code code) (omega arith) (omega arith) (omega arith) refl halves_run halves_report)

-- By room: an abstraction whose body mentions its variable often, applied to a structure.

-- h applied to a, k times
unfoldable pub applied : ℕ → Tree term → Tree term → Tree term
applied zero h a = h
applied (suc k) h a = two app (applied k h a) a

module _ (n : ℕ) (h a : Tree term) where
  applied_ranges : InRange n h → InRange n a → (k : ℕ) → InRange n (applied k h a)
  unfolding applied
  applied_ranges x y zero = x
  applied_ranges x y (suc k) = (applied_ranges x y k, y)

  applied_closed : Closed n h → Closed n a → (k : ℕ) → Closed n (applied k h a)
  unfolding applied
  applied_closed x y zero = x
  applied_closed x y (suc k) = (applied_closed x y k, y)

-- c1 applied to m times c1
abbrev heap : ℕ → Tree term
heap m = applied m (con 1) (con 1)

-- an abstraction with the body t, applied to it
abbrev heaped : Head → Tree term → ℕ → List (Tree term)
heaped h t m = two app (abs h (only t)) (heap m) ∷ []

-- what is written of it, where its body is in range and mentions no variable but its own
heaped_reports : (t : Tree term) (m : ℕ) {e : End (List (Tree term))} {w : List ℕ} → size (heaped code t m) ≤ small_limit → InRange small_limit t → Closed 1 t → closures (program_of (heaped code t m)) ≡ [] →
    run small_limit most (heaped code t m) ≡ e → report e ≡ w → Reports small_limit most (text (program_of (heaped code t m))) w
unfolding program_of
heaped_reports t m l r c = run_reports (heaped code t m) l (((tt, (r, tt)), applied_ranges small_limit (con 1) (con 1) (omega arith) (omega arith) m), tt) (((c, tt), applied_closed 0 (con 1) (con 1) tt tt m), tt)

-- `((a (l ((a .. (a c1 b0) .. b0))) (a .. (a c1 c1) .. c1)))` with 31 times b0 and 32 times c1
abbrev crowd : Head → List (Tree term)
crowd h = heaped h (applied 31 (con 1) (bound 0)) 32

-- it is allocated, and the result of the next step would have 2,049 nodes
crowd_run : run small_limit most (crowd code) ≡ record { reason = Room; taken = 1; last = crowd (at 0) }
unfolding applied nodes program_of threads stored put_in single structure value plug own redexes least_from location_for rewriting first step_thread step next_program run
crowd_run =
    run_goes next_program size {s = crowd code} {q = crowd (at 0)} small_limit (most - 1) refl (omega arith)
    ∙ ap (later next_program size) (run_large next_program size {s = crowd (at 0)} {q = applied 31 (con 1) (heap 32) ∷ []} small_limit (most - 2) refl (omega arith))

-- the next result exceeds the 2,048 nodes
pub room_reports : Reports small_limit most (text (program_of (crowd code))) (ascii "(4:room1:1" ++ (text (program_of (crowd (at 0))) ++ ascii ")"))
unfolding nodes program_of closures applied
room_reports =
    heaped_reports (applied 31 (con 1) (bound 0)) 32 (omega arith) (applied_ranges small_limit (con 1) (bound 0) (omega arith) (omega arith) 31) (applied_closed 1 (con 1) (bound 0) tt (omega arith) 31) refl crowd_run (room_report (crowd (at 0)))

-- `((a (l ((n (a .. (a c1 b1) .. b1)))) (a .. (a c1 c1) .. c1)))` with 14 times b1 and 72 times c1: the second step's result has 2,048 nodes
abbrev full : Head → List (Tree term)
full h = heaped h (fresh (applied 14 (con 1) (bound 1))) 72

abbrev full_next : List (Tree term)
full_next = fresh (applied 14 (con 1) (heap 72)) ∷ []

abbrev full_end : List (Tree term)
full_end = applied 14 (con 1) (heap 72) ∷ []

full_run : run small_limit most (full code) ≡ record { reason = Ended; taken = 3; last = full_end }
unfolding applied nodes program_of threads uses stored put_in single structure value plug own redexes least_from variable_for location_for rewriting first step_thread step next_program run
full_run =
    run_goes next_program size {s = full code} {q = full (at 0)} small_limit (most - 1) refl (omega arith)
    ∙ ap (later next_program size) (run_goes next_program size {s = full (at 0)} {q = full_next} small_limit (most - 2) refl (omega arith)
    ∙ ap (later next_program size) (run_goes next_program size {s = full_next} {q = full_end} small_limit (most - 3) refl (omega arith)
    ∙ ap (later next_program size) (run_ended next_program size {s = full_end} small_limit (most - 3) refl)))

-- a result of as many nodes as there is room for is taken
pub full_reports : Reports small_limit most (text (program_of (full code))) (ascii "(5:ended1:3" ++ (text (program_of full_end) ++ ascii ")"))
unfolding nodes program_of closures applied
full_reports =
    heaped_reports (fresh (applied 14 (con 1) (bound 1))) 72 (omega arith) (applied_ranges small_limit (con 1) (bound 1) (omega arith) (omega arith) 14) (applied_closed 2 (con 1) (bound 1) tt (omega arith) 14) refl full_run (three_steps_report full_end)

-- Document 01's two examples.

-- `((n (g (u b0 c1) b0)))`
abbrev example : List (Tree term)
example = fresh (two guard (two unif (bound 0) (con 1)) (bound 0)) ∷ []

example_text : text (program_of example) ≡ ascii "((1:n(1:g(1:u(1:v1:0)(1:c1:1))(1:v1:0))))"
unfolding ascii program_of digits decimal bytes encode raw raw_text text
example_text = refl

-- "Input `((1:n(1:g(1:u(1:v1:0)(1:c1:1))(1:v1:0))))` (41 bytes) gives `(5:ended1:3((1:c1:1)))`"
pub example_reports : Reports small_limit most (ascii "((1:n(1:g(1:u(1:v1:0)(1:c1:1))(1:v1:0))))") (ascii "(5:ended1:3((1:c1:1)))")
unfolding nodes program_of closures
example_reports = rw (← example_text) (run_reports example (omega arith) (omega arith) (omega arith) refl refl report_example)

-- "empty input gives `(7:refused1:3)`"
pub empty_reports : Reports small_limit most [] (ascii "(7:refused1:3)")
empty_reports = rw (← refusal_example) (refused NotCanonical (inr ((λ h. omega arith), inl (not_empty, refl))))

-- Request 7: a closure is turned away, one that is incoherent too.

-- the text b is that of the closed program p, which has at most so many nodes and holds a closure
closure_reports : {b : List ℕ} (p : Tree program) → text p ≡ b → InRange small_limit p → Closed 0 p → nodes p ≤ small_limit → HoldsClosure p → Reports small_limit most b (ascii "(7:refused2:15)")
closure_reports p e r c l h =
    rw (← closure_example) ((closure_reported {n = small_limit} {k = most} (omega arith)).1 (record { program_there = p; text_of = record { is = e; ranges = r }; closed = c; small = l; closure = h }))

-- `((L 0 (b0)))`, the end of `((l (b0)))`: the program does not take its own ends
abbrev end_alone : Tree program
end_alone = only (abs (at 0) (only (bound 0)))

end_text : text end_alone ≡ ascii "((1:L1:0((1:v1:0))))"
unfolding ascii digits decimal bytes encode raw raw_text text
end_text = refl

pub end_refused : Reports small_limit most (ascii "((1:L1:0((1:v1:0))))") (ascii "(7:refused2:15)")
unfolding nodes
end_refused = closure_reports end_alone end_text (omega arith) (omega arith) (omega arith) (0, (only (bound 0), inl (inl (refl, refl))))

-- `((l (c1 (a c2 (L 3 ())))))`: below an abstraction, in its second alternative
abbrev deep : Tree program
deep = only (abs code (alt (con 1) (only (two app (con 2) (abs (at 3) empty)))))

deep_text : text deep ≡ ascii "((1:l((1:c1:1)(1:a(1:c1:2)(1:L1:3())))))"
unfolding ascii digits decimal bytes encode raw raw_text text
deep_text = refl

pub deep_refused : Reports small_limit most (ascii "((1:l((1:c1:1)(1:a(1:c1:2)(1:L1:3())))))") (ascii "(7:refused2:15)")
unfolding nodes
deep_refused = closure_reports deep deep_text (omega arith) (omega arith) (omega arith) (3, (empty, inl (inr (inr (inl (inr (inl (refl, refl))))))))

-- `((n (L 0 (b1))))`: a variable inside is bound outside, which the library's read refuses with 8
abbrev outside : Tree program
outside = only (fresh (abs (at 0) (only (bound 1))))

outside_text : text outside ≡ ascii "((1:n(1:L1:0((1:v1:1)))))"
unfolding ascii digits decimal bytes encode raw raw_text text
outside_text = refl

pub incoherent_refused : Reports small_limit most (ascii "((1:n(1:L1:0((1:v1:1)))))") (ascii "(7:refused2:15)")
unfolding nodes
incoherent_refused = closure_reports outside outside_text (omega arith) (omega arith) (omega arith) (0, (only (bound 1), inl (inl (refl, refl))))
