-- Document 01 (a) over the calls: a contract allows one answer, and one content of every lent buffer, columns among them, for any node limit n. The answers are the
-- Results of the calls and the structs of the exported functions.
use mathlib.Core.Path.{◌≡◌, sym, ap, ◌∙◌}
use mathlib.Core.List.{List}
use Prim.Native.Nat.{ℕ, ◌+◌, ◌*◌}
use lib.ListN.{length, drop}
use Rattle.std.specs.Prelude.{Result}
use Rattle.calculus.specs.declared.Refusal.{Refusal}
use Rattle.calculus.specs.declared.Standing.{Standing}
use Rattle.calculus.specs.declared.Stepped.{Stepped}
use Rattle.calculus.specs.declared.Ran.{Ran}
use Rattle.calculus.specs.Sheets.{Sheet}
use Rattle.calculus.specs.Answers.{Values, counted_values, stepped_values, ran_values, stood_values}
use Rattle.calculus.specs.Calls.{Reads, Writes, StepsInto, RunsWith, StandsAt}
use Rattle.calculus.proofs.Answers.{same_refusal, same_value, six_injective, counted_once, stepped_once, ran_once, stood_once}
use Rattle.calculus.proofs.Outcomes.{reads_once, writes_once, steps_once, runs_once, stands_once, parts_once}
use Rattle.threads.specs.Places.{SpanOf, ThreadPart}
use Rattle.answers.specs.declared.Count.{Count}
use Rattle.answers.specs.declared.Move.{Move}
use Rattle.answers.specs.declared.Stop.{Stop}
use Rattle.answers.specs.declared.Stand.{Stand}
use Rattle.answers.specs.Structs.{count_values, move_values, stop_values, stand_values}
use Rattle.promises.proofs.Refused.{span_length}

-- No two structs of the exported functions have the same values: every field is told.

-- of reading and writing
pub count_once : (x y : Count) → count_values x ≡ count_values y → x ≡ y
count_once x y e = let same : ◌≡◌ {A = Count} (record { count = x.count; refusal = x.refusal }) y = rw (same_value 0 e, same_refusal e) in same

-- of a step
pub move_once : (x y : Move) → move_values x ≡ move_values y → x ≡ y
move_once x y e =
    let same : ◌≡◌ {A = Move} (record { nodes = x.nodes; thread = x.thread; rule = x.rule; refusal = x.refusal }) y = rw (same_value 0 e, same_value 1 e, same_value 2 e, same_refusal e) in
    same

-- of a run
pub stop_once : (x y : Stop) → stop_values x ≡ stop_values y → x ≡ y
stop_once x y e =
    let same : ◌≡◌ {A = Stop} (record { nodes = x.nodes; steps = x.steps; counts = x.counts; reason = x.reason; refusal = x.refusal }) y =
    rw (same_value 0 e, same_value 1 e, same_value 2 e, six_injective x.counts y.counts (ap (λ (v : Values). drop 3 v.values) e), same_refusal e) in
    same

-- of the standing call
pub stand_once : (x y : Stand) → stand_values x ≡ stand_values y → x ≡ y
stand_once x y e = let same : ◌≡◌ {A = Stand} (record { standing = x.standing; refusal = x.refusal }) y = rw (same_value 0 e, same_refusal e) in same

-- answers whose values are the same are equal, and the output is as said
told : {A B : Type 0} {f : A → Values} {o u : B} → ((x y : A) → f x ≡ f y → x ≡ y) → (x y : A) → (f x ≡ f y) × (o ≡ u) → (x ≡ y) × (o ≡ u)
told once x y e = (once x y e.0, e.1)

module _ {n : ℕ} {b : List ℕ} {out o u : Sheet} where
  -- a read: the answer, the output and its column
  pub read_determined : (x y : Result ℕ Refusal) → Reads n b out (counted_values x) o → Reads n b out (counted_values y) u → (x ≡ y) × (o ≡ u)
  read_determined x y h k = told counted_once x y (reads_once h k)

  -- as exported
  pub exported_read_determined : (x y : Count) → Reads n b out (count_values x) o → Reads n b out (count_values y) u → (x ≡ y) × (o ≡ u)
  exported_read_determined x y h k = told count_once x y (reads_once h k)

module _ {n : ℕ} {table : Sheet} {count : ℕ} where
  module _ {out o u : List ℕ} where
    -- a write
    pub write_determined : (x y : Result ℕ Refusal) → Writes n table count out (counted_values x) o → Writes n table count out (counted_values y) u → (x ≡ y) × (o ≡ u)
    write_determined x y h k = told counted_once x y (writes_once h k)

    -- as exported
    pub exported_write_determined : (x y : Count) → Writes n table count out (count_values x) o → Writes n table count out (count_values y) u → (x ≡ y) × (o ≡ u)
    exported_write_determined x y h k = told count_once x y (writes_once h k)

  module _ {out o u : Sheet} where
    -- a step
    pub step_determined : (x y : Result Stepped Refusal) → StepsInto n table count out (stepped_values x) o → StepsInto n table count out (stepped_values y) u → (x ≡ y) × (o ≡ u)
    step_determined x y h k = told stepped_once x y (steps_once h k)

    -- as exported
    pub exported_step_determined : (x y : Move) → StepsInto n table count out (move_values x) o → StepsInto n table count out (move_values y) u → (x ≡ y) × (o ≡ u)
    exported_step_determined x y h k = told move_once x y (steps_once h k)

  module _ {work : Sheet} {limit : ℕ} {t w p q : Sheet} where
    -- a run: the answer, the table, the work table and their columns
    pub run_determined : (x y : Result Ran Refusal) → RunsWith n table count work limit (ran_values x) t w → RunsWith n table count work limit (ran_values y) p q → (x ≡ y) × (t ≡ p) × (w ≡ q)
    run_determined x y h k = let e = runs_once h k in (ran_once x y e.0, e.1, e.2)

    -- as exported
    pub exported_run_determined : (x y : Stop) → RunsWith n table count work limit (stop_values x) t w → RunsWith n table count work limit (stop_values y) p q → (x ≡ y) × (t ≡ p) × (w ≡ q)
    exported_run_determined x y h k = let e = runs_once h k in (stop_once x y e.0, e.1, e.2)

  module _ {k : ℕ} where
    -- the standing call: the answer
    pub standing_determined : (x y : Result Standing Refusal) → StandsAt n table count k (stood_values x) → StandsAt n table count k (stood_values y) → x ≡ y
    standing_determined x y h i = stood_once x y (stands_once h i)

    -- as exported
    pub exported_standing_determined : (x y : Stand) → StandsAt n table count k (stand_values x) → StandsAt n table count k (stand_values y) → x ≡ y
    exported_standing_determined x y h i = stand_once x y (stands_once h i)

    -- the thread call: where the part begins, its place in memory, and its numbers, and so its length too
    pub thread_once : {B : Type 0} {block p q : B} {address a c : ℕ} {l m : List ℕ} (h : ThreadPart n table count k block address p a l) (i : ThreadPart n table count k block address q c m) →
        (h.start ≡ i.start) × (p ≡ q) × (a ≡ c) × (l ≡ m)
    thread_once {address = address} h i =
        let e = parts_once h.holds i.holds in
        (e.0, h.in_table ∙ sym i.in_table, h.there ∙ ap (λ (j : ℕ). address + 2 * j) e.0 ∙ sym i.there, e.1)

    -- as exported: the first number and how many
    pub span_once : {s r m j : ℕ} → SpanOf n table count k s m → SpanOf n table count k r j → (s ≡ r) × (m ≡ j)
    span_once h i = let e = parts_once h.holds i.holds in (e.0, sym (span_length h) ∙ ap length e.1 ∙ span_length i)
