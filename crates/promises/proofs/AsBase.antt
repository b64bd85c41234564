-- The same as without columns: where the column handed in is right and the others are as long as their tables hold, each call is the base's, number for number, refusals too; and the base allows one outcome only.
use mathlib.Core.Path.{◌≡◌, refl, ap}
use mathlib.Core.Logic.{◌⊎◌, inl, inr}
use mathlib.Core.List.{List, []}
use Prim.Native.Nat.{ℕ, ◌*◌, ◌/◌}
use native.Mathlib.Omega.{arith}
use lib.ListN.{length}
use Rattle.calculus.specs.declared.Refusal.{Refusal}
use Rattle.calculus.specs.Tree.{term, Tree, preorder}
use Rattle.calculus.specs.Sheets.{Sheet, holds}
use Rattle.calculus.specs.Run.{room_of}
use Rattle.calculus.specs.Answers.{Values}
use Rattle.calculus.specs.Calls.{Refusals, nodes_before, Reads, Writes, StepsInto, StandsAt, PartAt, read, refused, wrong_column, RunsWith, written, not_written, stepped, not_stepped, ran, not_run, stands, not_stood, part, no_part}
use Rattle.calculus.proofs.Refusals.{accepted_not_refused, one_refusal}
use Rattle.calculus.proofs.Outcomes.{text_of_unique, table_of_unique, steps_to_unique, thread_of_unique}
use Rattle.promises.specs.AsBase.{Base, done, not_done, BaseReads, BaseWrites, BaseSteps, BaseStands, BasePart, BaseRunsIn, base_thread_refusals, RightColumn, LongColumn, AsBase, BaseOnce}

-- a condition W that does not hold, taken out behind the first one of a list
less_refuses : {F N W C M X : Type 0} → (W → ⊥) → F ⊎ (N × ((W × C) ⊎ (M × X))) → F ⊎ (N × X)
less_refuses f (inl g) = inl g
less_refuses f (inr (a, inl g)) = absurd (f g.0)
less_refuses f (inr (a, inr g)) = inr (a, g.1)

-- 14 is not given of a right column
never : {n : ℕ} {table : Sheet} {count : ℕ} → RightColumn n table count → (wrong_column n table count).1 → ⊥
never right q = q.1.1 (right q.0 q.1.0)

-- a table with a column as long as it holds
as_table : (s : Sheet) → LongColumn s → holds s ≡ length s.numbers / 2
as_table s l = omega arith

-- a run is the base's in its room
run_in : (n : ℕ) (table : Sheet) (count : ℕ) (work : Sheet) (limit : ℕ) (v : Values) (t w : Sheet) → RightColumn n table count → RunsWith n table count work limit v t w →
    BaseRunsIn n table.numbers count (room_of n table work) (holds work) work.numbers limit v (t.numbers, w.numbers)
run_in n table count work limit v t w right (ran p a k) = done p (a.0, a.1.1) k
run_in n table count work limit v t w right (not_run r g) = not_done r (less_refuses (never right) g)

reads_in : (n : ℕ) (b : List ℕ) (out : Sheet) (v : Values) (o : Sheet) → LongColumn out → Reads n b out v o → BaseReads n b out.numbers v o.numbers
reads_in n b out v o l (read p a t) = done p (rw (as_table out l) at a) t
reads_in n b out v o l (refused r g) = not_done r (rw (as_table out l) at g)

writes_in : (n : ℕ) (table : Sheet) (count : ℕ) (out : List ℕ) (v : Values) (o : List ℕ) → RightColumn n table count → Writes n table count out v o → BaseWrites n table.numbers count out v o
writes_in n table count out v o right (written p a t) = done p (a.0, a.1.1) t
writes_in n table count out v o right (not_written r g) = not_done r (less_refuses (never right) g)

steps_in : (n : ℕ) (table : Sheet) (count : ℕ) (out : Sheet) (v : Values) (o : Sheet) → RightColumn n table count → LongColumn out → StepsInto n table count out v o →
    BaseSteps n table.numbers count out.numbers v o.numbers
steps_in n table count out v o right l (stepped p s a t) = let b = rw (as_table out l) at a in done s (b.0, b.1.1) (p, t)
steps_in n table count out v o right l (not_stepped r g) = not_done r (rw (as_table out l) at (less_refuses (never right) g))

stands_in : (n : ℕ) (table : Sheet) (count k : ℕ) (v : Values) → RightColumn n table count → StandsAt n table count k v → BaseStands n table.numbers count k v table.numbers
stands_in n table count k v right (stands t a o) = done t (a.0, a.1.1) o
stands_in n table count k v right (not_stood r g) = not_done r (less_refuses (never right) g)

parts_in : (n : ℕ) (table : Sheet) (count k start : ℕ) (found : List ℕ) → RightColumn n table count → PartAt n table count k start found → BasePart n table.numbers count k start found
parts_in n table count k start found right (part t a o) = done (t, o) (a.0, a.1.1) tt
parts_in n table count k start found right (no_part r g) = not_done r (less_refuses (never right) g)

pub as_base : AsBase
as_base = record {
  reads = reads_in;
  writes = writes_in;
  steps = steps_in;
  runs = λ n table count work limit v t w right l m h. rw (as_table table l, as_table work m) at (run_in n table count work limit v t w right h);
  runs_in = run_in;
  stands = stands_in;
  parts = parts_in;
}

-- a call of the base allows one outcome only, where all that it may find is told and left alike
one_outcome : {X A B : Type 0} (cs : Refusals) (Found : X → Type 0) (told : X → A) (left : X → B) (refuse : Refusal → A) (lent : B) → ((x y : X) → Found x → Found y → (told x ≡ told y) × (left x ≡ left y)) →
    (a c : A) (b d : B) → Base cs Found told left refuse lent a b → Base cs Found told left refuse lent c d → (a ≡ c) × (b ≡ d)
one_outcome cs Found told left refuse lent same a c b d (done x p f) (done y q g) = same x y f g
one_outcome cs Found told left refuse lent same a c b d (done x p f) (not_done r g) = absurd (accepted_not_refused cs r p g)
one_outcome cs Found told left refuse lent same a c b d (not_done r g) (done y q f) = absurd (accepted_not_refused cs r q g)
one_outcome cs Found told left refuse lent same a c b d (not_done r g) (not_done q h) = (ap refuse (one_refusal cs r q g h), refl)

-- and so where it finds one thing only
one_found : {X A B : Type 0} {cs : Refusals} {Found : X → Type 0} {told : X → A} {left : X → B} {refuse : Refusal → A} {lent : B} → ((x y : X) → Found x → Found y → x ≡ y) →
    (a c : A) (b d : B) → Base cs Found told left refuse lent a b → Base cs Found told left refuse lent c d → (a ≡ c) × (b ≡ d)
one_found {cs = cs} {Found} {told} {left} {refuse} {lent} unique = one_outcome cs Found told left refuse lent (λ x y f g. let e = unique x y f g in (ap told e, ap left e))

pub base_once : BaseOnce
base_once = record {
  reads = λ n b out. one_found (λ p q h k. text_of_unique h k);
  writes = λ n table count out. one_found (λ p q h k. table_of_unique h k);
  steps = λ n table count out. one_found (λ s r h k. steps_to_unique h.1 k.1);
  runs = λ n table count room held work limit. one_found (λ p q h k. table_of_unique h k);
  stands = λ n table count k. one_found (λ t u h i. (thread_of_unique h i).0);
  parts = λ n table count k a c b d. one_outcome (base_thread_refusals n table count k) (λ x. Unit {0}) (λ x. 2 * nodes_before x.1.before) (λ x. preorder x.0) (λ r. 0) []
      (λ x y f g. let e = thread_of_unique x.1 y.1 in (ap (λ (l : List (Tree term)). 2 * nodes_before l) e.1, ap preorder e.0)) a c b d;
}
