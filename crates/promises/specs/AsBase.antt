-- Request 5, the same as without columns: where the column handed in is right and both columns are at least as long as their tables hold, answers and tables are those
-- of the base, number for number. The base is each call over tables alone, as the calls were before request 5.
use Rattle.std.specs.Prelude.{◌≡◌, List, [], ◌∷◌, ◌++◌, ℕ, ◌*◌, ◌/◌, ◌≤◌, ◌<◌, min, length, replicate}
use Rattle.std.proofs.Math.Option.{none}
use Rattle.calculus.specs.declared.Refusal.{Refusal}
use Rattle.calculus.specs.declared.Refusal.TheVariants.{TooLong, NotCanonical, OutOfPlace, BadNumber, NoBinder, TooManyNodes, Incoherent, NoRoom, NoThread, Finished}
use Rattle.calculus.specs.Tree.{term, program, Tree, preorder, nodes, threads, program_of}
use Rattle.calculus.specs.Good.{Closed, Coherent, All}
use Rattle.calculus.specs.Step.{Step, step, standing}
use Rattle.calculus.specs.Sheets.{Sheet, holds}
use Rattle.calculus.specs.Run.{size, run, room_of}
use Rattle.calculus.specs.Tally.{run_counts}
use Rattle.calculus.specs.Sexp.{one, Sexp, bytes}
use Rattle.calculus.specs.Text.{Raw, raw_text, text}
use Rattle.calculus.specs.Column.{ColumnOf}
use Rattle.calculus.specs.Answers.{number, rule_code, standing_code, Values, refused_step, refused_run}
use Rattle.calculus.specs.Calls.{Refusals, Accepts, Refuses, front, TextOf, Reads, TableOf, zeros_behind, values_of_run, no_program, no_binder, incoherent, plain_refusals, StepsTo, ThreadOf, Writes, StepsInto, RunsWith, StandsAt, nodes_before, PartAt}

-- a call of the base, by its list of refusals: it finds an x, answers `told x` and leaves `left x`; or it is refused and leaves what was lent
pub data Base {X A B : Type 0} (cs : Refusals) (Found : X → Type 0) (told : X → A) (left : X → B) (no : Refusal → A) (lent : B) : A → B → Type 0 where
  done : (x : X) → Accepts cs → Found x → Base cs Found told left no lent (told x) (left x)
  not_done : (r : Refusal) → Refuses cs r → Base cs Found told left no lent (no r) lent

-- one number, and a refusal's
abbrev one_told : ℕ → Values
one_told m = record { refusal = 0; values = m ∷ [] }

abbrev refused_told : Refusal → Values
refused_told r = record { refusal = number r; values = 0 ∷ [] }

-- a read into `out`
abbrev pub BaseReads : ℕ → List ℕ → List ℕ → Values → List ℕ → Type 0
BaseReads n b out = Base
    ((TooLong, 12 * n < length b)
    ∷ (NotCanonical, (s : Sexp one) → bytes s ≡ b → ⊥)
    ∷ (OutOfPlace, (s : Sexp one) × ((bytes s ≡ b) × ((r : Raw program) → raw_text r ≡ b → ⊥)))
    ∷ (BadNumber, (r : Raw program) × ((raw_text r ≡ b) × ((p : Tree program) → TextOf n b p → ⊥)))
    ∷ (NoBinder, (p : Tree program) × (TextOf n b p × (Closed 0 p → ⊥)))
    ∷ (TooManyNodes, (p : Tree program) × (TextOf n b p × (n < nodes p)))
    ∷ (Incoherent, (p : Tree program) × (TextOf n b p × (All Coherent (threads p) → ⊥)))
    ∷ (NoRoom, (p : Tree program) × (TextOf n b p × (length out / 2 < nodes p)))
    ∷ [])
    (TextOf n b) (λ p. one_told (nodes p)) (λ p. front (preorder p) out) refused_told out

-- calls on a table and its node count: 1, 6, 8 and what is asked of each alone
module _ (n : ℕ) (table : List ℕ) (count : ℕ) where
  -- a write into `out`
  abbrev pub BaseWrites : List ℕ → Values → List ℕ → Type 0
  BaseWrites out = Base
      (plain_refusals n table count ++ ((NoRoom, (p : Tree program) × (TableOf n table count p × (length out < length (text p)))) ∷ []))
      (TableOf n table count) (λ p. one_told (length (text p))) (λ p. front (text p) out) refused_told out

  -- a single step into `out`
  abbrev pub BaseSteps : List ℕ → Values → List ℕ → Type 0
  BaseSteps out = Base
      (no_program n table count
      ∷ no_binder n table count
      ∷ (TooManyNodes, (p : Tree program) × ((s : Step) × (StepsTo n table count p s × (All Coherent (threads p) × (n < size s.result)))))
      ∷ incoherent n table count
      ∷ (NoRoom, (p : Tree program) × ((s : Step) × (StepsTo n table count p s × (length out / 2 < size s.result))))
      ∷ (Finished, (p : Tree program) × (TableOf n table count p × (step (threads p) ≡ none)))
      ∷ [])
      (λ s. (p : Tree program) × StepsTo n table count p s)
      (λ s. record { refusal = 0; values = size s.result ∷ rule_code s.rule ∷ s.thread ∷ [] })
      (λ s. front (preorder (program_of s.result)) out) refused_step out

  -- a run in a room, with a work table that holds so many nodes: what it leaves in the table and in the work table
  abbrev pub BaseRunsIn : ℕ → ℕ → List ℕ → ℕ → Values → List ℕ × List ℕ → Type 0
  BaseRunsIn room held work limit =
      Base (plain_refusals n table count ++ ((NoRoom, held < count) ∷ [])) (TableOf n table count) (λ p. values_of_run (run room limit (threads p)) (run_counts room limit (threads p)))
      (λ p. (zeros_behind (preorder (program_of (run room limit (threads p)).last)) table, replicate (length work) 0)) refused_run (table, work)

  -- room is the least of what both tables hold, in whole nodes, and the node limit
  abbrev pub BaseRuns : List ℕ → ℕ → Values → List ℕ × List ℕ → Type 0
  BaseRuns work = BaseRunsIn (min (min (length table / 2) (length work / 2)) n) (length work / 2) work

  -- of the standing and the thread call
  abbrev pub base_thread_refusals : ℕ → Refusals
  base_thread_refusals k = plain_refusals n table count ++ ((NoThread, (p : Tree program) × (TableOf n table count p × (length (threads p) ≤ k))) ∷ [])

  -- the standing call, which leaves the table as it was
  abbrev pub BaseStands : ℕ → Values → List ℕ → Type 0
  BaseStands k = Base (base_thread_refusals k) (ThreadOf n table count k) (λ t. one_told (standing_code (standing t))) (λ t. table) refused_told table

  -- the thread call: the part's first number, and the part
  abbrev pub BasePart : ℕ → ℕ → List ℕ → Type 0
  BasePart k = Base {X = (t : Tree term) × ThreadOf n table count k t} (base_thread_refusals k) (λ x. Unit {0}) (λ x. 2 * nodes_before x.1.before) (λ x. preorder x.0) (λ r. 0) []

-- where the column handed in is right
abbrev pub RightColumn : ℕ → Sheet → ℕ → Type 0
RightColumn n table count = (p : Tree program) → TableOf n table.numbers count p → ColumnOf table.sizes count p

-- and both columns are at least as long as their tables hold
abbrev pub LongColumn : Sheet → Type 0
LongColumn s = length s.numbers / 2 ≤ length s.sizes

-- answers and tables are among those of the base, number for number
pub record AsBase : Type 0 where
  pub reads : (n : ℕ) (b : List ℕ) (out : Sheet) (v : Values) (o : Sheet) → LongColumn out → Reads n b out v o → BaseReads n b out.numbers v o.numbers
  pub writes : (n : ℕ) (table : Sheet) (count : ℕ) (out : List ℕ) (v : Values) (o : List ℕ) → RightColumn n table count → Writes n table count out v o → BaseWrites n table.numbers count out v o
  pub steps : (n : ℕ) (table : Sheet) (count : ℕ) (out : Sheet) (v : Values) (o : Sheet) → RightColumn n table count → LongColumn out → StepsInto n table count out v o →
      BaseSteps n table.numbers count out.numbers v o.numbers
  pub runs : (n : ℕ) (table : Sheet) (count : ℕ) (work : Sheet) (limit : ℕ) (v : Values) (t w : Sheet) → RightColumn n table count → LongColumn table → LongColumn work → RunsWith n table count work limit v t w →
      BaseRuns n table.numbers count work.numbers limit v (t.numbers, w.numbers)
  -- a run is the base's in the room so read, however long the columns are
  pub runs_in : (n : ℕ) (table : Sheet) (count : ℕ) (work : Sheet) (limit : ℕ) (v : Values) (t w : Sheet) → RightColumn n table count → RunsWith n table count work limit v t w →
      BaseRunsIn n table.numbers count (room_of n table work) (holds work) work.numbers limit v (t.numbers, w.numbers)
  pub stands : (n : ℕ) (table : Sheet) (count k : ℕ) (v : Values) → RightColumn n table count → StandsAt n table count k v → BaseStands n table.numbers count k v table.numbers
  pub parts : (n : ℕ) (table : Sheet) (count k start : ℕ) (part : List ℕ) → RightColumn n table count → PartAt n table count k start part → BasePart n table.numbers count k start part

-- one outcome only is allowed
abbrev Once : {A B : Type 0} → (A → B → Type 0) → Type 0
Once {A} {B} R = (a c : A) (b d : B) → R a b → R c d → (a ≡ c) × (b ≡ d)

-- and the base allows one outcome of each call: so they are those, and no others
pub record BaseOnce : Type 0 where
  pub reads : (n : ℕ) (b out : List ℕ) → Once (BaseReads n b out)
  pub writes : (n : ℕ) (table : List ℕ) (count : ℕ) (out : List ℕ) → Once (BaseWrites n table count out)
  pub steps : (n : ℕ) (table : List ℕ) (count : ℕ) (out : List ℕ) → Once (BaseSteps n table count out)
  pub runs : (n : ℕ) (table : List ℕ) (count room held : ℕ) (work : List ℕ) (limit : ℕ) → Once (BaseRunsIn n table count room held work limit)
  pub stands : (n : ℕ) (table : List ℕ) (count k : ℕ) → Once (BaseStands n table count k)
  pub parts : (n : ℕ) (table : List ℕ) (count k : ℕ) → Once (BasePart n table count k)
