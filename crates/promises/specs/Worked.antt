-- Demand 2: what an accepted read, write, step, run and standing call have worked, for the node limit n. v is what the call returned; o, t and w are what it left in
-- the output, the table and the work table, each with its column.
use Rattle.std.specs.Prelude.{◌≡◌, ◌⊎◌, ◌↔◌, true, List, [], ◌∷◌, ◌++◌, ℕ, ◌+◌, ◌*◌, ◌≤◌, length, take}
use Rattle.calculus.specs.declared.Rule.{Rule}
use Rattle.calculus.specs.declared.Counts.{Counts}
use Rattle.calculus.specs.declared.Standing.{Standing}
use Rattle.calculus.specs.Tree.{term, program, unif, Tree, two, ok, nodes, threads, program_of}
use Rattle.calculus.specs.Put.{put_in, substitute}
use Rattle.calculus.specs.Value.{value}
use Rattle.calculus.specs.Whole.{whole, Holding}
use Rattle.calculus.specs.Good.{Good}
use Rattle.calculus.specs.Redex.{plug}
use Rattle.calculus.specs.Unifier.{Substitution, Solves, Unifier}
use Rattle.calculus.specs.Reduction.{Reductions}
use Rattle.calculus.specs.Normal.{Stuck}
use Rattle.calculus.specs.Step.{Step}
use Rattle.calculus.specs.Choice.{Rewritable, Chosen, Choices}
use Rattle.calculus.specs.Sheets.{Sheet, holds, cleared}
use Rattle.calculus.specs.Run.{End, IsRun, size, next_program, room_of}
use Rattle.calculus.specs.Tally.{count_of, sum, steps_by}
use Rattle.calculus.specs.Text.{text}
use Rattle.calculus.specs.Column.{ColumnOf}
use Rattle.calculus.specs.Answers.{rule_code, standing_code, Values}
use Rattle.calculus.specs.Calls.{front, put_front, Reads, TableOf, end_table, values_of_run, ThreadOf, StandsAt, PartAt}
use Rattle.table.specs.Nodes.{kind_at}

-- The program p stands in a table, and its column beside it. What read, step and run leave is held so: none of 1, 14, 6 and 8 is given of it.
pub record Held (n : ℕ) (table : Sheet) (count : ℕ) (p : Tree program) : Type 0 where
  pub table_of : TableOf n table.numbers count p
  pub column_of : ColumnOf table.sizes count p

-- A read has to accept exactly the text of a good program that the output holds.
pub record Readable (n : ℕ) (b : List ℕ) (out : Sheet) : Type 0 where
  pub program : Tree program
  pub good : Good n program
  pub is : text program ≡ b
  pub held : nodes program ≤ holds out

-- A write has to accept exactly a table in which a good program stands, with its column, whose text the output holds.
pub record Writable (n : ℕ) (table : Sheet) (count : ℕ) (out : List ℕ) : Type 0 where
  pub program : Tree program
  pub there : Held n table count program
  pub good : Good n program
  pub held : length (text program) ≤ length out

-- An accepted read: the text is that of a good program that fits the output, and the output begins with exactly that program, its column with exactly the program's.
pub record HasRead (n : ℕ) (b : List ℕ) (out : Sheet) (v : Values) (o : Sheet) : Type 0 where
  pub program : Tree program
  pub good : Good n program
  pub is : text program ≡ b
  pub fits : nodes program ≤ holds out
  pub values : v.values ≡ nodes program ∷ []
  pub left : o ≡ put_front program out
  pub back : Held n o (nodes program) program

-- An accepted write: a good program stands in the table, with its column, and the output begins with exactly its text, which is read again as that program.
pub record HasWritten (n : ℕ) (table : Sheet) (count : ℕ) (out : List ℕ) (v : Values) (o : List ℕ) : Type 0 where
  pub program : Tree program
  pub there : Held n table count program
  pub good : Good n program
  pub fits : length (text program) ≤ length out
  pub values : v.values ≡ length (text program) ∷ []
  pub left : o ≡ front (text program) out
  pub back : n ≤ 65536 → {other : Sheet} {x : Values} {r : Sheet} → nodes program ≤ holds other → Reads n (take (length (text program)) o) other x r →
      (x ≡ record { refusal = 0; values = nodes program ∷ [] }) × (r ≡ put_front program other)

-- A goal `u v w` is worked: its thread is dropped exactly if no substitution makes v and w equal, and otherwise one thread stands in its place, with `ok` for the
-- goal and the most general unifier applied.
pub record Settled (ts : List (Tree term)) (s : Step) (c : Chosen ts s) (v w : Tree term) : Type 0 where
  pub dropped : (s.result ≡ c.reduces.before ++ c.reduces.after) ↔ ((τ : Substitution) → Solves τ v w → ⊥)
  pub kept : (((τ : Substitution) → Solves τ v w → ⊥) → ⊥) →
      (σ : Substitution) × (Unifier v w σ × (s.result ≡ c.reduces.before ++ (substitute σ (plug c.reduces.context ok) ∷ c.reduces.after)))

-- An accepted step: the table holds a good program, with its column, and the output begins with exactly what document 01's rewriting of it gives, a good program
-- again, with its own column. The rule and the thread told are that rewriting's: so many threads stand before it, none of which a rule rewrites.
pub record HasStepped (n : ℕ) (table : Sheet) (count : ℕ) (out : Sheet) (v : Values) (o : Sheet) : Type 0 where
  pub program : Tree program
  pub there : Held n table count program
  pub good : Good n program
  pub step : Step
  pub chosen : Chosen (threads program) step
  pub goal : (x y : Tree term) → chosen.reduces.redex ≡ two unif x y → Settled (threads program) step chosen x y
  pub fits : size step.result ≤ holds out
  pub values : v.values ≡ size step.result ∷ rule_code step.rule ∷ step.thread ∷ []
  pub left : o ≡ put_front (program_of step.result) out
  pub result_good : Good n (program_of step.result)
  pub back : Held n o (size step.result) (program_of step.result)

-- An accepted run: the table holds a good program, with its column; the end is that of the run as it is said without running it, by as many of document 003's
-- rewritings as are told, each of them the one that document 01 picks; the count told for a rule is the number of those by that rule, and their sum the steps; the
-- table holds the end, a good program again, and then zeros, its column the end's and then zeros, and the work table and its column zeros.
pub record HasRun (n : ℕ) (table : Sheet) (count : ℕ) (work : Sheet) (limit : ℕ) (v : Values) (t w : Sheet) : Type 0 where
  pub program : Tree program
  pub there : Held n table count program
  pub good : Good n program
  pub end : End (List (Tree term))
  pub is_run : IsRun next_program size (room_of n table work) limit (threads program) end
  pub rewritings : Reductions end.taken (threads program) end.last
  pub choices : Choices end.taken (threads program) end.last
  pub counts : Counts
  pub counted : (d : Choices end.taken (threads program) end.last) (r : Rule) → count_of r counts ≡ steps_by r d
  pub summed : sum counts ≡ end.taken
  pub values : v ≡ values_of_run end counts
  pub left : t ≡ end_table table end.last
  pub cleared : w ≡ cleared work
  pub result_good : Good n (program_of end.last)
  pub back : Held n t (size end.last) (program_of end.last)

-- An accepted standing call: the table holds a good program with a thread k, and its column. One standing is told: answer exactly if the thread is built of constructors only,
-- partial exactly if it is a value that holds a free variable or an allocated abstraction, stuck exactly if it is stuck by document 003's grammar, open exactly if
-- some rule of document 003 rewrites it. The first two are told exactly of the values, which were the answers before request 3. An answer is the same whatever is
-- bound or put in later.
pub record HasStood (n : ℕ) (table : Sheet) (count k : ℕ) (v : Values) : Type 0 where
  pub thread : Tree term
  pub thread_of : ThreadOf n table.numbers count k thread
  pub column_of : ColumnOf table.sizes count (program_of (thread_of.before ++ (thread ∷ thread_of.after)))
  pub good : Good n (program_of (thread_of.before ++ (thread ∷ thread_of.after)))
  pub standing : Standing
  pub values : v.values ≡ standing_code standing ∷ []
  pub answer_told : (v.values ≡ 1 ∷ []) ↔ (whole thread ≡ true)
  pub stuck_told : (v.values ≡ 2 ∷ []) ↔ Stuck thread
  pub open_told : (v.values ≡ 3 ∷ []) ↔ Rewritable thread
  pub partial_told : (v.values ≡ 4 ∷ []) ↔ ((value thread ≡ true) × Holding thread)
  pub value_told : ((v.values ≡ 1 ∷ []) ⊎ (v.values ≡ 4 ∷ [])) ↔ (value thread ≡ true)
  pub answer_stays : v.values ≡ 1 ∷ [] → ((σ : Substitution) → substitute σ thread ≡ thread) × ((i : ℕ) (u : Tree term) → put_in thread i u ≡ thread)

-- no node of a part of a table has the kind
abbrev pub NoNodeOf : ℕ → List ℕ → Type 0
NoNodeOf kind part = (i : ℕ) → 2 * i + 2 ≤ length part → kind_at part i ≡ kind → ⊥

-- a thread that is not told as open is an answer exactly if no node of the part that the thread call hands back has kind 3 or 6
abbrev pub AnswerByKinds : Type 0
AnswerByKinds =
    (n : ℕ) (table : Sheet) (count k : ℕ) (v : Values) (start : ℕ) (part : List ℕ) → StandsAt n table count k v → v.refusal ≡ 0 → (v.values ≡ 3 ∷ [] → ⊥) → PartAt n table count k start part →
    (v.values ≡ 1 ∷ []) ↔ (NoNodeOf 3 part × NoNodeOf 6 part)
