-- Document 01's boundaries over the calls, with the numbers and texts of each size, and request 5's of the column: each just inside and just outside, of every outcome
-- that the contracts allow. The words in quotes are document 01's, of 2,048 nodes; request 6 puts 16,384 in their place.
use Rattle.std.specs.Prelude.{◌≡◌, ◌↔◌, List, [], ◌∷◌, ◌++◌, ℕ, zero, suc, ◌+◌, ◌*◌, ◌-◌, ◌≤◌, ◌<◌, length, replicate}
use Prim.Native.String.{String}
use Rattle.calculus.specs.Tree.{term, program, app, at, Tree, empty, alt, bound, con, abs, fresh, two, threads, program_of}
use Rattle.calculus.specs.Good.{Good}
use Rattle.calculus.specs.Sheets.{Sheet, sheet, holds}
use Rattle.calculus.specs.Column.{column}
use Rattle.calculus.specs.Answers.{Values}
use Rattle.calculus.specs.Calls.{front, Reads, TableOf, wrong_column, Writes, StepsInto, RunsWith, StandsAt, PartAt}
use Rattle.calculus.specs.Known.{ascii}
use Rattle.mespindro.specs.Limit.{limit}
use Rattle.small.specs.Limit.{small_limit}
use Rattle.promises.specs.Worked.{Held}

-- A size of the calls: the node limit; the bytes of the longest text; how the last number within the limit and the first beyond it stand in a text; how many fresh nodes
-- over a constructor are a program of just that limit; how many a value has that, put in twice, gives one (`twice`, below).
pub record Size : Type 0 where
  pub limit : ℕ
  pub bytes : ℕ
  pub last : String
  pub beyond : String
  pub chain : ℕ
  pub half : ℕ

-- "The library's limit goes from 2,048 to 16,384 nodes; free variables, locations and indices go to 16,383 and the text limit to 196,608 bytes."
abbrev pub plain : Size
plain = record { limit = limit; bytes = 196608; last = "5:16383"; beyond = "5:16384"; chain = 16381; half = 8186 }

-- "The small leaf's program keeps 2,048 nodes, with the old ranges."
abbrev pub small : Size
small = record { limit = small_limit; bytes = 24576; last = "4:2047"; beyond = "4:2048"; chain = 2045; half = 1018 }

-- a text with a number in it
abbrev pub around : String → String → String → List ℕ
around a number b = ascii a ++ (ascii number ++ ascii b)

-- so many numbers are lent for a table, and so many entries for its column
abbrev pub LentLengths : Sheet → ℕ → ℕ → Type 0
LentLengths s a b = (length s.numbers ≡ a) × (length s.sizes ≡ b)

-- Reading.

-- every read of the text b into an output and a column that hold the largest program gives the refusal m, and 0 where it is accepted
abbrev pub ReadGives : Size → List ℕ → ℕ → Type 0
ReadGives s b m = (out : Sheet) (v : Values) (o : Sheet) → s.limit ≤ holds out → Reads s.limit b out v o → v.refusal ≡ m

-- the text of k fresh nodes over the term with the text t
unfoldable pub fresh_text : ℕ → List ℕ → List ℕ
fresh_text zero t = t
fresh_text (suc k) t = 40 ∷ 49 ∷ 58 ∷ 110 ∷ fresh_text k t ++ (41 ∷ [])

-- and the text of the program of that thread alone: `((1:n(1:n .. ..)))`
abbrev pub nested : ℕ → List ℕ → List ℕ
nested k t = 40 ∷ fresh_text k t ++ (41 ∷ [])

-- k fresh nodes in a table, and then the numbers l
unfoldable pub fresh_numbers : ℕ → List ℕ → List ℕ
fresh_numbers zero l = l
fresh_numbers (suc k) l = 8 ∷ 0 ∷ fresh_numbers k l

-- the entries k down to 1, and then the entries l: of a chain of fresh nodes over a leaf
unfoldable pub falling : ℕ → List ℕ → List ℕ
falling zero l = l
falling (suc k) l = suc k ∷ falling k l

pub record ReadBoundaries (s : Size) : Type 0 where
  -- "A chain of 2,045 fresh nodes over one constructor has 2,048 nodes and is read; 2,046 gives 7."
  pub chain_in : (out : Sheet) (v : Values) (o : Sheet) → s.limit ≤ holds out → Reads s.limit (nested s.chain (ascii "(1:c1:0)")) out v o →
      (v ≡ record { refusal = 0; values = s.limit ∷ [] }) × (o ≡ sheet (front (1 ∷ 0 ∷ fresh_numbers s.chain (4 ∷ 0 ∷ 0 ∷ 0 ∷ [])) out.numbers) (front (s.limit ∷ falling (suc s.chain) (1 ∷ [])) out.sizes))
  pub chain_out : ReadGives s (nested (suc s.chain) (ascii "(1:c1:0)")) 7
  -- "Constructor 65,535 is read, 65,536 gives 5."
  pub constructor_in : ReadGives s (ascii "((1:c5:65535))") 0
  pub constructor_out : ReadGives s (ascii "((1:c5:65536))") 5
  -- "Free variables, locations and bound indices are 0 to 2,047": the last index is in its range, and has no binder; the next is not, with a binder or without
  pub free_in : ReadGives s (around "((1:x" s.last "))") 0
  pub free_out : ReadGives s (around "((1:x" s.beyond "))") 5
  pub location_in : ReadGives s (around "((1:L" s.last "()))") 0
  pub location_out : ReadGives s (around "((1:L" s.beyond "()))") 5
  pub index_in : ReadGives s (around "((1:v" s.last "))") 6
  pub index_out : ReadGives s (around "((1:v" s.beyond "))") 5
  pub index_out_bound : ReadGives s (nested (suc s.limit) (around "(1:v" s.beyond ")")) 5
  -- "`2:01` as N gives 5; `01:x` in an atom's place gives 3."
  pub zero_first : ReadGives s (ascii "((1:x2:01))") 5
  pub length_zero_first : ReadGives s (ascii "((01:x1:0))") 3
  -- "The lone atom `1:c` gives 4. A bound variable 0 at top gives 6." "empty input gives (7:refused1:3)"
  pub lone_atom : ReadGives s (ascii "1:c") 4
  pub top_index : ReadGives s (ascii "((1:v1:0))") 6
  pub no_text : ReadGives s [] 3
  -- "An allocated abstraction whose body reaches a binder around it gives 8." So do two bodies at one location, but not in two threads
  pub body_reaches : ReadGives s (ascii "((1:n(1:L1:0((1:v1:1)))))") 8
  pub two_bodies : ReadGives s (ascii "((1:a(1:L1:0())(1:L1:0((1:c1:0)))))") 8
  pub two_threads : ReadGives s (ascii "((1:L1:0())(1:L1:0((1:c1:0))))") 0
  -- 2: "the text is longer than 24,576 bytes"
  pub longest : (b : List ℕ) (out : Sheet) (v : Values) (o : Sheet) → Reads s.limit b out v o → (v.refusal ≡ 2) ↔ (suc s.bytes ≤ length b)
  -- 9: "the result doesn't fit the lent output"; `(c1)` has three nodes, of two numbers and one entry each
  pub room_in : (out : Sheet) (v : Values) (o : Sheet) → LentLengths out 6 3 → Reads s.limit (ascii "((1:c1:1))") out v o → v.refusal ≡ 0
  pub room_out : (out : Sheet) (v : Values) (o : Sheet) → length out.numbers ≡ 5 → Reads s.limit (ascii "((1:c1:1))") out v o → v.refusal ≡ 9
  pub column_out : (out : Sheet) (v : Values) (o : Sheet) → length out.sizes ≡ 2 → Reads s.limit (ascii "((1:c1:1))") out v o → v.refusal ≡ 9

-- Calls on a table.

-- every call on the table with this count that tells a number gives the refusal m; the thread call tells none
pub record CallsGive (s : Size) (table : Sheet) (count m : ℕ) : Type 0 where
  pub writes : (out : List ℕ) (v : Values) (o : List ℕ) → Writes s.limit table count out v o → v.refusal ≡ m
  pub steps : (out : Sheet) (v : Values) (o : Sheet) → StepsInto s.limit table count out v o → v.refusal ≡ m
  pub runs : (work : Sheet) (steps : ℕ) (v : Values) (t w : Sheet) → RunsWith s.limit table count work steps v t w → v.refusal ≡ m
  pub stands : (k : ℕ) (v : Values) → StandsAt s.limit table count k v → v.refusal ≡ m

-- none of 1, 14, 6 and 8 is given: with room for it, what stands there is written, and it is run
pub record CallsAccept (s : Size) (table : Sheet) (count : ℕ) : Type 0 where
  pub writes : (out : List ℕ) (v : Values) (o : List ℕ) → s.bytes ≤ length out → Writes s.limit table count out v o → v.refusal ≡ 0
  pub runs : (work : Sheet) (steps : ℕ) (v : Values) (t w : Sheet) → count ≤ holds work → RunsWith s.limit table count work steps v t w → v.refusal ≡ 0

-- 1, of tables that begin with these numbers, whatever stands in the column; where a program stands, its entries begin the column
pub record TableBoundaries (s : Size) : Type 0 where
  -- "the node count is 0, over 2,048 or more than the table holds"
  pub no_nodes : (table : Sheet) → CallsGive s table 0 1
  pub one_too_many : (table : Sheet) → CallsGive s table (suc s.limit) 1
  pub beyond : (table : Sheet) (count : ℕ) → length table.numbers < 2 * count → CallsGive s table count 1
  pub chain_in : (rest others : List ℕ) → CallsAccept s (sheet (1 ∷ 0 ∷ fresh_numbers s.chain (4 ∷ 0 ∷ 0 ∷ 0 ∷ rest)) (s.limit ∷ falling (suc s.chain) (1 ∷ others))) s.limit
  -- "a kind is unknown, or a term stands where a program must or the reverse"
  pub kind_out : (rest sizes : List ℕ) → CallsGive s (sheet (1 ∷ 0 ∷ 11 ∷ 0 ∷ 0 ∷ 0 ∷ rest) sizes) 3 1
  pub term_for_program : (rest sizes : List ℕ) → CallsGive s (sheet (4 ∷ 0 ∷ rest) sizes) 1 1
  pub program_for_term : (rest sizes : List ℕ) → CallsGive s (sheet (1 ∷ 0 ∷ 0 ∷ 0 ∷ 0 ∷ 0 ∷ rest) sizes) 3 1
  -- "a number is outside its range or not 0 where it must be"; a constructor may be any 16-bit number
  pub constructor_in : (rest others : List ℕ) → CallsAccept s (sheet (1 ∷ 0 ∷ 4 ∷ 65535 ∷ 0 ∷ 0 ∷ rest) (3 ∷ 1 ∷ 1 ∷ others)) 3
  pub free_in : (rest others : List ℕ) → CallsAccept s (sheet (1 ∷ 0 ∷ 3 ∷ (s.limit - 1) ∷ 0 ∷ 0 ∷ rest) (3 ∷ 1 ∷ 1 ∷ others)) 3
  pub free_out : (rest sizes : List ℕ) → CallsGive s (sheet (1 ∷ 0 ∷ 3 ∷ s.limit ∷ 0 ∷ 0 ∷ rest) sizes) 3 1
  pub location_in : (rest others : List ℕ) → CallsAccept s (sheet (1 ∷ 0 ∷ 6 ∷ (s.limit - 1) ∷ 0 ∷ 0 ∷ 0 ∷ 0 ∷ rest) (4 ∷ 2 ∷ 1 ∷ 1 ∷ others)) 4
  pub location_out : (rest sizes : List ℕ) → CallsGive s (sheet (1 ∷ 0 ∷ 6 ∷ s.limit ∷ 0 ∷ 0 ∷ 0 ∷ 0 ∷ rest) sizes) 4 1
  pub index_in : (rest others : List ℕ) → CallsGive s (sheet (1 ∷ 0 ∷ 2 ∷ (s.limit - 1) ∷ 0 ∷ 0 ∷ rest) (3 ∷ 1 ∷ 1 ∷ others)) 3 6
  pub index_out : (rest sizes : List ℕ) → CallsGive s (sheet (1 ∷ 0 ∷ 2 ∷ s.limit ∷ 0 ∷ 0 ∷ rest) sizes) 3 1
  pub not_zero : (rest sizes : List ℕ) → CallsGive s (sheet (0 ∷ 1 ∷ rest) sizes) 1 1
  -- "the preorder of one program doesn't end at the count"
  pub ends_late : (rest sizes : List ℕ) → CallsGive s (sheet (1 ∷ 0 ∷ 4 ∷ 0 ∷ 0 ∷ 0 ∷ rest) sizes) 2 1
  pub ends_early : (rest sizes : List ℕ) → CallsGive s (sheet (0 ∷ 0 ∷ 0 ∷ 0 ∷ 0 ∷ 0 ∷ rest) sizes) 3 1

-- a call's number is 14 exactly if a program stands in the table and the column is not its
abbrev pub ColumnTold : Size → Sheet → ℕ → ℕ → Type 0
ColumnTold s table count refusal = (refusal ≡ 14) ↔ (wrong_column s.limit table count).1

-- 14: "the column of the program handed in is wrong or too short, directly after 1"
pub record ColumnBoundaries (s : Size) : Type 0 where
  pub writes : (table : Sheet) (count : ℕ) (out : List ℕ) (v : Values) (o : List ℕ) → Writes s.limit table count out v o → ColumnTold s table count v.refusal
  pub steps : (table : Sheet) (count : ℕ) (out : Sheet) (v : Values) (o : Sheet) → StepsInto s.limit table count out v o → ColumnTold s table count v.refusal
  pub runs : (table : Sheet) (count : ℕ) (work : Sheet) (steps : ℕ) (v : Values) (t w : Sheet) → RunsWith s.limit table count work steps v t w → ColumnTold s table count v.refusal
  pub stands : (table : Sheet) (count k : ℕ) (v : Values) → StandsAt s.limit table count k v → ColumnTold s table count v.refusal
  -- of every program: the column is right whatever stands behind the count, and wrong where it has fewer entries
  pub behind : (numbers others : List ℕ) (count : ℕ) (p : Tree program) → TableOf s.limit numbers count p → Good s.limit p → CallsAccept s (sheet numbers (column p ++ others)) count
  pub fewer : (numbers sizes : List ℕ) (count : ℕ) (p : Tree program) → TableOf s.limit numbers count p → length sizes < count → CallsGive s (sheet numbers sizes) count 14
  -- "too short", in numbers: `(c1 (g c1 c2))` with its column, and with one entry less
  pub right : (rest others : List ℕ) → CallsAccept s (sheet (1 ∷ 0 ∷ 4 ∷ 1 ∷ 1 ∷ 0 ∷ 9 ∷ 0 ∷ 4 ∷ 1 ∷ 4 ∷ 2 ∷ 0 ∷ 0 ∷ rest) (7 ∷ 1 ∷ 5 ∷ 3 ∷ 1 ∷ 1 ∷ 1 ∷ others)) 7
  pub short : (rest : List ℕ) → CallsGive s (sheet (1 ∷ 0 ∷ 4 ∷ 1 ∷ 1 ∷ 0 ∷ 9 ∷ 0 ∷ 4 ∷ 1 ∷ 4 ∷ 2 ∷ 0 ∷ 0 ∷ rest) (7 ∷ 1 ∷ 5 ∷ 3 ∷ 1 ∷ 1 ∷ [])) 7 14
  -- "wrong": in its last entry
  pub wrong : (rest others : List ℕ) → CallsGive s (sheet (1 ∷ 0 ∷ 4 ∷ 1 ∷ 1 ∷ 0 ∷ 9 ∷ 0 ∷ 4 ∷ 1 ∷ 4 ∷ 2 ∷ 0 ∷ 0 ∷ rest) (7 ∷ 1 ∷ 5 ∷ 3 ∷ 1 ∷ 1 ∷ 2 ∷ others)) 7 14
  -- "directly after 1": 1 where no program stands (`index_out` and its kin, above, of every column), and else 14, though the index has no binder either
  pub before_binders : (rest others : List ℕ) → CallsGive s (sheet (1 ∷ 0 ∷ 2 ∷ 0 ∷ 0 ∷ 0 ∷ rest) (3 ∷ 2 ∷ 1 ∷ others)) 3 14
  pub binders_next : (rest others : List ℕ) → CallsGive s (sheet (1 ∷ 0 ∷ 2 ∷ 0 ∷ 0 ∷ 0 ∷ rest) (3 ∷ 1 ∷ 1 ∷ others)) 3 6

-- k fresh nodes over a term
unfoldable pub fresh_over : ℕ → Tree term → Tree term
fresh_over zero t = t
fresh_over (suc k) t = fresh (fresh_over k t)

-- a value of k + 4 nodes
abbrev pub closure : ℕ → Tree term
closure k = abs (at 1) (alt (fresh_over k (con 0)) empty)

-- `((a (L 0 (T)) V))`, V that value: beta puts it in for the index of T
abbrev pub put_into : Tree term → ℕ → List (Tree term)
put_into t k = two app (abs (at 0) (alt t empty)) (closure k) ∷ []

-- `(a b0 (n b1))` and `(a (n b1) (n b1))`: the program has k + 14 nodes and k + 15, and the next one 2 * k + 12 and 2 * k + 13
abbrev pub twice : ℕ → List (Tree term)
twice k = put_into (two app (bound 0) (fresh (bound 1))) k

abbrev pub twice_and_one : ℕ → List (Tree term)
twice_and_one k = put_into (two app (fresh (bound 1)) (fresh (bound 1))) k

pub record CallBoundaries (s : Size) : Type 0 where
  -- 9 of a write: the text of `(c1)` has ten bytes
  pub write_in : (rest others out : List ℕ) (v : Values) (o : List ℕ) → length out ≡ 10 → Writes s.limit (sheet (1 ∷ 0 ∷ 4 ∷ 1 ∷ 0 ∷ 0 ∷ rest) (3 ∷ 1 ∷ 1 ∷ others)) 3 out v o → v.refusal ≡ 0
  pub write_out : (rest others out : List ℕ) (v : Values) (o : List ℕ) → length out ≡ 9 → Writes s.limit (sheet (1 ∷ 0 ∷ 4 ∷ 1 ∷ 0 ∷ 0 ∷ rest) (3 ∷ 1 ∷ 1 ∷ others)) 3 out v o → v.refusal ≡ 9
  -- 9 of a step: `((g c1 c2))` steps to three nodes
  pub step_in : (rest others : List ℕ) (out : Sheet) (v : Values) (o : Sheet) → LentLengths out 6 3 → StepsInto s.limit (sheet (1 ∷ 0 ∷ 9 ∷ 0 ∷ 4 ∷ 1 ∷ 4 ∷ 2 ∷ 0 ∷ 0 ∷ rest) (5 ∷ 3 ∷ 1 ∷ 1 ∷ 1 ∷ others)) 5 out v o → v.refusal ≡ 0
  pub step_out : (rest others : List ℕ) (out : Sheet) (v : Values) (o : Sheet) → length out.numbers ≡ 5 → StepsInto s.limit (sheet (1 ∷ 0 ∷ 9 ∷ 0 ∷ 4 ∷ 1 ∷ 4 ∷ 2 ∷ 0 ∷ 0 ∷ rest) (5 ∷ 3 ∷ 1 ∷ 1 ∷ 1 ∷ others)) 5 out v o → v.refusal ≡ 9
  pub step_column_out : (rest others : List ℕ) (out : Sheet) (v : Values) (o : Sheet) → length out.sizes ≡ 2 → StepsInto s.limit (sheet (1 ∷ 0 ∷ 9 ∷ 0 ∷ 4 ∷ 1 ∷ 4 ∷ 2 ∷ 0 ∷ 0 ∷ rest) (5 ∷ 3 ∷ 1 ∷ 1 ∷ 1 ∷ others)) 5 out v o → v.refusal ≡ 9
  -- 7 of a step: "a single step's result from coherent threads, has over 2,048 nodes"
  pub result_in : {table : Sheet} {count : ℕ} (out : Sheet) (v : Values) (o : Sheet) → Held s.limit table count (program_of (twice s.half)) → s.limit ≤ holds out → StepsInto s.limit table count out v o →
      v ≡ record { refusal = 0; values = s.limit ∷ 2 ∷ 0 ∷ [] }
  pub result_out : {table : Sheet} {count : ℕ} (out : Sheet) (v : Values) (o : Sheet) → Held s.limit table count (program_of (twice_and_one s.half)) → StepsInto s.limit table count out v o → v.refusal ≡ 7
  -- 11: "a single step is asked for and every thread is finished"; the empty program has none; whatever is lent for the result
  pub no_threads : (rest others : List ℕ) (out : Sheet) (v : Values) (o : Sheet) → StepsInto s.limit (sheet (0 ∷ 0 ∷ rest) (1 ∷ others)) 1 out v o → v.refusal ≡ 11
  -- "which of the six rules it used and in which thread": `(c1 (u c1 c2) (n b0) (l ()))` has one finished thread before the first open one, which the step drops by fail
  pub rule_and_thread : (rest others : List ℕ) (out : Sheet) (v : Values) (o : Sheet) → 9 ≤ holds out →
      StepsInto s.limit (sheet (1 ∷ 0 ∷ 4 ∷ 1 ∷ 1 ∷ 0 ∷ 10 ∷ 0 ∷ 4 ∷ 1 ∷ 4 ∷ 2 ∷ 1 ∷ 0 ∷ 8 ∷ 0 ∷ 2 ∷ 0 ∷ 1 ∷ 0 ∷ 5 ∷ 0 ∷ 0 ∷ 0 ∷ 0 ∷ 0 ∷ rest) (13 ∷ 1 ∷ 11 ∷ 3 ∷ 1 ∷ 1 ∷ 7 ∷ 2 ∷ 1 ∷ 4 ∷ 2 ∷ 1 ∷ 1 ∷ others)) 13 out v o → v ≡ record { refusal = 0; values = 9 ∷ 6 ∷ 1 ∷ [] }
  -- 9 of a run: "the program doesn't fit the work table", "or a work column too short for a run's program"
  pub run_in : (rest others : List ℕ) (work : Sheet) (steps : ℕ) (v : Values) (t w : Sheet) → LentLengths work 6 3 → RunsWith s.limit (sheet (1 ∷ 0 ∷ 4 ∷ 1 ∷ 0 ∷ 0 ∷ rest) (3 ∷ 1 ∷ 1 ∷ others)) 3 work steps v t w → v.refusal ≡ 0
  pub run_out : (rest others : List ℕ) (work : Sheet) (steps : ℕ) (v : Values) (t w : Sheet) → length work.numbers ≡ 5 → RunsWith s.limit (sheet (1 ∷ 0 ∷ 4 ∷ 1 ∷ 0 ∷ 0 ∷ rest) (3 ∷ 1 ∷ 1 ∷ others)) 3 work steps v t w → v.refusal ≡ 9
  pub run_column_out : (rest others : List ℕ) (work : Sheet) (steps : ℕ) (v : Values) (t w : Sheet) → length work.sizes ≡ 2 → RunsWith s.limit (sheet (1 ∷ 0 ∷ 4 ∷ 1 ∷ 0 ∷ 0 ∷ rest) (3 ∷ 1 ∷ 1 ∷ others)) 3 work steps v t w → v.refusal ≡ 9
  -- 10: "there is no thread of that number", which counts from 0
  pub thread_in : {table : Sheet} {count k : ℕ} {p : Tree program} {v : Values} → Held s.limit table count p → Good s.limit p → k < length (threads p) → StandsAt s.limit table count k v → v.refusal ≡ 0
  pub thread_out : {table : Sheet} {count k : ℕ} {p : Tree program} {v : Values} → Held s.limit table count p → Good s.limit p → length (threads p) ≤ k → StandsAt s.limit table count k v → v.refusal ≡ 10
  -- "that thread's own part of the caller's table": of the second thread of `(c1 c2)`, from the number 6 on, two numbers; of a third nothing
  pub part_in : (rest others : List ℕ) (start : ℕ) (l : List ℕ) → PartAt s.limit (sheet (1 ∷ 0 ∷ 4 ∷ 1 ∷ 1 ∷ 0 ∷ 4 ∷ 2 ∷ 0 ∷ 0 ∷ rest) (5 ∷ 1 ∷ 3 ∷ 1 ∷ 1 ∷ others)) 5 1 start l → (start ≡ 6) × (l ≡ 4 ∷ 2 ∷ [])
  pub part_out : (rest others : List ℕ) (start : ℕ) (l : List ℕ) → PartAt s.limit (sheet (1 ∷ 0 ∷ 4 ∷ 1 ∷ 1 ∷ 0 ∷ 4 ∷ 2 ∷ 0 ∷ 0 ∷ rest) (5 ∷ 1 ∷ 3 ∷ 1 ∷ 1 ∷ others)) 5 2 start l → (start ≡ 0) × (l ≡ [])

-- The six counts: of no step, of one by beta, of one by guard.
abbrev pub no_step : List ℕ
no_step = 0 ∷ 0 ∷ 0 ∷ 0 ∷ 0 ∷ 0 ∷ []

abbrev pub one_beta : List ℕ
one_beta = 0 ∷ 1 ∷ 0 ∷ 0 ∷ 0 ∷ 0 ∷ []

abbrev pub one_guard : List ℕ
one_guard = 0 ∷ 0 ∷ 0 ∷ 1 ∷ 0 ∷ 0 ∷ []

-- The run: reasons 1 (ended), 2 (steps) and 3 (room), the nodes, the steps taken, the counts. A step that is planned and not taken is not counted.
pub record RunBoundaries (s : Size) : Type 0 where
  -- "The table then holds the end program followed by zeros, and the work table zeros only", and the columns so: `((g c1 c2))` in a table of 11 numbers with a column of
  -- 7, and a work table of 10 numbers with a column of 6
  pub zeros : (a b c : ℕ) (work : Sheet) (v : Values) (t w : Sheet) → LentLengths work 10 6 →
      RunsWith s.limit (sheet (1 ∷ 0 ∷ 9 ∷ 0 ∷ 4 ∷ 1 ∷ 4 ∷ 2 ∷ 0 ∷ 0 ∷ a ∷ []) (5 ∷ 3 ∷ 1 ∷ 1 ∷ 1 ∷ b ∷ c ∷ [])) 5 work 1 v t w →
      (v ≡ record { refusal = 0; values = 1 ∷ 3 ∷ 1 ∷ one_guard }) ×
      (t ≡ sheet (1 ∷ 0 ∷ 4 ∷ 2 ∷ 0 ∷ 0 ∷ 0 ∷ 0 ∷ 0 ∷ 0 ∷ 0 ∷ []) (3 ∷ 1 ∷ 1 ∷ 0 ∷ 0 ∷ 0 ∷ 0 ∷ [])) ×
      (w ≡ sheet (replicate 10 0) (replicate 6 0))
  -- "else the limit is used": of an open program with the limit 0
  pub no_steps : (rest others : List ℕ) (work : Sheet) (v : Values) (t w : Sheet) → 5 ≤ holds work → RunsWith s.limit (sheet (1 ∷ 0 ∷ 9 ∷ 0 ∷ 4 ∷ 1 ∷ 4 ∷ 2 ∷ 0 ∷ 0 ∷ rest) (5 ∷ 3 ∷ 1 ∷ 1 ∷ 1 ∷ others)) 5 work 0 v t w → v ≡ record { refusal = 0; values = 2 ∷ 5 ∷ 0 ∷ no_step }
  -- "in that order": an end is told before the limit, and the limit before the room
  pub end_first : (rest others : List ℕ) (work : Sheet) (v : Values) (t w : Sheet) → 3 ≤ holds work → RunsWith s.limit (sheet (1 ∷ 0 ∷ 4 ∷ 1 ∷ 0 ∷ 0 ∷ rest) (3 ∷ 1 ∷ 1 ∷ others)) 3 work 0 v t w → v ≡ record { refusal = 0; values = 1 ∷ 3 ∷ 0 ∷ no_step }
  pub limit_first : {table : Sheet} {count : ℕ} (work : Sheet) (v : Values) (t w : Sheet) → Held s.limit table count (program_of (twice 4)) → LentLengths table 39 20 → LentLengths work 39 20 → RunsWith s.limit table count work 0 v t w →
      v ≡ record { refusal = 0; values = 2 ∷ 18 ∷ 0 ∷ no_step }
  -- "else the next result exceeds the room": 18 nodes become 20, in two tables of 20 nodes with columns of 20, and where one of the four is a number shorter
  pub room_in : {table : Sheet} {count : ℕ} (work : Sheet) (v : Values) (t w : Sheet) → Held s.limit table count (program_of (twice 4)) → LentLengths table 40 20 → LentLengths work 40 20 → RunsWith s.limit table count work 1 v t w →
      v ≡ record { refusal = 0; values = 2 ∷ 20 ∷ 1 ∷ one_beta }
  pub table_short : {table : Sheet} {count : ℕ} (work : Sheet) (v : Values) (t w : Sheet) → Held s.limit table count (program_of (twice 4)) → LentLengths table 39 20 → LentLengths work 40 20 → RunsWith s.limit table count work 1 v t w →
      v ≡ record { refusal = 0; values = 3 ∷ 18 ∷ 0 ∷ no_step }
  pub column_short : {table : Sheet} {count : ℕ} (work : Sheet) (v : Values) (t w : Sheet) → Held s.limit table count (program_of (twice 4)) → LentLengths table 40 19 → LentLengths work 40 20 → RunsWith s.limit table count work 1 v t w →
      v ≡ record { refusal = 0; values = 3 ∷ 18 ∷ 0 ∷ no_step }
  pub work_short : {table : Sheet} {count : ℕ} (work : Sheet) (v : Values) (t w : Sheet) → Held s.limit table count (program_of (twice 4)) → LentLengths table 40 20 → LentLengths work 39 20 → RunsWith s.limit table count work 1 v t w →
      v ≡ record { refusal = 0; values = 3 ∷ 18 ∷ 0 ∷ no_step }
  pub work_column_short : {table : Sheet} {count : ℕ} (work : Sheet) (v : Values) (t w : Sheet) → Held s.limit table count (program_of (twice 4)) → LentLengths table 40 20 → LentLengths work 40 19 → RunsWith s.limit table count work 1 v t w →
      v ≡ record { refusal = 0; values = 3 ∷ 18 ∷ 0 ∷ no_step }
  -- "and 2,048", however long the tables and columns are
  pub limit_in : {table : Sheet} {count : ℕ} (work : Sheet) (v : Values) (t w : Sheet) → Held s.limit table count (program_of (twice s.half)) → s.limit ≤ holds table → s.limit ≤ holds work → RunsWith s.limit table count work 1 v t w →
      v ≡ record { refusal = 0; values = 2 ∷ s.limit ∷ 1 ∷ one_beta }
  pub limit_out : {table : Sheet} {count : ℕ} (work : Sheet) (v : Values) (t w : Sheet) → Held s.limit table count (program_of (twice_and_one s.half)) → s.limit ≤ holds table → s.limit ≤ holds work → RunsWith s.limit table count work 1 v t w →
      v ≡ record { refusal = 0; values = 3 ∷ (s.half + 15) ∷ 0 ∷ no_step }

pub record Boundaries (s : Size) : Type 0 where
  pub reading : ReadBoundaries s
  pub tables : TableBoundaries s
  pub columns : ColumnBoundaries s
  pub on_tables : CallBoundaries s
  pub running : RunBoundaries s
