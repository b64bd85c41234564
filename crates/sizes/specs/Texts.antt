-- Request 6, of texts: what a read at the node limit n says of a read of the same bytes at a limit m that is no smaller, and the reverse.
use Rattle.std.specs.Prelude.{◌≡◌, ◌⊎◌, List, [], ◌∷◌, ℕ, ◌≤◌, ◌<◌, length}
use Rattle.calculus.specs.declared.Refusal.{Refusal}
use Rattle.calculus.specs.declared.Refusal.TheVariants.{Closure}
use Rattle.calculus.specs.Tree.{program, Tree, nodes, threads}
use Rattle.calculus.specs.Good.{InRange, HoldsClosure}
use Rattle.calculus.specs.Sheets.{Sheet, holds}
use Rattle.calculus.specs.Run.{run}
use Rattle.calculus.specs.Text.{text}
use Rattle.calculus.specs.Answers.{number, Values}
use Rattle.calculus.specs.Calls.{front, put_front, Reads, Writes}
use Rattle.calculus.specs.Report.{report, refusal_report, Reports}

-- what a call answers that has put so many nodes or bytes at the front of its output
abbrev pub counted : ℕ → Values
counted k = record { refusal = 0; values = k ∷ [] }

-- the program p is within the node limit n: so many nodes, and every number in its range
abbrev pub Within : ℕ → Tree program → Type 0
Within n p = (nodes p ≤ n) × InRange n p

-- the program p has been read into an output
abbrev pub ReadAs : Tree program → Sheet → Values → Sheet → Type 0
ReadAs p out v o = (v ≡ counted (nodes p)) × (o ≡ put_front p out)

-- the program that has been read into `o` is written back to the bytes b, at the node limit n
abbrev pub WritesBack : ℕ → Tree program → Sheet → List ℕ → Type 0
WritesBack n p o b = (back : List ℕ) (x : Values) (r : List ℕ) → length b ≤ length back → Writes n o (nodes p) back x r → (x ≡ counted (length b)) × (r ≡ front b back)

-- "Stored texts within the old limits are read as before and written back to the same bytes": b was read into `out` at n, and is read into `out'` at m
pub record ReadAsBefore (n m : ℕ) (b : List ℕ) (out : Sheet) (v : Values) (o out' : Sheet) (v' : Values) (o' : Sheet) : Type 0 where
  pub program : Tree program
  pub is : text program ≡ b
  pub before : ReadAs program out v o
  -- where the output holds it
  pub now : nodes program ≤ holds out' → ReadAs program out' v' o'
  -- at either limit
  pub back : WritesBack n program o b × WritesBack m program o b
  pub back_now : nodes program ≤ holds out' → WritesBack n program o' b × WritesBack m program o' b

abbrev pub StoredTexts : ℕ → ℕ → Type 0
StoredTexts n m =
    (b : List ℕ) (out : Sheet) (v : Values) (o out' : Sheet) (v' : Values) (o' : Sheet) → Reads n b out v o → v.refusal ≡ 0 → Reads m b out' v' o' → ReadAsBefore n m b out v o out' v' o'

-- "refusal 2, 5 or 7"
abbrev pub OldRefusal : ℕ → Type 0
OldRefusal r = (r ≡ 2) ⊎ ((r ≡ 5) ⊎ (r ≡ 7))

-- "meets an old leaf with refusal 2, 5 or 7": b, the text of p, is read at n into any output
pub record MeetsOldLeaf (n : ℕ) (p : Tree program) (out : Sheet) (v : Values) (o : Sheet) : Type 0 where
  -- "beyond the old ones": refused with 2, 5 or 7, whatever the output
  pub beyond : (Within n p → ⊥) → OldRefusal v.refusal × (o ≡ out)
  -- and within them it is read, where the output holds it
  pub within : Within n p → nodes p ≤ holds out → ReadAs p out v o
  -- "and is never read there as another program"
  pub no_other : v.refusal ≡ 0 → Within n p × ReadAs p out v o
  -- 2 and 7 are given only of more nodes, 5 only of a number outside the old ranges
  pub two : v.refusal ≡ 2 → n < nodes p
  pub five : v.refusal ≡ 5 → InRange n p → ⊥
  pub seven : v.refusal ≡ 7 → n < nodes p

-- "A text that is right under the new limits": a read at m accepts it
abbrev pub OldLeaf : ℕ → ℕ → Type 0
OldLeaf n m =
    (b : List ℕ) (out : Sheet) (v : Values) (o out' : Sheet) (v' : Values) (o' : Sheet) → Reads m b out' v' o' → v'.refusal ≡ 0 → Reads n b out v o →
    (p : Tree program) × (ReadAs p out' v' o' × MeetsOldLeaf n p out v o)

-- so of the program on standard input with the limit n: its report is that of 2, 5 or 7, or the run's of that very program, or that of 15 where it holds a closure
pub record OldProgram (n k : ℕ) (p : Tree program) (written : List ℕ) : Type 0 where
  pub beyond : (Within n p → ⊥) → (r : Refusal) × (OldRefusal (number r) × (written ≡ refusal_report r))
  pub within : Within n p → (HoldsClosure p → ⊥) → written ≡ report (run n k (threads p))
  pub closure : Within n p → HoldsClosure p → written ≡ refusal_report Closure

abbrev pub OldReport : ℕ → ℕ → Type 0
OldReport n m = (b : List ℕ) (out : Sheet) (v : Values) (o : Sheet) → Reads m b out v o → v.refusal ≡ 0 → (k : ℕ) (written : List ℕ) → Reports n k b written → (p : Tree program) × (ReadAs p out v o × OldProgram n k p written)

-- into the same output: what is not refused with 2, 5 or 7 at n is answered the same at m, and leaves the same
abbrev pub SameReads : ℕ → ℕ → Type 0
SameReads n m = (b : List ℕ) (out : Sheet) (v v' : Values) (o o' : Sheet) → Reads n b out v o → (OldRefusal v.refusal → ⊥) → Reads m b out v' o' → (v' ≡ v) × (o' ≡ o)

-- 3, 4, 6 or 8
abbrev pub KeptRefusal : ℕ → Type 0
KeptRefusal r = (r ≡ 3) ⊎ ((r ≡ 4) ⊎ ((r ≡ 6) ⊎ (r ≡ 8)))

-- a refusal with one of these is the same at the larger limit
abbrev pub KeptRefusals : ℕ → ℕ → Type 0
KeptRefusals n m =
    (b : List ℕ) (out : Sheet) (v : Values) (o out' : Sheet) (v' : Values) (o' : Sheet) → Reads n b out v o → Reads m b out' v' o' →
    KeptRefusal v.refusal → v'.refusal ≡ v.refusal
