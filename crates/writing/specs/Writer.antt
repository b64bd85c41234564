-- What the writer's own functions ask for and leave.
use Rattle.std.specs.Prelude.{◌≡◌, Bool, true, false, List, [], ◌∷◌, ◌++◌, ℕ, ◌+◌, ◌≤◌, ◌<◌, length, get_or}
use Rattle.std.proofs.lemmas.List.Edits.{sets}
use Rattle.calculus.specs.Tree.{Sort, term, program, Tree, nodes}
use Rattle.calculus.specs.Sexp.{decimal, atom, bytes}
use Rattle.calculus.specs.Text.{encode, raw}
use Rattle.table.specs.Nodes.{Stands}
use Rattle.writing.specs.declared.write.Output.{Output}

-- a number's digits
pub record DigitCount (n r : ℕ) : Type 0 where
  pub is : r ≡ length (decimal n)
  pub few : r ≤ 5

-- the kinds with a number: bound and free variable, constructor, allocated abstraction
abbrev pub has_number : List Bool
has_number = false ∷ false ∷ true ∷ true ∷ true ∷ false ∷ true ∷ []

-- the tag of each kind
abbrev pub tags : List ℕ
tags = 0 ∷ 0 ∷ 118 ∷ 120 ∷ 99 ∷ 108 ∷ 76 ∷ 97 ∷ 110 ∷ 103 ∷ 117 ∷ []

-- an opening bracket and a tag
abbrev pub tag_bytes : ℕ → List ℕ
tag_bytes tag = 40 ∷ 49 ∷ 58 ∷ tag ∷ []

-- a number as an N
unfoldable pub numeral : ℕ → List ℕ
unfolding bytes
numeral n = bytes (atom (decimal n))

abbrev pub numeral_if : Bool → ℕ → List ℕ
numeral_if true n = numeral n
numeral_if false n = []

-- what a term begins with: bracket, tag, number
unfoldable pub head_bytes : ℕ → ℕ → List ℕ
head_bytes k n = tag_bytes (get_or tags k 0) ++ numeral_if (get_or has_number k false) n

-- the bytes that a node adds to its program's text: two brackets with the empty program, a term's closing bracket with its opening one
abbrev pub node_bytes : ℕ → ℕ → ℕ
node_bytes k n = get_or (2 ∷ 0 ∷ []) k (length (head_bytes k n) + 1)

pub record NodeBytes (k n r : ℕ) : Type 0 where
  pub is : r ≡ node_bytes k n
  pub few : r ≤ 12

-- the bytes of a term, and of a program's members
unfoldable pub spelt : {s : Sort} → Tree s → List ℕ
unfolding bytes encode raw
spelt x = bytes (encode (raw x))

-- so many bytes fit behind those that are written
pub record Fits (out : Output) (b : List ℕ) : Type 0 where
  pub fits : out.at + length b ≤ length out.bytes.now

-- the bytes stand there, in the same lent bytes, the rest is as it was, and the next byte is the one behind them
pub record Wrote (old new : Output) (b : List ℕ) : Type 0 where
  pub same : new.bytes.ghost_name ≡ old.bytes.ghost_name
  pub is : new.bytes.now ≡ sets old.bytes.now old.at b
  pub same_length : length new.bytes.now ≡ length old.bytes.now
  pub next_is : new.at ≡ old.at + length b

-- the cell is put on top, those below are as they were
pub record Pushed (stack after : List ℕ) (cells next c : ℕ) : Type 0 where
  pub top : get_or after cells 0 ≡ c
  pub below : (i : ℕ) → i < cells → get_or after i 0 ≡ get_or stack i 0
  pub same_length : length after ≡ length stack
  pub next_is : next ≡ cells + 1

-- a piece of a text: a term; the rest of a program with its closing bracket; a closing bracket
pub data Piece : Type 0 where
  a_term : Tree term → Piece
  a_rest : Tree program → Piece
  closing : Piece

-- what the stack has for it
abbrev pub cell : Piece → ℕ
cell (a_term x) = 0
cell (a_rest p) = 1
cell closing = 2

-- the bytes of pieces, one behind the other
abbrev pub spelt_all : List Piece → List ℕ
spelt_all [] = []
spelt_all (a_term x ∷ l) = spelt x ++ spelt_all l
spelt_all (a_rest p ∷ l) = spelt p ++ (41 ∷ spelt_all l)
spelt_all (closing ∷ l) = 41 ∷ spelt_all l

-- their nodes stand one behind the other from a node on
abbrev pub StandAll : List ℕ → ℕ → List Piece → Type 0
StandAll t at [] = Unit {0}
StandAll t at (a_term x ∷ l) = Stands t at x × StandAll t (at + nodes x) l
StandAll t at (a_rest p ∷ l) = Stands t at p × StandAll t (at + nodes p) l
StandAll t at (closing ∷ l) = StandAll t at l

-- as many cells as they can come to take: one for each node, one for each closing bracket
abbrev pub cells_for : List Piece → ℕ
cells_for [] = 0
cells_for (a_term x ∷ l) = nodes x + cells_for l
cells_for (a_rest p ∷ l) = nodes p + cells_for l
cells_for (closing ∷ l) = 1 + cells_for l

-- the stack has so many cells, the first piece's on top
abbrev pub Stacked : List ℕ → ℕ → List Piece → Type 0
Stacked stack cells [] = cells ≡ 0
Stacked stack cells (x ∷ l) = (below : ℕ) × ((cells ≡ below + 1) × ((get_or stack below 0 ≡ cell x) × Stacked stack below l))

-- the pieces are still to be written, with room for them, and then the output is the one at last
pub record ToCome (t last : List ℕ) (at : ℕ) (out : Output) (stack : List ℕ) (l : List Piece) : Type 0 where
  pub stand : StandAll t at l
  pub room : Fits out (spelt_all l)
  pub makes : sets out.bytes.now out.at (spelt_all l) ≡ last
  pub enough : cells_for l ≤ length stack

-- those on the stack are
pub record Unwritten (t last : List ℕ) (at : ℕ) (out : Output) (stack : List ℕ) (cells : ℕ) : Type 0 where
  pub pieces : List Piece
  pub stacked : Stacked stack cells pieces
  pub to_come : ToCome t last at out stack pieces

-- one whose cell was c, and then those on the stack
pub record InHand (c : ℕ) (t last : List ℕ) (at : ℕ) (out : Output) (stack : List ℕ) (cells : ℕ) : Type 0 where
  pub piece : Piece
  pub is : c ≡ cell piece
  pub others : List Piece
  pub stacked : Stacked stack cells others
  pub to_come : ToCome t last at out stack (piece ∷ others)

-- such a piece is to be written
pub record Asked (c : ℕ) (t : List ℕ) (at : ℕ) (out : Output) (stack : List ℕ) (cells : ℕ) : Type 0 where
  pub last : List ℕ
  pub in_hand : InHand c t last at out stack cells

-- at least its first byte is written, and what is still to be written of it lies on the stack
pub record Put (c : ℕ) (t : List ℕ) (at : ℕ) (out : Output) (stack : List ℕ) (cells : ℕ) (after : Output) (stack' : List ℕ) (node cells' : ℕ) : Type 0 where
  pub same : after.bytes.ghost_name ≡ out.bytes.ghost_name
  pub same_length : length after.bytes.now ≡ length out.bytes.now
  pub later : out.at < after.at
  pub then_on : (last : List ℕ) → InHand c t last at out stack cells → Unwritten t last node after stack' cells'
