-- What the private functions of the reader say: the items that the grammar asks for, what a descent notes of the nodes that it passes, and where it leads.
use Rattle.std.specs.Prelude.{◌≡◌, Bool, true, false, not, ◌||◌, ◌&&◌, List, [], ◌∷◌, ◌++◌, ℕ, ◌+◌, ◌*◌, ◌≤◌, ◌<◌, eqb, ltb, leb, length, get_or, take, drop, Option, Some, None}
use Rattle.calculus.specs.Tree.{Sort, term, program, Pair, pair_kind}
use Rattle.calculus.specs.Good.{constructors}
use Rattle.calculus.specs.Sexp.{decimal, atom, bytes}
use Rattle.calculus.specs.Text.{Leaf, bound_leaf, free_leaf, con_leaf, Raw, raw_empty, raw_alt, raw_leaf, raw_code, raw_at, raw_fresh, raw_two, leaf_tag, pair_tag, encode}
use Rattle.calculus.proofs.Decimals.{number_of}
use Rattle.csexp.specs.declared.Cursor.{Cursor}
use Rattle.reading.specs.declared.goals.Goal.{Goal}
use Rattle.reading.specs.declared.goals.Goal.TheVariants.{Term, Members, Open, Close, CloseBinder}
use Rattle.reading.specs.declared.goals.Waiting.{Waiting}
use Rattle.reading.specs.declared.parse.Met.{Met}
use Rattle.reading.specs.declared.parse.Parser.{Parser}

-- Items.

-- these bytes stand between two places
pub record Between (s : List ℕ) (at next : ℕ) (item : List ℕ) : Type 0 where
  pub forward : at < next
  pub within : next ≤ length s
  pub here : drop at s ≡ item ++ drop next s

-- the bracket k, or another byte or none
abbrev pub FoundAt : ℕ → List ℕ → ℕ → Option Cursor → Type 0
FoundAt k s at None = (r : List ℕ) → drop at s ≡ k ∷ r → ⊥
FoundAt k s at (Some c) = Between s at c.at (k ∷ [])

-- an atom of the n bytes from a place on, which is right behind its length and the colon
pub record AtomBetween (s : List ℕ) (at place n next : ℕ) : Type 0 where
  pub place_is : place ≡ at + length (decimal n) + 1
  pub next_is : next ≡ place + n
  pub between : Between s at next (bytes (atom (take n (drop place s))))

abbrev pub AtomAt : List ℕ → ℕ → Option (ℕ × ℕ × Cursor) → Type 0
AtomAt s at None = (b r : List ℕ) → drop at s ≡ bytes (atom b) ++ r → ⊥
AtomAt s at (Some (place, n, c)) = AtomBetween s at place n c.at

-- an opening bracket and an atom of one byte
abbrev pub TagAt : List ℕ → ℕ → Option (ℕ × Cursor) → Type 0
TagAt s at None = (k : ℕ) (r : List ℕ) → drop at s ≡ 40 ∷ bytes (atom (k ∷ [])) ++ r → ⊥
TagAt s at (Some (k, c)) = (at + 2 ≤ c.at) × Between s at c.at (40 ∷ bytes (atom (k ∷ [])))

-- Nodes.

-- of the nodes passed: their kinds and numbers, whether an N was bad, whether an index had no binder
pub record Note : Type 0 where
  pub numbers : List ℕ
  pub bad : Bool
  pub loose : Bool

abbrev pub no_node : Note
no_node = record { numbers = []; bad = false; loose = false }

-- one node
abbrev pub node_note : ℕ → ℕ → Bool → Bool → Note
node_note k v bad loose = record { numbers = k ∷ v ∷ []; bad = bad; loose = loose }

-- the one and then the other
unfoldable pub followed : Note → Note → Note
followed v w = record { numbers = v.numbers ++ w.numbers; bad = v.bad || w.bad; loose = v.loose || w.loose }

-- the bytes are the same
unfoldable pub same : List ℕ → List ℕ → Bool
same [] [] = true
same [] (b ∷ q) = false
same (a ∷ p) [] = false
same (a ∷ p) (b ∷ q) = eqb a b && same p q

-- the bytes are the plain decimal of a number below the bound
unfoldable pub is_number : ℕ → List ℕ → Bool
is_number below b = ltb (number_of b) below && same (decimal (number_of b)) b

-- a node of the kind k with an N, d binders around it: an index is kind 2
unfoldable pub number_note : ℕ → ℕ → ℕ → List ℕ → Note
number_note k below d b = node_note k (number_of b) (not (is_number below b)) (eqb k 2 && leb d (number_of b))

-- the kinds and the bounds of the three leaves
abbrev pub leaf_kind : Leaf → ℕ
leaf_kind bound_leaf = 2
leaf_kind free_leaf = 3
leaf_kind con_leaf = 4

abbrev pub leaf_below : ℕ → Leaf → ℕ
leaf_below n bound_leaf = n
leaf_below n free_leaf = n
leaf_below n con_leaf = constructors

-- what a descent notes of a term or a program under the limit n, d binders around it
unfoldable pub note : {s : Sort} → ℕ → ℕ → Raw s → Note
note n d raw_empty = node_note 0 0 false false
note n d (raw_alt t p) = followed (node_note 1 0 false false) (followed (note n d t) (note n d p))
note n d (raw_leaf l b) = number_note (leaf_kind l) (leaf_below n l) d b
note n d (raw_code p) = followed (node_note 5 0 false false) (note n (d + 1) p)
note n d (raw_at b p) = followed (number_note 6 n d b) (note n (d + 1) p)
note n d (raw_fresh t) = followed (node_note 8 0 false false) (note n (d + 1) t)
note n d (raw_two o t u) = followed (node_note (pair_kind o) 0 false false) (followed (note n d t) (note n d u))

-- what the code keeps of it: the count and whether an N was bad; until one is, whether an index had no binder, and the nodes at the front of the build table if it holds them
pub record Keeps (w : Note) (m : Met) (build : List ℕ) : Type 0 where
  pub count : 2 * m.nodes ≡ length w.numbers
  pub bad_so_far : m.bad ≡ w.bad
  pub loose_so_far : w.bad ≡ false → m.loose ≡ w.loose
  pub stored : w.bad ≡ false → length w.numbers ≤ length build → take (length w.numbers) build ≡ w.numbers

-- one node more
pub record Noted (k v : ℕ) (m : Met) (build : List ℕ) (m' : Met) (build' : List ℕ) : Type 0 where
  pub one_more : m'.nodes ≡ m.nodes + 1
  pub kept : (w : Note) → Keeps w m build → Keeps (followed w (node_note k v false false)) m' build'

-- The descent.

-- what is to be read: a node's kind, of which the text has nothing; the N of a node of a kind, below a bound, d binders around it; a bracket;
-- a term; the members of a program with its closing bracket
pub data ToRead : Type 0 where
  kind : ℕ → ToRead
  number : ℕ → ℕ → ℕ → ToRead
  bracket : ℕ → ToRead
  one_term : ℕ → ToRead
  members : ℕ → ToRead

-- what it can be, with an arbitrary atom for an N
abbrev pub Fill : ToRead → Type 0
Fill (kind k) = Unit {0}
Fill (number k below d) = List ℕ
Fill (bracket k) = Unit {0}
Fill (one_term d) = Raw term
Fill (members d) = Raw program

-- its bytes
abbrev pub spelled : (g : ToRead) → Fill g → List ℕ
spelled (kind k) f = []
spelled (number k below d) f = bytes (atom f)
spelled (bracket k) f = k ∷ []
spelled (one_term d) f = bytes (encode f)
spelled (members d) f = bytes (encode f) ++ (41 ∷ [])

-- what is noted of it under the limit n
abbrev pub noted : ℕ → (g : ToRead) → Fill g → Note
noted n (kind k) f = node_note k 0 false false
noted n (number k below d) f = number_note k below d f
noted n (bracket k) f = no_node
noted n (one_term d) f = note n d f
noted n (members d) f = note n d f

-- the same for one goal after the other
abbrev pub Fills : List ToRead → Type 0
Fills [] = Unit {0}
Fills (g ∷ gs) = Fill g × Fills gs

abbrev pub spelled_all : (gs : List ToRead) → Fills gs → List ℕ
spelled_all [] f = []
spelled_all (g ∷ gs) f = spelled g f.0 ++ spelled_all gs f.1

abbrev pub noted_all : ℕ → (gs : List ToRead) → Fills gs → Note
noted_all n [] f = no_node
noted_all n (g ∷ gs) f = followed (noted n g f.0) (noted_all n gs f.1)

-- the goals stand between two places, and are kept
pub record Passes (n : ℕ) (s : List ℕ) (gs : List ToRead) (at : ℕ) (m : Met) (build : List ℕ) (next : ℕ) (m' : Met) (build' : List ℕ) : Type 0 where
  pub fills : Fills gs
  pub here : drop at s ≡ spelled_all gs fills ++ drop next s
  pub kept : (w : Note) → Keeps w m build → Keeps (followed w (noted_all n gs fills)) m' build'

-- outside the grammar, or so far, with what was met
abbrev pub Descent : Type 0
Descent = Option (Cursor × Met)

-- where the descent x leads if these goals are still to be read: out, if they don't stand there
abbrev pub Leads : ℕ → List ℕ → List ToRead → Descent → List ℕ → Descent → List ℕ → Type 0
Leads n s gs None build z end = z ≡ None
Leads n s gs (Some (c, m)) build None end = (f : Fills gs) (r : List ℕ) → drop c.at s ≡ spelled_all gs f ++ r → ⊥
Leads n s gs (Some (c, m)) build (Some (c', m')) end = Passes n s gs c.at m build c'.at m' end

-- x becomes y by reading the goals: whatever is to be read behind them, where y leads x leads
pub record ReadsOn (n : ℕ) (s : List ℕ) (gs : List ToRead) (x : Descent) (build : List ℕ) (y : Descent) (build' : List ℕ) : Type 0 where
  pub then_on : (hs : List ToRead) (z : Descent) (end : List ℕ) → Leads n s hs y build' z end → Leads n s (gs ++ hs) x build z end

-- a place from k on, within the text, with at most as many nodes
pub record Beyond (s : List ℕ) (k at nodes : ℕ) : Type 0 where
  pub further : k ≤ at
  pub within : at ≤ length s
  pub few : nodes ≤ at

-- out, or such a place
abbrev pub Ahead : List ℕ → ℕ → Descent → Type 0
Ahead s k x = (c : Cursor) (m : Met) → x ≡ Some (c, m) → Beyond s k c.at m.nodes

-- what a descent by these goals owes
pub record Descends (n : ℕ) (s : List ℕ) (gs : List ToRead) (c : Cursor) (m : Met) (build : List ℕ) (y : Descent) (build' : List ℕ) : Type 0 where
  pub reads : ReadsOn n s gs (Some (c, m)) build y build'
  pub ahead : Ahead s (c.at + 1) y

-- Tags.

-- the nine rows of terms
pub data Row : Type 0 where
  leaf : Leaf → Row
  code located opened : Row
  pair : Pair → Row

-- the byte that announces a row
abbrev pub tag : Row → ℕ
tag (leaf l) = leaf_tag l
tag code = 108
tag located = 76
tag opened = 110
tag (pair o) = pair_tag o

-- the node behind the tag
abbrev pub node_of : ℕ → ℕ → Row → ToRead
node_of n d (leaf l) = number (leaf_kind l) (leaf_below n l) d
node_of n d code = kind 5
node_of n d located = number 6 n d
node_of n d opened = kind 8
node_of n d (pair o) = kind (pair_kind o)

-- the node of the tag k is read, which leaves at most as many nodes as places; or no row has this tag
pub data Heads (n : ℕ) (s : List ℕ) (d k : ℕ) (c : Cursor) (m : Met) (build : List ℕ) (y : Descent) (build' : List ℕ) : Type 0 where
  row : (x : Row) → k ≡ tag x → ReadsOn n s (node_of n d x ∷ []) (Some (c, m)) build y build' → Ahead s c.at y → Heads n s d k c m build y build'
  no_row : ((x : Row) → k ≡ tag x → ⊥) → y ≡ None → Heads n s d k c m build y build'

-- The goals that wait, as cells of a stack, the next first.

-- the cells of a goal
abbrev pub Codes : Goal → ℕ → Type 0
Codes Term cell = cell ≡ 0
Codes Members cell = cell ≡ 1
Codes Open cell = cell ≡ 2
Codes Close cell = cell ≡ 3
Codes CloseBinder cell = 4 ≤ cell

-- the binders that end among them: 0 a term, 1 members, 2 an opening bracket, 3 a closing one, and any other a closing one that ends a binder
abbrev pub ends : List ℕ → ℕ
ends [] = 0
ends (cell ∷ cells) = get_or (ends cells ∷ ends cells ∷ ends cells ∷ ends cells ∷ []) cell (ends cells + 1)

-- what they stand for
abbrev pub waiting : List ℕ → List ToRead
waiting [] = []
waiting (cell ∷ cells) = get_or (one_term (ends cells) ∷ members (ends cells) ∷ bracket 40 ∷ bracket 41 ∷ []) cell (bracket 41) ∷ waiting cells

-- what a row announces behind its node
abbrev pub cells_of : Row → List ℕ
cells_of (leaf l) = 3 ∷ []
cells_of code = 2 ∷ 1 ∷ 4 ∷ []
cells_of located = 2 ∷ 1 ∷ 4 ∷ []
cells_of opened = 0 ∷ 4 ∷ []
cells_of (pair o) = 0 ∷ 0 ∷ 3 ∷ []

-- one goal more
pub record Pushes (goal : ℕ) (cells : List ℕ) (top next : ℕ) (cells' : List ℕ) : Type 0 where
  pub one_less : next + 1 ≡ top
  pub here : drop next cells' ≡ goal ∷ drop top cells

-- what a row announces waits, with the binders that end there
pub record Announced (x : Row) (w : Waiting) (cells : List ℕ) (w' : Waiting) (cells' : List ℕ) : Type 0 where
  pub here : drop w'.top cells' ≡ cells_of x ++ drop w.top cells
  pub binds : w.binders ≡ ends (drop w.top cells) → w'.binders ≡ ends (drop w'.top cells')

-- what a tag announces: at most three goals, those of its row
pub record Announces (k : ℕ) (w : Waiting) (cells : List ℕ) (w' : Waiting) (cells' : List ℕ) : Type 0 where
  pub few : w.top ≤ w'.top + 3
  pub lower : w'.top ≤ w.top
  pub by_row : (x : Row) → k ≡ tag x → Announced x w cells w' cells'

-- the stack: never more cells than the bytes passed and two, and the binders that end among them
pub record GoalsStacked (cells : List ℕ) (at : ℕ) (w : Waiting) : Type 0 where
  pub on : w.top ≤ length cells
  pub room : length cells ≤ w.top + at + 2
  pub binds : w.binders ≡ ends (drop w.top cells)

-- before the next goal
pub record BeforeGoal (n : ℕ) (s cells : List ℕ) (c : Cursor) (m : Met) (w : Waiting) : Type 0 where
  pub small : n < constructors
  pub long : length s + 2 ≤ length cells
  pub beyond : Beyond s 0 c.at m.nodes
  pub stacked : GoalsStacked cells c.at w

-- before a term, whose alternative is noted
pub record BeforeTerm (n : ℕ) (s cells : List ℕ) (c : Cursor) (m : Met) (w : Waiting) : Type 0 where
  pub small : n < constructors
  pub long : length s + 2 ≤ length cells
  pub few : m.nodes ≤ c.at + 1
  pub stacked : GoalsStacked cells c.at w

-- the next goal is this one
pub record Tops (cells : List ℕ) (top goal : ℕ) : Type 0 where
  pub on : top < length cells
  pub is : get_or cells top 0 ≡ goal

-- the same of a turn, and what waits
abbrev pub Turn : Type 0
Turn = Option (Cursor × Met × Waiting)

-- the descent of a turn
abbrev pub descent : Turn → Descent
descent None = None
descent (Some (c, m, w)) = Some (c, m)

-- what waits then
abbrev pub left : Turn → List ℕ → List ToRead
left None cells = []
left (Some (c, m, w)) cells = waiting (drop w.top cells)

-- x before the goals gs becomes y before the goals hs: where y leads then, x leads
pub record Follows (n : ℕ) (s : List ℕ) (gs : List ToRead) (x : Descent) (build : List ℕ) (hs : List ToRead) (y : Descent) (build' : List ℕ) : Type 0 where
  pub then_on : (z : Descent) (end : List ℕ) → Leads n s hs y build' z end → Leads n s gs x build z end

-- what a turn owes
pub record Advances (n : ℕ) (s : List ℕ) (gs : List ToRead) (c : Cursor) (m : Met) (build : List ℕ) (y : Turn) (build' cells' : List ℕ) : Type 0 where
  pub follows : Follows n s gs (Some (c, m)) build (left y cells') (descent y) build'
  pub ahead : (c' : Cursor) (m' : Met) (w' : Waiting) → y ≡ Some (c', m', w') → Beyond s (c.at + 1) c'.at m'.nodes × GoalsStacked cells' c'.at w'

-- The parser.

-- where it is, as a descent or as a turn says it
abbrev pub descent_of : Option Unit → Parser → Descent
descent_of None p = None
descent_of (Some u) p = Some (p.cursor, p.met)

abbrev pub turn_of : Option Unit → Parser → Turn
turn_of None p = None
turn_of (Some u) p = Some (p.cursor, p.met, p.ahead)

-- the goals that wait
abbrev pub goals_of : Parser → List ToRead
goals_of p = waiting (drop p.ahead.top p.goals.now)

-- before the next goal, and before a term
abbrev pub GoalReady : Parser → Type 0
GoalReady p = BeforeGoal p.limit p.text.now p.goals.now p.cursor p.met p.ahead

abbrev pub TermReady : Parser → Type 0
TermReady p = BeforeTerm p.limit p.text.now p.goals.now p.cursor p.met p.ahead

-- what a turn by these goals owes, from the one to the other
abbrev pub TurnRead : List ToRead → Parser → Option Unit → Parser → Type 0
TurnRead gs p r q = Advances p.limit p.text.now gs p.cursor p.met p.build.now (turn_of r q) q.build.now q.goals.now

-- the same text, limit and lent tables
pub record SameParse (p q : Parser) : Type 0 where
  pub text : q.text.now ≡ p.text.now
  pub limit : q.limit ≡ p.limit
  pub build : q.build.ghost_name ≡ p.build.ghost_name
  pub long_build : length q.build.now ≡ length p.build.now
  pub long_goals : length q.goals.now ≡ length p.goals.now

-- and the same goals wait
pub record Stays (p q : Parser) : Type 0 where
  pub same : SameParse p q
  pub goals : q.goals.now ≡ p.goals.now
  pub ahead : q.ahead ≡ p.ahead
