-- What a cursor over a text takes, and when a text is one expression, said over the canonical bytes.
use Rattle.std.specs.Prelude.{◌≡◌, Bool, true, false, List, [], ◌∷◌, ◌++◌, ℕ, suc, ◌+◌, ◌-◌, ◌≤◌, ◌<◌, length, take, drop, Result, Ok, Err}
use Rattle.calculus.specs.declared.Refusal.TheVariants.{NotCanonical}
use Rattle.calculus.specs.Sexp.{decimal, one, Sexp, atom, bytes}
use Rattle.calculus.specs.Answers.{number}
use Rattle.csexp.specs.declared.Cursor.{Cursor}
use Rattle.csexp.specs.declared.Item.{Item}
use Rattle.csexp.specs.declared.Item.TheVariants.{Open, Close, Atom}
use Rattle.csexp.specs.declared.Torn.{Torn}
use Rattle.csexp.specs.declared.Torn.TheVariants.{Cut, Bad}

-- the bytes of one item
pub data ItemBytes : List ℕ → Type 0 where
  opening : ItemBytes (40 ∷ [])
  closing : ItemBytes (41 ∷ [])
  of_atom : (b : List ℕ) → ItemBytes (bytes (atom b))

-- the list begins with an item
pub record Begins (l : List ℕ) : Type 0 where
  pub item : List ℕ
  pub rest : List ℕ
  pub is_item : ItemBytes item
  pub here : l ≡ item ++ rest

-- the item that a text has at a place, as document 01's bytes: an atom's are those of the text
abbrev pub item_bytes : List ℕ → Item → List ℕ
item_bytes s Open = 40 ∷ []
item_bytes s Close = 41 ∷ []
item_bytes s (Atom place n) = bytes (atom (take n (drop place s)))

-- an atom's bytes are in the text, right behind its length and the colon
abbrev pub Placed : List ℕ → ℕ → Item → ℕ → Type 0
Placed s at Open next = next ≡ at + 1
Placed s at Close next = next ≡ at + 1
Placed s at (Atom place n) next = (place ≡ at + length (decimal n) + 1) × (next ≡ place + n)

-- what a cursor takes at a place: an item, and the place behind it; the text ends there, and could go on so that an item stands there;
-- or up to the byte at p no text that goes on has an item there, and up to the byte before it one has
pub data Takes (s : List ℕ) (at : ℕ) : Result (Item × Cursor) Torn → Type 0 where
  took : (i : Item) (next : ℕ) → next ≤ length s → drop at s ≡ item_bytes s i ++ drop next s → Placed s at i next → Takes s at (Ok (i, record { at = next }))
  cut : (Begins (drop at s) → ⊥) → (more : List ℕ) → Begins (drop at s ++ more) → Takes s at (Err Cut)
  bad : (p : ℕ) → at ≤ p → p < length s → ((more : List ℕ) → Begins (take (suc p - at) (drop at s) ++ more) → ⊥) → (more : List ℕ) → Begins (take (p - at) (drop at s) ++ more) → Takes s at (Err (Bad p))

-- document 01's number for each answer: a cut or a bad byte is no canonical item, 0 where one is taken
abbrev pub taken_number : Result (Item × Cursor) Torn → ℕ
taken_number (Ok x) = 0
taken_number (Err Cut) = number NotCanonical
taken_number (Err (Bad p)) = number NotCanonical

-- 3 is told exactly where no item begins
pub data TakesNumber (s : List ℕ) (at : ℕ) : ℕ → Type 0 where
  some_item : Begins (drop at s) → TakesNumber s at 0
  no_item : (Begins (drop at s) → ⊥) → TakesNumber s at (number NotCanonical)

-- whether the text is the canonical bytes of one expression
pub record OneExpression (s : List ℕ) (r : Bool) : Type 0 where
  pub one_there : r ≡ true → (e : Sexp one) × (bytes e ≡ s)
  pub none_there : r ≡ false → (e : Sexp one) → bytes e ≡ s → ⊥
