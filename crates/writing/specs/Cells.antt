-- The pieces as the stack of the writer holds them.
use Rattle.std.specs.Prelude.{◌≡◌, List, ℕ, ◌+◌, ◌≤◌, get_or}
use Rattle.writing.specs.declared.write.Piece.{Piece}
use Rattle.writing.specs.declared.write.Piece.TheVariants.{Term, Rest, Close}

-- the number that its cell has
abbrev pub code : Piece → ℕ
code Term = 0
code Rest = 1
code Close = 2

-- a piece's number stands for it
abbrev pub StandsFor : ℕ → Piece → Type 0
StandsFor cell piece = cell ≤ 2 → code piece ≡ cell

-- the piece is taken from the top, the cells are as they were
pub record Popped (stack after : List ℕ) (cells next : ℕ) (piece : Piece) : Type 0 where
  pub is : StandsFor (get_or stack next 0) piece
  pub same : after ≡ stack
  pub one_fewer : cells ≡ next + 1
