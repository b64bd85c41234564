-- What the private functions say of the lengths that they keep.
use Rattle.std.specs.Prelude.{◌≡◌, ℕ, ◌<◌}

-- a kept length stands for a true one: it is that, or both are beyond what there is
pub data LengthKept (most kept true_one : ℕ) : Type 0 where
  exact : kept ≡ true_one → LengthKept most kept true_one
  beyond : most < kept → most < true_one → LengthKept most kept true_one
