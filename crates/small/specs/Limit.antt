-- "The small leaf's program keeps 2,048 nodes."
use Rattle.std.specs.Prelude.{ℕ}

abbrev pub small_limit : ℕ
small_limit = 2048
