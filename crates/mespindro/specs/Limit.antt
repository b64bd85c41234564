-- "The library's limit goes from 2,048 to 16,384 nodes."
use Rattle.std.specs.Prelude.{ℕ}

abbrev pub limit : ℕ
limit = 16384
