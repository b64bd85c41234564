-- The kinds of nodes, by document 01's numbers.
use Rattle.std.specs.Prelude.{◌≡◌, ◌<◌, ℕ, Result, MatchResult}
use Rattle.table.specs.declared.kinds.Kind.{Kind}
use Rattle.table.specs.declared.kinds.Kind.TheVariants.{Empty, Alternative, Bound, Free, Constructor, Abstraction, Allocated, Application, Fresh, Guard, Unification}
use Rattle.table.specs.declared.kinds.UnknownKind.{UnknownKind}

-- the number of a kind in a table
abbrev pub kind_code : Kind → ℕ
kind_code Empty = 0
kind_code Alternative = 1
kind_code Bound = 2
kind_code Free = 3
kind_code Constructor = 4
kind_code Abstraction = 5
kind_code Allocated = 6
kind_code Application = 7
kind_code Fresh = 8
kind_code Guard = 9
kind_code Unification = 10

-- the kind with this number, or none has it
abbrev pub ReadsKind : ℕ → Result Kind UnknownKind → Type 0
ReadsKind n r = MatchResult r (λ k. kind_code k ≡ n) (λ e. (e.0 ≡ n) × (10 < n))
