-- What the program writes: its report, at the front of an output.
use Rattle.std.specs.Prelude.{◌≡◌, List, ℕ, ◌+◌, ◌*◌, length, take}
use Rattle.calculus.specs.Calls.{front}
use Rattle.calculus.specs.Report.{Reports}
use Rattle.small.specs.Limit.{small_limit}

-- "runs 10,000 steps"
abbrev pub most : ℕ
most = 10000

-- the longest report: brackets, a reason of 7 bytes, a count of at most 7, the longest text
abbrev pub longest : ℕ
longest = 12 * small_limit + 16

-- the report of the text b, with the node limit n and the step limit k, fills the front of the output; the rest is as it was
pub record Reported (n k : ℕ) (b out : List ℕ) (count : ℕ) (after : List ℕ) : Type 0 where
  pub written : List ℕ
  pub reports : Reports n k b written
  pub counts : length written ≡ count
  pub is : after ≡ front written out

-- The first m bytes of the buffer are as much of an input as it holds: an input goes on only where the buffer is full. The report is that of every such input.
pub record ReportedWhole (n k : ℕ) (buffer : List ℕ) (m : ℕ) (out : List ℕ) (count : ℕ) (after : List ℕ) : Type 0 where
  pub each : (b : List ℕ) → take (length buffer) b ≡ take m buffer → Reported n k b out count after
