-- `reading::numbers::number_in` meets its contract. The loop's invariant: the bytes passed are digits, and v with what is left stands for the number of the whole.
use native.Mathlib.Omega.{arith}
use Rattle.reading.proofs.Decimals.{no_digit, same_part, part_length, empty_bad, long_bad, zero_bad, byte_bad, reading_start, reading_next, number_is, large_bad}
use Rattle.reading.proofs.numbers.number_in.Goals as goal
use Rattle.reading.proofs.numbers.number_in.Goals.{then-n-eq0-via-then-n-eq0, then-n-eq0-via-else-n-eq0+then-n-gt5}

pub returns-then-n-eq0 : goal.returns-then-n-eq0
returns-then-n-eq0 c =
    let size = part_length _ _ _ c.requires.n_in_bounds in
    elim c.then-n-eq0.branch [ then-n-eq0-via-then-n-eq0 w ↦ empty_bad size w.if-n-eq0.true | then-n-eq0-via-else-n-eq0+then-n-gt5 w ↦ long_bad size c.requires.below_bound (omega arith) ]

pub returns-then-n-gt1 : goal.returns-then-n-gt1
returns-then-n-gt1 c = zero_bad (part_length _ _ _ c.requires.n_in_bounds) (rw same_part at c.if-digits-eq48.true) (omega arith)

pub loop-b-init : goal.loop-b-init
loop-b-init c = reading_start (part_length _ _ _ c.requires.n_in_bounds) (omega arith) (omega arith) (rw (← same_part) (λ e. (omega arith)))

pub returns-then-not-is_ascii_digit : goal.returns-then-not-is_ascii_digit
returns-then-not-is_ascii_digit c = byte_bad c.loop-b.invariant.size (omega (arith, c.loop-b.invariant.size)) (no_digit (rw same_part at c.if-not-is_ascii_digit.ensures.cases))

pub loop-b-preserved : goal.loop-b-preserved
loop-b-preserved c = rw same_part (reading_next c.loop-b.invariant (omega (arith, c.loop-b.invariant.size)) (rw same_part at c.if-not-is_ascii_digit.ensures.cases))

pub returns-then-v-below : goal.returns-then-v-below
returns-then-v-below c = number_is c.loop-b.invariant (omega (arith, c.loop-b.invariant.size)) (omega arith)

pub returns-else-v-below : goal.returns-else-v-below
returns-else-v-below c = large_bad c.loop-b.invariant (omega (arith, c.loop-b.invariant.size)) (omega arith)
