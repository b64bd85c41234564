-- `csexp::atom_at` meets its contract. The loop's invariant: the digits passed are a decimal, whose number is kept. The measure is what is left of the text. Assumes nothing.
use mathlib.Core.Logic.{inl, inr}
use native.Mathlib.Omega.{arith}
use Rattle.csexp.proofs.Atoms.{read_first, read_more, cut_digits, bad_digits, cut_bytes, took_atom}
use Rattle.csexp.proofs.atom_at.Goals as goal
use Rattle.csexp.proofs.atom_at.Goals.{then-loop-n-test+then-i-most+else-is_ascii_digit, then-loop-n-test+else-i-most, else-loop-n-test}

pub loop-n-init : goal.loop-n-init
loop-n-init c = read_first _ _ c.requires.0 c.requires.1 c.requires.2

pub loop-n-preserved : goal.loop-n-preserved
loop-n-preserved c = read_more c.loop-n.invariant c.loop-n-test.true (omega arith) (omega (arith, c.if-is_ascii_digit.ensures.cases)) (omega (arith, c.if-is_ascii_digit.ensures.cases)) c.longer-n.ensures

pub returns-then-i-most-2 : goal.returns-then-i-most-2
returns-then-i-most-2 c = cut_digits c.loop-n.invariant c.if-i-most-2.true

pub returns-then-s-i-ne58 : goal.returns-then-s-i-ne58
returns-then-s-i-ne58 c = bad_digits c.loop-n.invariant (omega arith) c.if-s-i-ne58.true (elim c.loop-n-test.branch [ then-loop-n-test+then-i-most+else-is_ascii_digit w ↦ inr (λ l u. omega (arith, w.if-is_ascii_digit.ensures.cases)) | then-loop-n-test+else-i-most w ↦ absurd (omega arith) | else-loop-n-test w ↦ inl w.loop-n-test.false ])

pub returns-then-most-place : goal.returns-then-most-place
returns-then-most-place c = cut_bytes c.loop-n.invariant (omega arith) c.if-s-i-ne58.false c.if-most-place.true

pub returns : goal.returns
returns c = took_atom c.loop-n.invariant (omega arith) c.if-s-i-ne58.false c.if-most-place.false
