-- Bytes that are stored one behind the other, at a place of the output and at its front.
use mathlib.Core.Path.{◌≡◌, refl, sym, ap, ◌∙◌}
use mathlib.Core.List.{List, [], ◌++◌, append_assoc, append-nil}
use Prim.Native.Nat.{ℕ, ◌+◌, ◌-◌, ◌≤◌}
use native.Mathlib.Omega.{arith}
use lib.ListN.{length, take, drop, length-drop, drop_of_length-le}
use lib.Seq.{sets, sets-eq, take_all, length-take-le, length-sets, drop-drop}
use borrow.Rule.Slice.Mut.{set_vals}
use Rattle.calculus.specs.Calls.{front}
use Rattle.writing.specs.declared.write.Output.{Output}
use Rattle.writing.specs.Writer.{Wrote}

-- what is written at the front fills it
pub wrote_front : {out after : Output} {b : List ℕ} → out.at ≡ 0 → Wrote out after b → after.at ≤ length out.bytes.now → after.bytes.now ≡ front b out.bytes.now
wrote_front {out} {b = b} z h r = let e : 0 + length b ≡ length b = omega arith in (rw z at h.is) ∙ (rw e at (sets-eq b out.bytes.now 0 (omega arith)))

-- The part of an output from a place on, as it is lent,
abbrev pub lent : List ℕ → ℕ → List ℕ
lent out at = take (length out - at) (drop at out)

-- and the output when it is given back.
abbrev pub given_back : List ℕ → ℕ → List ℕ → List ℕ
given_back out at part = take at out ++ (part ++ drop (length out - at) (drop at out))

-- it has what is left of the output
pub lent_length : (out : List ℕ) (at : ℕ) → at ≤ length out → length (lent out at) ≡ length out - at
lent_length out at h = length-take-le (length out - at) (drop at out) (omega (arith, length-drop at out))

-- The output behind m more bytes, when its part is given back.
abbrev pub behind : Output → ℕ → List ℕ → Output
behind out m part = record { bytes = set_vals (given_back out.bytes.now out.at part) out.bytes; at = out.at + m }

-- what fills the front of the part is written at the place
pub part_wrote : (out : Output) (b : List ℕ) → out.at + length b ≤ length out.bytes.now → Wrote out (behind out (length b) (front b (lent out.bytes.now out.at))) b
part_wrote out b h =
    let o = out.bytes.now in
    let at = out.at in
    let long : length (drop at o) ≤ length o - at = omega (arith, length-drop at o) in
    let all : lent o at ≡ drop at o = take_all (length o - at) (drop at o) long in
    let none : drop (length o - at) (drop at o) ≡ [] = drop_of_length-le (drop at o) long in
    let is : given_back o at (front b (lent o at)) ≡ sets o at b = rw (all, none, append-nil, drop-drop, sets-eq b o at h) (sym (append_assoc (take at o) b (drop (at + length b) o))) in
    record { same = refl; is = is; same_length = ap length is ∙ length-sets o at b; next_is = refl }
