use Rattle.std.proofs.Common.{◌≡◌, ℕ, ◌+◌, ◌-◌, List, ◌++◌, rules, length, take, drop, sym, ap, ◌∙◌, subst}
use Rattle.std.proofs.lemmas.List.{take_rest}
use Rattle.std.specs.Io.KnownBytes.{Appends}
use Rattle.std.proofs.KnownBytes.{Appends-trans}
use lib.Seq.{take-add}
use Rattle.leaf.proofs.answer.write_full.Goals as goal

-- what was written up to a, and n more of the rest
joined : (a n : ℕ) (xs : List ℕ) → take a xs ++ take n (take (length xs - a) (drop a xs)) ≡ take (a + n) xs
joined a n xs = ap (λ l. take a xs ++ take n l) (take_rest xs a) ∙ sym (take-add a n xs)

pub loop-written-preserved : goal.loop-written-preserved
loop-written-preserved g c =
    (search rules, subst (Appends _ _) (joined c.loop-written.written c.in_ok-n.n c.args.bytes.now) (Appends-trans _ _ _ _ _ c.loop-written.invariant.1 c.in_ok-n.ensures.bytes))
