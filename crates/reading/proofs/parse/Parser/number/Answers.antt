-- `reading::parse::Parser::number` meets its contract.
use mathlib.Core.Path.{refl, ap}
use native.Mathlib.Omega.{arith}
use Rattle.reading.specs.declared.goals.Waiting.{Waiting}
use Rattle.table.specs.Kinds.{kind_code}
use Rattle.reading.proofs.Descents.{impossible, index_kind, number_bad, number_loose, number_bound}
use Rattle.reading.proofs.parse.Parser.number.Goals as goal
use Rattle.reading.proofs.parse.Parser.number.Goals.{in-Bound, in_default-matches, else-matches-via-then-matches+else-self-v, else-matches-via-else-matches}

pub returns-in_default-clause-descends : goal.returns-in_default-clause-descends
returns-in_default-clause-descends c = number_bad c.in_ok-place.ensures c.requires.1 c.in_default.ensures refl

pub returns-then-self-v-clause-descends : goal.returns-then-self-v-clause-descends
returns-then-self-v-clause-descends c =
    let same = ap (λ (w : Waiting). w.binders) c.put.ensures.stays.ahead in
    rw c.put.ensures.cursor (number_loose c.in_ok-place.ensures c.requires.1 c.in-Some.ensures c.put.ensures.noted (elim c.match-matches.branch [ in-Bound w ↦ ap kind_code w.in-Bound.is | in_default-matches w ↦ cc (w.matches-is, c.if-matches.true) ]) (omega arith))

pub returns-else-matches-clause-descends : goal.returns-else-matches-clause-descends
returns-else-matches-clause-descends c =
    let same = ap (λ (w : Waiting). w.binders) c.put.ensures.stays.ahead in
    rw c.put.ensures.cursor (number_bound c.in_ok-place.ensures c.requires.1 c.in-Some.ensures c.put.ensures.noted (λ e. (elim c.else-matches.branch [ else-matches-via-then-matches+else-self-v w ↦ omega arith | else-matches-via-else-matches w ↦ elim c.match-matches.branch [ in-Bound u ↦ impossible (cc (u.matches-is, w.if-matches.false)) | in_default-matches u ↦ absurd (u.in_default-matches.not-Bound (index_kind _ e)) ] ])))
