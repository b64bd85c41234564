-- What the structs of the exported functions stand for: the same values as the calls' own answers.
use Rattle.std.specs.Prelude.{[], ◌∷◌}
use Rattle.calculus.specs.Answers.{Values}
use Rattle.answers.specs.declared.Count.{Count}
use Rattle.answers.specs.declared.Move.{Move}
use Rattle.answers.specs.declared.Stop.{Stop}
use Rattle.answers.specs.declared.Stand.{Stand}

abbrev pub count_values : Count → Values
count_values r = record { refusal = r.refusal; values = r.count ∷ [] }

abbrev pub move_values : Move → Values
move_values r = record { refusal = r.refusal; values = r.nodes ∷ r.rule ∷ r.thread ∷ [] }

abbrev pub stop_values : Stop → Values
stop_values r = record { refusal = r.refusal; values = r.reason ∷ r.nodes ∷ r.steps ∷ r.counts.alloc ∷ r.counts.beta ∷ r.counts.fresh ∷ r.counts.guard ∷ r.counts.unif ∷ r.counts.fail ∷ [] }

abbrev pub stand_values : Stand → Values
stand_values r = record { refusal = r.refusal; values = r.standing ∷ [] }
