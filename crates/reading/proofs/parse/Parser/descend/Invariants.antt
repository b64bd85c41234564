-- `reading::parse::Parser::descend` meets its contract. The loop's invariant: where what waits leads, the program leads from the beginning. The measure is what is left of the text.
use Rattle.reading.proofs.Descents.{Looping}
use Rattle.reading.specs.Descent.{waiting, SameParse}
use lib.ListN.{length, drop}
use Prim.Native.Nat.{◌-◌}
use Rattle.reading.proofs.parse.Parser.descend.Given as goal

abbrev pub invariant-loop-self : goal.invariant-loop-self
invariant-loop-self l = record {
  looping : Looping l.initial.self.limit l.initial.self.text.now (waiting (drop l.initial.self.ahead.top l.initial.self.goals.now)) l.initial.self.cursor l.initial.self.met l.initial.self.build.now l.self.cursor l.self.met l.self.ahead l.self.build.now l.self.goals.now;
  same : SameParse l.initial.self l.self;
}

abbrev pub decreases-loop-self : goal.decreases-loop-self
decreases-loop-self l = length l.self.text.now - l.self.cursor.at
