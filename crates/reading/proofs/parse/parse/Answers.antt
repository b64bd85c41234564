-- `reading::parse::parse` meets its contract.
use mathlib.Core.Path.{◌≡◌, ap}
use native.Mathlib.Omega.{arith}
use mathlib.Core.List.{[], ◌∷◌}
use Rattle.std.proofs.Common.{rules, Option, Some, None, Result, Err, ℕ}
use Rattle.calculus.specs.declared.Refusal.{Refusal}
use Rattle.calculus.specs.declared.Refusal.TheVariants.{OutOfPlace}
use Rattle.reading.specs.Descent.{Follows, Ahead, bracket, members, descent_of}
use Rattle.reading.proofs.Descents.{program_waits, nothing_met, parses_in, parse_out, Whole, whole, parse_more, parse_bad, parse_loose, parse_nodes}
use Rattle.reading.proofs.parse.parse.Goals as goal
use Rattle.reading.proofs.parse.parse.Goals.{After-descend, In_ok-ok_or}

-- where the program leads
leads : (c : After-descend) → Follows c.args.limit c.args.s.now (bracket 40 ∷ members 0 ∷ []) (Some (c.start.result, nothing_met)) c.args.build.now [] (descent_of c.descend.result c.descend.new.self) c.descend.new.self.build.now × Ahead c.args.s.now 0 (descent_of c.descend.result c.descend.new.self)
leads c = let zeros : c.default.result ≡ nothing_met = search rules in (rw (program_waits c.push-last.ensures c.push-top.ensures, zeros) at c.descend.ensures.follows, c.descend.ensures.ahead)

pub returns-in_err-ok_or : goal.returns-in_err-ok_or
returns-in_err-ok_or c =
    let e : ◌≡◌ {A = Result ℕ Refusal} c.from_residual.result (Err OutOfPlace) = search rules in
    let none : ◌≡◌ {A = Option Unit} c.descend.result None = grind arith in
    rw e (parses_in {b = c.descend.new.self.build.now} (search rules) (parse_out c.start.ensures (leads (goal.at.returns-in_err-ok_or c).After-descend) (ap (λ (r : Option Unit). descent_of r c.descend.new.self) none)))

-- the program that was read
read : (c : In_ok-ok_or) → Whole c.args.limit c.args.s.now c.descend.new.self.cursor c.descend.new.self.met c.descend.new.self.build.now
read c =
    let some : ◌≡◌ {A = Option Unit} c.descend.result (Some c.in_ok-ok_or.field-0) = grind arith in
    let zeros : c.default.result ≡ nothing_met = search rules in
    let follows = rw (program_waits c.push-last.ensures c.push-top.ensures, zeros) at c.descend.ensures.follows in
    whole c.start.ensures (follows, c.descend.ensures.ahead) (ap (λ (r : Option Unit). descent_of r c.descend.new.self) some)

pub returns-then-p-s : goal.returns-then-p-s
returns-then-p-s c = parses_in {b = c.descend.new.self.build.now} (search rules) (parse_more (read (goal.at.returns-then-p-s c).In_ok-ok_or) c.if-p-s.true)

pub returns-then-p : goal.returns-then-p
returns-then-p c = parses_in {b = c.descend.new.self.build.now} (search rules) (parse_bad (read (goal.at.returns-then-p c).In_ok-ok_or) c.if-p-s.false c.if-p.true)

pub returns-then-p-2 : goal.returns-then-p-2
returns-then-p-2 c = parses_in {b = c.descend.new.self.build.now} (search rules) (parse_loose (read (goal.at.returns-then-p-2 c).In_ok-ok_or) c.if-p-s.false c.if-p.false c.if-p-2.true)

pub returns : goal.returns
returns c = parses_in {b = c.descend.new.self.build.now} (search rules) (parse_nodes (read (goal.at.returns c).In_ok-ok_or) c.if-p-s.false c.if-p.false c.if-p-2.false)
