-- `reading::read::read` meets its contract: the scan, the parse and the check of the build table decide the refusals in their order, and only then is anything written.
use mathlib.Core.Path.{◌≡◌}
use native.Mathlib.Omega.{arith}
use Rattle.std.proofs.Common.{rules, ℕ, Result, Err}
use Rattle.calculus.specs.declared.Refusal.{Refusal}
use Rattle.calculus.specs.declared.Refusal.TheVariants.{Incoherent}
use Rattle.table.specs.Checks.{checked_number, Checks}
use Rattle.table.proofs.Verdicts.{limit_in_force}
use Rattle.reading.proofs.Readings.{Scanned, Loaded, read_too_long, read_not_canonical, scan, read_unparsed, parsed_there, read_too_many, load, read_incoherent, admits, read_no_room, load_countable, read_done}
use Rattle.reading.proofs.read.read.Goals as goal
use Rattle.reading.proofs.read.read.Goals.{Else-not-is_one, Else-limit-nodes, After-check}

-- past the scan
scanned : (c : Else-not-is_one) → Scanned c.args.limit c.args.text.now
scanned c = scan (omega arith) c.if-not-is_one.false c.is_one.ensures

-- past the node limit
loaded : (c : Else-limit-nodes) → Loaded c.args.limit c.args.text.now c.parse.new.build c.in_ok-nodes.nodes
loaded c = load (parsed_there (scan (omega arith) c.if-not-is_one.false c.is_one.ensures) c.in_ok-nodes.ensures) (omega arith) (omega (arith, c.parse.auto.build))

-- the check of the build table
checked : (c : After-check) → Checks c.args.limit c.parse.new.build c.in_ok-nodes.nodes (checked_number c.check.result)
checked c = rw (limit_in_force _ _ c.requires.limit_bound c.requires.limit_in_bounds_2) at c.check.ensures

pub returns-then-limit-text : goal.returns-then-limit-text
returns-then-limit-text c = read_too_long (omega arith)

pub returns-then-not-is_one : goal.returns-then-not-is_one
returns-then-not-is_one c = read_not_canonical (omega arith) c.if-not-is_one.true c.is_one.ensures

pub returns-in_err-nodes : goal.returns-in_err-nodes
returns-in_err-nodes c =
    let e : c.from_residual.result ≡ Err c.in_err-nodes.field-0.0 = search rules in
    rw e (read_unparsed c.in_err-nodes.field-0.0 (scanned (goal.at.returns-in_err-nodes c).Else-not-is_one) c.in_err-nodes.ensures)

pub returns-then-limit-nodes : goal.returns-then-limit-nodes
returns-then-limit-nodes c = read_too_many (parsed_there (scanned (goal.at.returns-then-limit-nodes c).Else-not-is_one) c.in_ok-nodes.ensures) (omega arith)

pub returns-in_err-map_err : goal.returns-in_err-map_err
returns-in_err-map_err c =
    let e : ◌≡◌ {A = Result ℕ Refusal} c.from_residual-in_err-map_err.result (Err Incoherent) = search rules in
    let p = goal.at.returns-in_err-map_err c in
    rw e (read_incoherent (loaded p.Else-limit-nodes) c.check.result c.in_err-map_err.ensures.variant (checked p.After-check))

pub returns-then-holds-nodes : goal.returns-then-holds-nodes
returns-then-holds-nodes c =
    let p = goal.at.returns-then-holds-nodes c in
    read_no_room (loaded p.Else-limit-nodes) (admits c.check.result c.in_ok-map_err.ensures.variant (checked p.After-check)) (omega (arith, c.holds.ensures))

pub count_column-requires-clause-countable : goal.count_column-requires-clause-countable
count_column-requires-clause-countable c = load_countable (loaded (goal.at.count_column-requires-clause-countable c).Else-limit-nodes)

pub returns : goal.returns
returns c =
    let p = goal.at.returns c in
    read_done (loaded p.Else-limit-nodes) (admits c.check.result c.in_ok-map_err.ensures.variant (checked p.After-check)) (omega (arith, c.holds.ensures)) c.copy_nodes.ensures.1 c.count_column.ensures
