-- `leaf::report::put_end` meets its contract: the start, the text of the program in the rest of the output, the bracket. The text is not refused.
use mathlib.Core.Path.{ap}
use Prim.Native.Nat.{◌+◌, ◌*◌, ◌≤◌, ◌<◌}
use native.Mathlib.Omega.{arith}
use Rattle.calculus.specs.Answers.{Values, counted_values}
use Rattle.small.specs.Limit.{small_limit}
use Rattle.leaf.proofs.Reporting.{start_fits, end_not_refused, end_small, end_closing, end_written}
use Rattle.leaf.proofs.report.put_end.Goals as goal

pub slice_bounds-write-count : goal.slice_bounds-write-count
slice_bounds-write-count c =
    let few : c.args.steps < 65536 = omega (arith, c.ranges.steps) in
    let fits : c.put_start.new.out.at ≤ 15 = start_fits c.args.reason c.args.steps c.requires.holds_good c.requires.blank few c.put_start.ensures in
    omega (arith, fits)

pub slice_bounds-write-start : goal.slice_bounds-write-start
slice_bounds-write-start c =
    let few : c.args.steps < 65536 = omega (arith, c.ranges.steps) in
    let fits : c.put_start.new.out.at ≤ 15 = start_fits c.args.reason c.args.steps c.requires.holds_good c.requires.blank few c.put_start.ensures in
    omega (arith, fits)

pub overflow_add-out : goal.overflow_add-out
overflow_add-out c =
    let few : c.args.steps < 65536 = omega (arith, c.ranges.steps) in
    let short : c.put_start.new.out.at + c.in-Ok.n ≤ 12 * small_limit + 15 = end_small c.args.reason c.args.steps c.requires.holds_good c.requires.blank few c.put_start.ensures c.write.ensures (ap counted_values c.in-Ok.is) in
    omega (arith, short)

pub put-requires : goal.put-requires
put-requires c =
    let few : c.args.steps < 65536 = omega (arith, c.ranges.steps) in
    end_closing c.args.reason c.args.steps c.requires.holds_good c.requires.blank few c.put_start.ensures c.write.ensures (ap counted_values c.in-Ok.is)

pub returns-in-Ok : goal.returns-in-Ok
returns-in-Ok c =
    let few : c.args.steps < 65536 = omega (arith, c.ranges.steps) in
    end_written c.args.reason c.args.steps c.requires.holds_good c.requires.blank few c.put_start.ensures c.write.ensures (ap counted_values c.in-Ok.is) c.put.ensures

pub returns-in-Err : goal.returns-in-Err
returns-in-Err c =
    let few : c.args.steps < 65536 = omega (arith, c.ranges.steps) in
    absurd (end_not_refused c.args.reason c.args.steps c.requires.holds_good c.requires.blank few c.put_start.ensures c.write.ensures c.in-Err.r (ap (λ (v : Values). v.refusal) (ap counted_values c.in-Err.is)))
