-- `Program::split_first` meets its contract: behind the first thread the rest of the slices is the program of the others.
use Rattle.std.proofs.Common.{ap, ap₂, ◌∙◌}
use Rattle.calculus.specs.Tree.{alt}
use Rattle.threads.specs.Programs.{one_program, one_thread}
use Rattle.threads.proofs.program.Program.split_first.Goals as goal

pub returns-in_err-end-clause-none : goal.returns-in_err-end-clause-none
returns-in_err-end-clause-none c = rw (c.from_residual.ensures, ← c.self.view_is) (c.in_err-end.ensures.none c.self.inside.lies)

pub invariant_of-thread-inside : goal.invariant_of-thread-inside
invariant_of-thread-inside c = (c.in_ok-end.ensures.some.first, tt)

pub invariant_of-rest-inside : goal.invariant_of-rest-inside
invariant_of-rest-inside c = (c.in_ok-end.ensures.some.others, tt)

pub returns-clause-some : goal.returns-clause-some
returns-clause-some c =
    let s = c.in_ok-end.ensures.some in
    let t = one_thread _ _ s.first c.thread-3-1.given.0 in
    let p = one_program _ _ s.others c.rest-3-1.given.0 in
    rw (← c.self.view_is) (s.is c.self.inside.lies ∙ ap₂ alt (ap (λ u. u.0) t) (ap (λ u. u.0) p))
