-- `reading::parse::Parser::head` meets its contract.
use Rattle.reading.proofs.Descents.{numbered_head, plain_head}
use Rattle.reading.specs.Descent.{leaf, code, located, opened, pair}
use Rattle.calculus.specs.Text.{bound_leaf, free_leaf, con_leaf}
use Rattle.calculus.specs.Tree.{app, guard, unif}
use mathlib.Core.Path.{refl}
use Rattle.reading.proofs.parse.Parser.head.Goals as goal

pub returns-in_err-number-in-118-clause-heads : goal.returns-in_err-number-in-118-clause-heads
returns-in_err-number-in-118-clause-heads c = rw c.from_residual.ensures (numbered_head (leaf bound_leaf) c.in-118.is (c.in_err-number-in-118.ensures.descends _))

pub returns-in_ok-number-in-118-clause-heads : goal.returns-in_ok-number-in-118-clause-heads
returns-in_ok-number-in-118-clause-heads c = numbered_head (leaf bound_leaf) c.in-118.is (c.in_ok-number-in-118.ensures.descends _)

pub returns-in_err-number-in-120-clause-heads : goal.returns-in_err-number-in-120-clause-heads
returns-in_err-number-in-120-clause-heads c = rw c.from_residual-in_err-number-in-120.ensures (numbered_head (leaf free_leaf) c.in-120.is (c.in_err-number-in-120.ensures.descends _))

pub returns-in_ok-number-in-120-clause-heads : goal.returns-in_ok-number-in-120-clause-heads
returns-in_ok-number-in-120-clause-heads c = numbered_head (leaf free_leaf) c.in-120.is (c.in_ok-number-in-120.ensures.descends _)

pub returns-in_err-number-in-99-clause-heads : goal.returns-in_err-number-in-99-clause-heads
returns-in_err-number-in-99-clause-heads c = rw c.from_residual-in_err-number-in-99.ensures (numbered_head (leaf con_leaf) c.in-99.is (c.in_err-number-in-99.ensures.descends _))

pub returns-in_ok-number-in-99-clause-heads : goal.returns-in_ok-number-in-99-clause-heads
returns-in_ok-number-in-99-clause-heads c = numbered_head (leaf con_leaf) c.in-99.is (c.in_ok-number-in-99.ensures.descends _)

pub returns-in_err-number-in-76-clause-heads : goal.returns-in_err-number-in-76-clause-heads
returns-in_err-number-in-76-clause-heads c = rw c.from_residual-in_err-number-in-76.ensures (numbered_head located c.in-76.is (c.in_err-number-in-76.ensures.descends _))

pub returns-in_ok-number-in-76-clause-heads : goal.returns-in_ok-number-in-76-clause-heads
returns-in_ok-number-in-76-clause-heads c = numbered_head located c.in-76.is (c.in_ok-number-in-76.ensures.descends _)

pub returns-in-108-clause-heads : goal.returns-in-108-clause-heads
returns-in-108-clause-heads c = rw c.put.ensures.cursor (plain_head code c.in-108.is refl c.requires.1 c.requires.2 c.put.ensures.noted)

pub returns-in-110-clause-heads : goal.returns-in-110-clause-heads
returns-in-110-clause-heads c = rw c.put-in-110.ensures.cursor (plain_head opened c.in-110.is refl c.requires.1 c.requires.2 c.put-in-110.ensures.noted)

pub returns-in-97-clause-heads : goal.returns-in-97-clause-heads
returns-in-97-clause-heads c = rw c.put-in-97.ensures.cursor (plain_head (pair app) c.in-97.is refl c.requires.1 c.requires.2 c.put-in-97.ensures.noted)

pub returns-in-103-clause-heads : goal.returns-in-103-clause-heads
returns-in-103-clause-heads c = rw c.put-in-103.ensures.cursor (plain_head (pair guard) c.in-103.is refl c.requires.1 c.requires.2 c.put-in-103.ensures.noted)

pub returns-in-117-clause-heads : goal.returns-in-117-clause-heads
returns-in-117-clause-heads c = rw c.put-in-117.ensures.cursor (plain_head (pair unif) c.in-117.is refl c.requires.1 c.requires.2 c.put-in-117.ensures.noted)
