-- `reading::items::bracket` meets its contract.
use mathlib.Core.Path.{refl, subst}
use Rattle.std.proofs.Common.{rules}
use Rattle.csexp.proofs.Closings.{item_taken, none_taken, item_bytes_lem}
use Rattle.csexp.specs.Items.{ItemBytes}
use Rattle.reading.proofs.Descents.{not_bracket, no_item}
use Rattle.reading.proofs.items.bracket.Goals as goal

pub returns-in_default : goal.returns-in_default
returns-in_default c = λ k l b. not_bracket k l b (item_taken c.in-Ok.ensures.takes _ _ refl) (search rules)

pub returns-in_default-2 : goal.returns-in_default-2
returns-in_default-2 c = λ k l b. no_item (subst ItemBytes b (item_bytes_lem _ _)) (none_taken (rw c.in_default.is at c.take.ensures.takes))
