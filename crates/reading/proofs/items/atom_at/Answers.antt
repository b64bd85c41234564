-- `reading::items::atom_at` meets its contract.
use Rattle.csexp.specs.Items.{of_atom}
use Rattle.csexp.proofs.Closings.{item_taken, none_taken}
use Rattle.reading.proofs.Descents.{not_atom, no_item}
use Rattle.reading.proofs.items.atom_at.Goals as goal

pub returns-in_default : goal.returns-in_default
returns-in_default c = λ b. no_item (of_atom b) (none_taken c.in_default.ensures)

pub returns-in_default-item : goal.returns-in_default-item
returns-in_default-item c = not_atom (item_taken c.item_from.ensures _ _ c.in-Ok.is) c.in_default-item.not-Atom
