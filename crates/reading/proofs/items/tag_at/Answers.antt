-- `reading::items::tag_at` meets its contract.
use Rattle.reading.proofs.Descents.{long_tag}
use Rattle.reading.proofs.items.tag_at.Goals as goal

pub returns-else-n-eq1 : goal.returns-else-n-eq1
returns-else-n-eq1 c = long_tag c.in_ok-open_at.ensures c.in_ok-place.ensures c.if-n-eq1.false
