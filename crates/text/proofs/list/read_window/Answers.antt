-- `text::list::read_window` meets its contract.
use Rattle.text.proofs.Lists.{window-stored}
use Rattle.text.proofs.list.read_window.Goals as goal

pub returns : goal.returns
returns c = window-stored _ _ _ _ _ _ _ _ _ (c.number_into-c1.ensures.value, c.number_into-c1.ensures.numbers_after) (c.number_into.ensures.value, c.number_into.ensures.numbers_after)
