-- `text::list::read_segment` meets its contract.
use Rattle.text.proofs.Lists.{segment-stored}
use Rattle.text.proofs.list.read_segment.Goals as goal

pub returns : goal.returns
returns c = segment-stored _ _ _ _ _ _ _ _ _ _ _ _ _ _ _ _ _ _ (c.number_into-c1.ensures.value, c.number_into-c1.ensures.numbers_after) (c.float_into-c2.ensures.value, c.float_into-c2.ensures.floats_after) (c.float_into-c3.ensures.value, c.float_into-c3.ensures.floats_after) (c.number_into-c4.ensures.value, c.number_into-c4.ensures.numbers_after) (c.number_into.ensures.value, c.number_into.ensures.numbers_after)
