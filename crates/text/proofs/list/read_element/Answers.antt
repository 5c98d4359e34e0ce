-- `text::list::read_element` meets its contract.
use Rattle.text.proofs.Lists.{element-stored}
use Rattle.text.proofs.list.read_element.Goals as goal

pub returns : goal.returns
returns c = element-stored _ _ _ _ _ _ _ _ _ _ _ _ _ _ _ _ _ _ (c.float_into-c1.ensures.value, c.float_into-c1.ensures.floats_after) (c.float_into-c2.ensures.value, c.float_into-c2.ensures.floats_after) (c.float_into-c3.ensures.value, c.float_into-c3.ensures.floats_after) (c.float_into-c4.ensures.value, c.float_into-c4.ensures.floats_after) (c.float_into-c5.ensures.value, c.float_into-c5.ensures.floats_after) (c.number_into.ensures.value, c.number_into.ensures.numbers_after)
