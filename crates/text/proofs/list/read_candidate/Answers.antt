-- `text::list::read_candidate` meets its contract.
use Rattle.text.proofs.Lists.{candidate-stored}
use Rattle.text.proofs.list.read_candidate.Goals as goal

pub returns : goal.returns
returns c = candidate-stored _ _ _ _ _ _ _ _ _ _ _ _ _ _ _ (c.number_into-c1.ensures.value, c.number_into-c1.ensures.numbers_after) (c.float_into-c2.ensures.value, c.float_into-c2.ensures.floats_after) (c.number_into-c3.ensures.value, c.number_into-c3.ensures.numbers_after) (c.float_into.ensures.value, c.float_into.ensures.floats_after)
