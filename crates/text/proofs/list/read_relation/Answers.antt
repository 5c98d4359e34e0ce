-- `text::list::read_relation` meets its contract.
use Rattle.text.proofs.Lists.{relation-stored}
use Rattle.text.proofs.list.read_relation.Goals as goal

pub returns : goal.returns
returns c = relation-stored _ _ _ _ _ _ _ _ _ _ _ _ _ _ _ _ _ _ _ _ _ (c.number_into-c1.ensures.value, c.number_into-c1.ensures.numbers_after) (c.number_into-c2.ensures.value, c.number_into-c2.ensures.numbers_after) (c.number_into-c3.ensures.value, c.number_into-c3.ensures.numbers_after) (c.number_into-c4.ensures.value, c.number_into-c4.ensures.numbers_after) (c.number_into-c5.ensures.value, c.number_into-c5.ensures.numbers_after) (c.number_into.ensures.value, c.number_into.ensures.numbers_after)
