-- `transition::pair::sum_of_terms` meets its contract.
use lib.Ieee.{neg, of_bits}
use Rattle.transition.specs.Pair.{sum_of_terms}
use Rattle.transition.proofs.pair.sum_of_terms.Goals as goal

pub returns-then-too_low : goal.returns-then-too_low
unfolding sum_of_terms of_bits neg
returns-then-too_low c = rw c.if-too_low.true

pub returns-else-too_low : goal.returns-else-too_low
unfolding sum_of_terms of_bits neg
returns-else-too_low c = rw c.if-too_low.false
