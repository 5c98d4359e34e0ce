-- `transition::pair::distance_term` meets its contract.
use lib.Ieee.{of_bits}
use Rattle.transition.specs.Pair.{distance_term}
use Rattle.transition.proofs.pair.distance_term.Goals as goal

pub returns-then-gap : goal.returns-then-gap
unfolding distance_term of_bits
returns-then-gap c = rw (c.if-beta.true, c.if-gap.true)

pub returns-else-gap : goal.returns-else-gap
unfolding distance_term of_bits
returns-else-gap c = rw (c.if-beta.true, c.if-gap.false)

pub returns-else-beta : goal.returns-else-beta
unfolding distance_term of_bits
returns-else-beta c = rw c.if-beta.false
