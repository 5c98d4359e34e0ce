-- `transition::pair::directional_heading_difference` meets its contract.
use lib.Ieee.{of_bits}
use Rattle.transition.specs.Pair.{folded, directional_heading_difference}
use Rattle.transition.proofs.Differences.{abs_magnitude, magnitude-twice}
use Rattle.transition.proofs.pair.directional_heading_difference.Goals as goal

pub within_full_turn-difference-requires : goal.within_full_turn-difference-requires
within_full_turn-difference-requires c = rw (c.abs.ensures.value, abs_magnitude) (magnitude-twice _)

pub returns-then-difference : goal.returns-then-difference
unfolding directional_heading_difference folded of_bits
returns-then-difference c = rw (← abs_magnitude, ← c.abs.ensures.value, ← c.within_full_turn-difference.ensures, c.if-difference.true)

pub returns-else-difference : goal.returns-else-difference
unfolding directional_heading_difference folded of_bits
returns-else-difference c = rw (← abs_magnitude, ← c.abs.ensures.value, ← c.within_full_turn-difference.ensures, c.if-difference.false)
