-- `routing::blocks::state_leader` meets its contract.
use lib.Ieee.{of_bits}
use Rattle.routing.specs.inner.Blocks.{key_of, state_leader}
use Rattle.routing.proofs.blocks.state_leader.Goals as goal

pub returns-then-marks-i : goal.returns-then-marks-i
unfolding key_of state_leader of_bits
returns-then-marks-i c = rw c.if-marks-i.true

pub returns-else-marks-i : goal.returns-else-marks-i
unfolding key_of state_leader
returns-else-marks-i c = rw c.if-marks-i.false
