-- `rows::offers::floored_log` meets its contract.
use lib.Ieee.{of_bits}
use Rattle.rows.proofs.offers.floored_log.Goals as goal

pub returns-then-raw_log : goal.returns-then-raw_log
unfolding of_bits
returns-then-raw_log c = rw c.if-raw_log.true

pub returns-else-raw_log : goal.returns-else-raw_log
unfolding of_bits
returns-else-raw_log c = rw c.if-raw_log.false
