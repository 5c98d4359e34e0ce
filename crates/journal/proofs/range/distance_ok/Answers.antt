-- `journal::range::distance_ok` meets its contract.
use lib.Ieee.{of_bits}
use Rattle.journal.specs.Ranges.{distance_ok}
use Rattle.journal.proofs.range.distance_ok.Goals as goal

pub returns : goal.returns
unfolding distance_ok of_bits
returns c = c.in_range.ensures
