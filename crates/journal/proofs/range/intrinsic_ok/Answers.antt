-- `journal::range::intrinsic_ok` meets its contract.
use lib.Ieee.{of_bits}
use Rattle.journal.specs.Ranges.{intrinsic_ok}
use Rattle.journal.proofs.range.intrinsic_ok.Goals as goal

pub returns : goal.returns
unfolding intrinsic_ok of_bits
returns c = c.in_clear_range.ensures
