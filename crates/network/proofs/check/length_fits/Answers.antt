-- `network::check::length_fits` meets its contract.
use lib.Ieee.{of_bits}
use Rattle.network.specs.Network.{length_fits}
use Rattle.network.proofs.check.length_fits.Goals as goal

pub returns : goal.returns
unfolding length_fits of_bits
returns c = c.in_clear_range.ensures
