-- `network::check::heading_fits` meets its contract.
use lib.Ieee.{of_bits}
use Rattle.network.specs.Network.{heading_fits}
use Rattle.network.proofs.check.heading_fits.Goals as goal

pub returns : goal.returns
unfolding heading_fits of_bits
returns c = c.in_open_range.ensures
