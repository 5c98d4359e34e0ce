-- `transition::step::beta_fits` meets its contract.
use lib.Ieee.{of_bits}
use Rattle.transition.specs.Settings.{beta_fits}
use Rattle.transition.proofs.step.beta_fits.Goals as goal

pub returns-else-beta : goal.returns-else-beta
unfolding beta_fits of_bits
returns-else-beta c = rw c.if-beta.false c.in_range.ensures
