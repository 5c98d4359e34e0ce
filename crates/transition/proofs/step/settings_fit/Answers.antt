-- `transition::step::settings_fit` meets its contract.
use lib.Ieee.{of_bits}
use Rattle.transition.specs.Settings.{settings_fit}
use Rattle.transition.proofs.step.settings_fit.Goals as goal

pub returns-then-beta_fits : goal.returns-then-beta_fits
unfolding settings_fit of_bits
returns-then-beta_fits c = rw (← c.beta_fits.ensures, c.if-beta_fits.true) c.in_range.ensures
