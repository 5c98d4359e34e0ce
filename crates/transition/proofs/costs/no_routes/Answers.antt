-- `transition::costs::no_routes` meets its contract.
use mathlib.Core.Path.{refl}
use lib.Ieee.{of_bits}
use Rattle.transition.specs.inner.Costs.{no_routes}
use Rattle.transition.proofs.costs.no_routes.Goals as goal

pub returns : goal.returns
unfolding no_routes of_bits
returns c = refl
