-- `routing::goals::is_reached` meets its contract.
use mathlib.Core.Path.{refl}
use lib.Ieee.{of_bits}
use Rattle.routing.proofs.goals.is_reached.Goals as goal

pub returns : goal.returns
unfolding of_bits
returns c = refl
