-- `routing::search::no_costs` meets its contract.
use mathlib.Core.Path.{refl}
use lib.Ieee.{of_bits}
use Rattle.routing.specs.Search.{no_costs}
use Rattle.routing.proofs.search.no_costs.Goals as goal

pub returns : goal.returns
unfolding no_costs of_bits
returns c = refl
