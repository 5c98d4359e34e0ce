-- `bridges::insert::no_bridges` meets its contract.
use Rattle.bridges.specs.inner.Found.{no_elements}
use Rattle.bridges.proofs.Found.{found_none}
use Rattle.bridges.proofs.insert.no_bridges.Goals as goal

pub returns : goal.returns
unfolding no_elements
returns c = found_none
