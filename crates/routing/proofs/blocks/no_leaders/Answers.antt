-- `routing::blocks::no_leaders` meets its contract.
use mathlib.Core.Path.{refl}
use lib.Ieee.{of_bits}
use Rattle.routing.specs.inner.Blocks.{no_leaders}
use Rattle.routing.proofs.blocks.no_leaders.Goals as goal

pub returns : goal.returns
unfolding no_leaders of_bits
returns c = refl
