-- `binary64::infinity` meets its contract.
use mathlib.Core.Path.{refl}
use lib.Ieee.{of_bits}
use Rattle.binary64.proofs.infinity.Goals as goal

pub returns : goal.returns
unfolding of_bits
returns c = refl
