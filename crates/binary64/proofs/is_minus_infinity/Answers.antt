-- `binary64::is_minus_infinity` meets its contract.
use Rattle.binary64.proofs.Ranges.{minus-infinity-eq}
use Rattle.binary64.proofs.is_minus_infinity.Goals as goal

pub returns : goal.returns
returns c = rw c.minus_infinity.ensures (minus-infinity-eq _)
