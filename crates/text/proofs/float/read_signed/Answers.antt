-- `text::float::read_signed` meets its contract.
use Rattle.text.proofs.Bytes.{same_told}
use Rattle.text.proofs.Floats.{signed-infinite, signed-minus, signed-plus}
use Rattle.text.proofs.float.read_signed.Goals as goal

pub returns-then-eq : goal.returns-then-eq
returns-then-eq c = signed-infinite _ _ (same_told _ _ _ c.eq.ensures c.as_slice.ensures c.if-eq.true) c.minus_infinity.ensures

pub returns-in-Some : goal.returns-in-Some
returns-in-Some c = let h = c.in-Some.ensures.cases in signed-minus _ (same_told _ _ _ c.eq.ensures c.as_slice.ensures c.if-eq.false) _ _ h.0 h.1 c.read_decimal.ensures

pub returns-in-None : goal.returns-in-None
returns-in-None c = signed-plus _ (same_told _ _ _ c.eq.ensures c.as_slice.ensures c.if-eq.false) _ c.in-None.ensures.cases c.read_decimal-in-None.ensures
