-- `text::float::read_bits` meets its contract.
use Rattle.std.proofs.Common.{Some, ap, ◌∙◌, arith}
use Rattle.journal.proofs.Stores.{take_rest}
use Rattle.text.proofs.Floats.{bits-short, bits-front-bad, bits-back-bad, bits-good}
use Rattle.text.proofs.float.read_bits.Goals as goal

pub returns-then-word-ne16 : goal.returns-then-word-ne16
returns-then-word-ne16 c = bits-short _ c.if-word-ne16.true

pub returns-in_err-high : goal.returns-in_err-high
returns-in_err-high c = rw c.from_residual.ensures (bits-front-bad _ (omega arith) c.in_err-high.ensures.value)

pub returns-in_err-low : goal.returns-in_err-low
returns-in_err-low c = rw c.from_residual-in_err-low.ensures (bits-back-bad _ (omega arith) (rw take_rest at c.in_err-low.ensures.value))

pub returns : goal.returns
returns c = ap Some c.float_at.ensures ∙ bits-good _ (omega arith) _ _ c.in_ok-high.ensures.value (rw take_rest at c.in_ok-low.ensures.value)
