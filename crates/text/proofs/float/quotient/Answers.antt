-- `text::float::quotient` meets its contract.
use lib.Ieee.{neg}
use mathlib.Core.Path.{ap}
use Rattle.binary64.proofs.Sum.{round-neg}
use native.Mathlib.Omega.{arith}
use Rattle.text.proofs.Floats.{ten-exact, divided, whole-counts}
use Rattle.text.proofs.float.quotient.Goals as goal

pub int_to_float-q : goal.int_to_float-q
int_to_float-q c = whole-counts _ (omega arith)

pub int_to_float-q-2 : goal.int_to_float-q-2
int_to_float-q-2 c = whole-counts _ (ten-exact c.args.k _ (omega arith) c.pow.ensures)

pub returns-then-negative : goal.returns-then-negative
returns-then-negative c = rw (c.if-negative.true, round-neg) (ap neg (divided _ _ _ c.requires.0 c.requires.1 c.pow.ensures))

pub returns-else-negative : goal.returns-else-negative
returns-else-negative c = rw c.if-negative.false (divided _ _ _ c.requires.0 c.requires.1 c.pow.ensures)
