-- `text::list::read_elements` meets its contract.
use native.Mathlib.Omega.{arith}
use Rattle.lists.proofs.Loops.{up_to-none, up_to-turn, up_to-done}
use Rattle.text.specs.inner.Lists.{read_elements}
use Rattle.text.proofs.list.read_elements.Goals as goal

pub loop-k-init : goal.loop-k-init
loop-k-init c = up_to-none _ _

pub loop-k-preserved : goal.loop-k-preserved
loop-k-preserved c = up_to-turn c.loop-k.k _ _ c.read_element-cursor.ensures c.loop-k.invariant

pub returns : goal.returns
unfolding read_elements
returns c = up_to-done _ _ _ _ c.loop-k.invariant (omega arith)
