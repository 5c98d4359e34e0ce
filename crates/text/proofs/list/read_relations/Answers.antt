-- `text::list::read_relations` meets its contract.
use native.Mathlib.Omega.{arith}
use Rattle.lists.proofs.Loops.{up_to-none, up_to-turn, up_to-done}
use Rattle.text.specs.inner.Lists.{read_relations}
use Rattle.text.proofs.list.read_relations.Goals as goal

pub loop-k-init : goal.loop-k-init
loop-k-init c = up_to-none _ _

pub loop-k-preserved : goal.loop-k-preserved
loop-k-preserved c = up_to-turn c.loop-k.k _ _ c.read_relation-cursor.ensures c.loop-k.invariant

pub returns : goal.returns
unfolding read_relations
returns c = up_to-done _ _ _ _ c.loop-k.invariant (omega arith)
