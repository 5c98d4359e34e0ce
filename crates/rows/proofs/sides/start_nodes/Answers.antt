-- `rows::sides::start_nodes` meets its contract.
use native.Mathlib.Omega.{arith}
use Rattle.rows.proofs.Records.{stands_at}
use Rattle.rows.proofs.Nodes.{nodes-none, nodes-turn, nodes-done}
use Rattle.rows.proofs.sides.start_nodes.Goals as goal

pub loop-j-init : goal.loop-j-init
loop-j-init c = nodes-none _ _ _

pub put_start-requires-clause-candidate_stands : goal.put_start-requires-clause-candidate_stands
put_start-requires-clause-candidate_stands c = stands_at _ _ _ c.requires.record_stands c.loop-j-test.true

pub loop-j-preserved : goal.loop-j-preserved
loop-j-preserved c = nodes-turn _ _ c.loop-j.invariant (omega arith) c.put_start.ensures

pub returns : goal.returns
returns c = nodes-done _ _ c.loop-j.invariant (omega arith)
