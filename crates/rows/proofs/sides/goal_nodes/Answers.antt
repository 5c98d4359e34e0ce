-- `rows::sides::goal_nodes` meets its contract.
use mathlib.Core.Bool.{true}
use native.Mathlib.Omega.{arith}
use lib.ListN.{get_or}
use Rattle.journal.specs.Row.{no_candidate}
use Rattle.journal.specs.inner.Fix.{candidates_in}
use Rattle.journal.proofs.Gathered.{count-in}
use Rattle.rows.proofs.Nodes.{nodes-none, nodes-turn, nodes-done}
use Rattle.rows.proofs.sides.goal_nodes.Goals as goal

pub loop-i-init : goal.loop-i-init
loop-i-init c = nodes-none _ _ _

pub put_nodes-requires : goal.put_nodes-requires
put_nodes-requires c = omega (arith, c.requires.cs_in_bounds, count-in _ c.requires.entries16)

pub loop-i-preserved : goal.loop-i-preserved
loop-i-preserved c =
    nodes-turn (λ _. true) (λ i. (get_or (candidates_in c.args.fix) i no_candidate).element) c.loop-i.invariant
    (omega (arith, c.requires.cs_in_bounds, count-in _ c.requires.entries16)) (rw (← c.own_candidate-b.ensures) c.put_nodes.ensures)

pub returns : goal.returns
returns c = nodes-done _ _ c.loop-i.invariant (omega (arith, count-in _ c.requires.entries16))
