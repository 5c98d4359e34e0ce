-- What the loop of `rows::sides::goal_nodes` keeps.
use mathlib.Core.Bool.{true}
use lib.ListN.{get_or}
use Rattle.rows.specs.inner.Sides.{SideNodes}
use Rattle.journal.specs.Row.{no_candidate}
use Rattle.journal.specs.inner.Fix.{candidates_in}
use Rattle.rows.proofs.sides.goal_nodes.Given as goal

abbrev pub invariant-loop-i : goal.invariant-loop-i
invariant-loop-i l = SideNodes l.i (λ _. true) (λ i. (get_or (candidates_in l.fix) i no_candidate).element) l.goals
