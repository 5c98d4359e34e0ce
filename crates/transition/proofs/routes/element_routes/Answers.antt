-- `transition::routes::element_routes` meets its contract.
use mathlib.Core.Path.{◌∙◌}
use native.Mathlib.Omega.{arith}
use Rattle.transition.proofs.Held.{element-held, start-unknown, goal-unknown}
use Rattle.transition.proofs.routes.element_routes.Goals as goal
use Rattle.transition.proofs.routes.element_routes.Goals.{then-graph-leaving-via-then-graph-leaving, then-graph-leaving-via-else-graph-leaving+then-graph-entering}

pub returns-then-graph-leaving : goal.returns-then-graph-leaving
returns-then-graph-leaving c = c.unreachable.ensures ∙ elim c.then-graph-leaving.branch [
  | then-graph-leaving-via-then-graph-leaving w ↦ start-unknown _ _ _ (rw (← c.graph.view_is) w.if-graph-leaving.true)
  | then-graph-leaving-via-else-graph-leaving+then-graph-entering w ↦ goal-unknown _ _ _ (rw (← c.graph.view_is) w.if-graph-leaving.false) (rw (← c.graph.view_is) w.if-graph-entering.true)
]

pub returns : goal.returns
returns c = c.routes_at.ensures ∙ element-held _ _ _ (rw (← c.graph.view_is) c.if-graph-leaving.false) (rw (← c.graph.view_is) c.if-graph-entering.false) _ _ c.fill_routes.ensures (omega arith)
