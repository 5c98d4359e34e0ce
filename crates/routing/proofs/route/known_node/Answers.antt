-- `routing::route::known_node` meets its contract.
use mathlib.Core.Path.{ap}
use borrow.Author.Tests.{lt-ltb, le-ltb}
use Rattle.network.specs.inner.Compiled.{Compiled}
use Rattle.routing.specs.Route.{known_side}
use Rattle.routing.proofs.route.known_node.Goals.{else-s-graph-via-then-s-graph+else-s-lt2, else-s-graph-via-else-s-graph}
use Rattle.routing.proofs.route.known_node.Goals as goal

pub returns-then-s-lt2 : goal.returns-then-s-lt2
unfolding known_side
returns-then-s-lt2 c = rw (c.node_of.ensures, ← ap (λ (g : Compiled). g.lengths) c.graph.view_is, lt-ltb _ _ c.if-s-graph.true, lt-ltb _ _ c.if-s-lt2.true)

pub returns-else-s-graph : goal.returns-else-s-graph
unfolding known_side
returns-else-s-graph c =
    rw (← ap (λ (g : Compiled). g.lengths) c.graph.view_is)
    (elim c.else-s-graph.branch [
      | else-s-graph-via-then-s-graph+else-s-lt2 w ↦ rw (lt-ltb _ _ w.if-s-graph.true, le-ltb _ _ w.if-s-lt2.false)
      | else-s-graph-via-else-s-graph w ↦ rw (le-ltb _ _ w.if-s-graph.false)
    ])
