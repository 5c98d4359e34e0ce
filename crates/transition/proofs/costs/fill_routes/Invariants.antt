-- What the loop of `transition::costs::fill_routes` keeps.
use mathlib.Core.Path.{◌≡◌}
use Rattle.network.specs.inner.Compiled.{graph_in}
use Rattle.transition.specs.inner.Costs.{rows_filled}
use Rattle.transition.proofs.costs.fill_routes.Given as goal

abbrev pub invariant-loop-r : goal.invariant-loop-r
invariant-loop-r l = l.found ≡ rows_filled (graph_in l.graph) l.starts l.goals l.r l.initial.found
