-- What the loop of `routing::search::Search::find` keeps.
use mathlib.Core.Path.{◌≡◌}
use Prim.Native.Nat.{◌*◌}
use lib.ListN.{length}
use Rattle.network.specs.inner.Compiled.{graph_in}
use Rattle.routing.specs.Search.{search_in}
use Rattle.routing.specs.inner.Search.{ReachedBelow, unsettled}
use Rattle.routing.proofs.search.Search.find.Given as goal

-- what is left to run from here is what was to run
abbrev pub invariant-loop-s : goal.invariant-loop-s
invariant-loop-s l = ReachedBelow (4 * length l.graph.lengths) l.self
    × (search_in (graph_in l.graph) l.goal (unsettled l.self.marks (4 * length l.graph.lengths)) l.self
    ≡ search_in (graph_in l.graph) l.goal (unsettled l.initial.self.marks (4 * length l.graph.lengths)) l.initial.self)

abbrev pub decreases-loop-s : goal.decreases-loop-s
decreases-loop-s l = unsettled l.self.marks (4 * length l.graph.lengths)
