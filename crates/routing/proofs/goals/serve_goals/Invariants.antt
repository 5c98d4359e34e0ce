-- What the loop of `routing::goals::serve_goals` keeps.
use mathlib.Core.Path.{◌≡◌}
use mathlib.Core.Bool.{true, false}
use Prim.Native.Nat.{ℕ, ◌*◌, ◌<◌}
use lib.ListN.{length, get_or, drop}
use lib.Ieee.{nan, inf, lt}
use Rattle.network.specs.inner.Compiled.{graph_in}
use Rattle.routing.specs.Search.{search_in}
use Rattle.routing.specs.inner.Search.{ReachedBelow, unsettled}
use Rattle.routing.proofs.Served.{Served}
use Rattle.routing.proofs.goals.serve_goals.Given as goal

abbrev pub invariant-loop-waiting : goal.invariant-loop-waiting
invariant-loop-waiting l = ReachedBelow (4 * length l.graph.lengths) l.search
    × (length l.found ≡ length l.initial.found)
    × ((k : ℕ) → k < length l.goals →
    Served (graph_in l.graph) (get_or l.goals k 0)
    (search_in (graph_in l.graph) (get_or l.goals k 0) (unsettled l.initial.search.marks (4 * length l.graph.lengths)) l.initial.search)
    l.search (get_or l.found k nan))
    × (l.waiting ≡ 0 → (k : ℕ) → k < length l.goals → lt (get_or l.found k nan) (inf false) ≡ true)
    × (drop (length l.goals) l.found ≡ drop (length l.goals) l.initial.found)

abbrev pub decreases-loop-waiting : goal.decreases-loop-waiting
decreases-loop-waiting l = unsettled l.search.marks (4 * length l.graph.lengths)
