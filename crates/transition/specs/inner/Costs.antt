-- Routes in one table of costs: a row for each start, in it an entry for each goal. Starts and goals are nodes.
use Rattle.std.specs.Prelude.{ℕ, ◌+◌, ◌*◌, false, cond, List, ltb, length, get_or, replicate, Float, Option}
use Rattle.std.proofs.lemmas.List.Edits.{sets}
use Rattle.std.specs.Float.{nan, inf}
use Rattle.lists.specs.Loops.{up_to}
use Rattle.network.specs.Graph.{Graph, element_count}
use Rattle.routing.specs.inner.Goals.{node_route, route_of, costs_by}
use Rattle.transition.specs.declared.routes.Routes.{Routes}

-- ---- entries

-- 1,024 entries, none a route. Shut, so that nothing computes them unasked
unfoldable pub no_routes : List Float
no_routes = replicate 1024 (inf false)

-- from start r to goal k of so many goals
unfoldable pub route_entry : List Float → ℕ → ℕ → ℕ → Option Float
route_entry found columns r k = route_of (get_or found (r * columns + k) nan)

-- from candidate j to candidate i, of which each has two starts, or two goals: its sides
unfoldable pub routes_at : List Float → ℕ → ℕ → ℕ → Routes
routes_at found columns j i =
    record {
      r00 = route_entry found columns (2 * j) (2 * i);
      r01 = route_entry found columns (2 * j) (2 * i + 1);
      r10 = route_entry found columns (2 * j + 1) (2 * i);
      r11 = route_entry found columns (2 * j + 1) (2 * i + 1);
    }

-- ---- what is filled in

-- the row of a start, from entry `at` on: what the route to each goal costs. A start that is no node of the graph is passed over
unfoldable pub row_filled : Graph → ℕ → List ℕ → ℕ → List Float → List Float
row_filled g start goals at found = cond (ltb start (2 * element_count g)) (sets found at (costs_by (node_route g start) goals)) found

-- the rows of the first n starts
unfoldable pub rows_filled : Graph → List ℕ → List ℕ → ℕ → List Float → List Float
rows_filled g starts goals n found = up_to n (λ r rows. row_filled g (get_or starts r 0) goals (r * length goals) rows) found
