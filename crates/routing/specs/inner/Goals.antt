-- Routes between nodes: from one to another, and from one to several goals.
use Rattle.std.specs.Prelude.{ℕ, ◌<◌, ◌*◌, ◌/◌, ◌%◌, ◌≡◌, true, false, cond, List, map, Option, Some, None, Result, eqb, length, get_or, drop, Float}
use Rattle.std.specs.Float.{nan, inf}
use Rattle.std.specs.Float.Ieee.{lt}
use Rattle.network.specs.Graph.{Graph, element_count}
use Rattle.routing.specs.Search.{searched}
use Rattle.routing.specs.Route.{cost_of_end, route, states_of_end, route_fitted}
use Rattle.refusals.specs.declared.Refusal.{Refusal}
use Rattle.routing.specs.declared.route.ListedRoute.{ListedRoute}

-- a goal that has been reached has a cost below infinity
unfoldable pub route_of : Float → Option Float
route_of c = cond (lt c (inf false)) (Some c) None

-- what a route costs: infinity where there is none
unfoldable pub cost_of_route : Option Float → Float
cost_of_route (Some c) = c
cost_of_route None = inf false

-- what the route to each goal costs
abbrev pub costs_by : (ℕ → Option Float) → List ℕ → List Float
costs_by route goals = map (λ u. cost_of_route (route u)) goals

-- what a goal has, once a state of node v is picked at a cost: the first cost counts
unfoldable pub noted : ℕ → Float → ℕ → Float → Float
noted v cost goal known = cond (lt known (inf false)) known (cond (eqb goal v) cost known)

-- so for each goal, and past the goals nothing changes; `waiting` is 0 only if all have been reached
pub record Noted (goals : List ℕ) (v : ℕ) (cost : Float) (found found' : List Float) (waiting : ℕ) : Type 0 where
  pub each : (k : ℕ) → k < length goals → get_or found' k nan ≡ noted v cost (get_or goals k 0) (get_or found k nan)
  pub reached : waiting ≡ 0 → (k : ℕ) → k < length goals → lt (get_or found' k nan) (inf false) ≡ true
  pub past : drop (length goals) found' ≡ drop (length goals) found

-- the route between two nodes
abbrev pub node_route : Graph → ℕ → ℕ → Option Float
node_route g v u = route g (v / 2) (v % 2) (u / 2) (u % 2)

-- what the search between two nodes lists, into a buffer of so much room
abbrev pub end_answer : Graph → ℕ → ℕ → ℕ → Result (Option ListedRoute) Refusal
end_answer g from goal room =
    route_fitted (cost_of_end (searched g from goal)) (length (states_of_end (2 * from) (4 * element_count g) (searched g from goal))) room
