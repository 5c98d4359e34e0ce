-- What routes, rows, paths and segments were without possession windows (document 02, K4): by the relations as they were handed over, at no minute.
-- `proofs/WithoutWindows.antt` proves that they still are where no relation has a window, whatever the minutes.
use Rattle.std.specs.Prelude.{ℕ, ◌≡◌, List, [], ◌∷◌, ◌++◌, map}
use Rattle.network.specs.Network.{Network, checked}
use Rattle.network.specs.Graph.{Graph, graph_of, graph}
use Rattle.network.specs.Triple.{consistent}
use Rattle.routing.specs.Route.{route, route_states, distance_by}
use Rattle.journal.specs.Row.{Fix, Row}
use Rattle.transition.specs.Track.{Track}
use Rattle.transition.specs.Routes.{routes_by}
use Rattle.transition.specs.Step.{step_on, transition}
use Rattle.transition.specs.declared.step.Settings.{Settings}
use Rattle.rows.specs.Row.{StepsAt, rows}
use Rattle.bridges.specs.Bridges.{cheapest_of, between_sides, known_route}
use Rattle.decoder.specs.Closing.{closing}
use Rattle.groups.specs.declared.group.NetelementGroup.{NetelementGroup}
use Rattle.groups.specs.Groups.{groups_closed}
use Rattle.segments.specs.declared.segment.Segment.{Segment}
use Rattle.segments.specs.Build.{segment_of, bridge, path_segments}

-- ---- minutes left out

abbrev pub timeless_fix : Fix → Fix
timeless_fix f = record { minute = 0; candidates = f.candidates; distances = f.distances }

abbrev pub timeless_row : Row → Row
timeless_row r = record { minute = 0; cells = r.cells; before = r.before; distances = r.distances }

-- ---- as it was

abbrev pub plain_graph : Network → Graph
plain_graph net = graph_of net.lengths net.relations

abbrev pub plain_track : Network → Track
plain_track net = record { graph = plain_graph net; headings = net.headings; flags = net.flags }

abbrev pub plain_steps : Network → Settings → StepsAt
plain_steps net settings minute = step_on (plain_track net) settings

abbrev pub plain_between : Network → ℕ → ℕ → List ℕ
plain_between net previous next =
    between_sides (plain_graph net) previous next
    (cheapest_of (routes_by (λ side side'. known_route (distance_by (checked net) (route (plain_graph net) previous side next side')))))

unfoldable pub plain_built : Network → List NetelementGroup → List Segment
plain_built net [] = []
plain_built net (g ∷ []) = segment_of g ∷ []
plain_built net (g ∷ h ∷ gs) = segment_of g ∷ map (bridge g.last_row) (plain_between net g.element h.element) ++ plain_built net (h ∷ gs)

abbrev pub plain_segments : Network → List Row → List Segment
plain_segments net rs = plain_built net (groups_closed rs (closing rs))

-- ---- the promise: at whatever minutes, what the same fixes gave

pub record AsBefore (net : Network) : Type 0 where
  pub route-cost : (minute element side element' side' : ℕ) → route (graph net minute) element side element' side' ≡ route (plain_graph net) element side element' side'
  pub route-states : (minute element side element' side' : ℕ) → route_states (graph net minute) element side element' side' ≡ route_states (plain_graph net) element side element' side'
  pub triple : (minute a b c : ℕ) → consistent (graph net minute).links a b c ≡ consistent (plain_graph net).links a b c
  pub fixes-rows : (settings : Settings) (fs : List Fix) → map timeless_row (rows (transition net settings) fs) ≡ rows (plain_steps net settings) (map timeless_fix fs)
  pub best-path : (settings : Settings) (fs : List Fix) → closing (rows (transition net settings) fs) ≡ closing (rows (plain_steps net settings) (map timeless_fix fs))
  pub segments : (settings : Settings) (fs : List Fix) →
      path_segments net (rows (transition net settings) fs) ≡ plain_segments net (rows (plain_steps net settings) (map timeless_fix fs))
