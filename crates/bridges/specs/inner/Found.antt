-- The struct that holds the elements found, and the buffers that the code begins with.
use Rattle.std.specs.Prelude.{ℕ, ◌-◌, List, ◌++◌, length, replicate}
use Rattle.network.specs.Graph.{Graph}
use Rattle.routing.specs.Route.{route}
use Rattle.transition.specs.Routes.{routes_by}
use Rattle.bridges.specs.Bridges.{cheapest_of, between_sides}
use Rattle.bridges.specs.declared.insert.Bridges.{Bridges}

-- 4,096 states and 1,024 elements of 0. Shut, so that nothing computes their cells unasked
unfoldable pub no_states : List ℕ
no_states = replicate 4096 0

unfoldable pub no_elements : List ℕ
no_elements = replicate 1024 0

-- the elements, and 0 past them
unfoldable pub bridges_of : List ℕ → Bridges
bridges_of l = record { count = length l; elements = l ++ replicate (1024 - length l) 0 }

-- the elements between two, by a graph alone
abbrev pub between_in : Graph → ℕ → ℕ → List ℕ
between_in g previous next = between_sides g previous next (cheapest_of (routes_by (λ side side'. route g previous side next side')))
