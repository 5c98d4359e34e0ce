-- `routing::route::distance_between` meets its contract.
use mathlib.Core.Path.{ap, ◌∙◌}
use mathlib.Core.List.{List}
use Prim.Native.Nat.{◌/◌, ◌%◌}
use native.Mathlib.Omega.{arith}
use lib.ListN.{get_or}
use lib.Ieee.{Float, nan}
use Rattle.routing.specs.inner.Goals.{route_of}
use Rattle.routing.proofs.Routes.{cost-told}
use Rattle.routing.proofs.route.distance_between.Goals as goal

pub distances_from-requires : goal.distances_from-requires
distances_from-requires c =
    record {
      sound_graph = c.requires.sound_graph;
      start_bound = c.requires.start_bound;
      goals_in_bounds = omega arith;
    }

pub returns : goal.returns
returns c = c.route_of.ensures ∙ ap (λ (found : List Float). route_of (get_or found 0 nan)) c.distances_from.ensures ∙ cost-told _ (c.args.start / 2) (c.args.start % 2) (c.args.goal / 2) (c.args.goal % 2)
