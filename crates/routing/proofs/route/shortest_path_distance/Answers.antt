-- `routing::route::shortest_path_distance` meets its contract.
use mathlib.Core.Path.{sym, ◌∙◌}
use Rattle.std.proofs.lemmas.Result.{err_from_is_err_and}
use Rattle.network.proofs.Accepted.{accepted-counts, accepted-relations, accepted-windows, accepted-sound}
use Rattle.routing.proofs.Routes.{distance-accepted, distance-refused}
use Rattle.routing.proofs.route.shortest_path_distance.Goals as goal

pub returns-in_err-check_network : goal.returns-in_err-check_network
returns-in_err-check_network c =
    let p = err_from_is_err_and c.from_residual.result c.from_residual.ensures.1 in
    rw (p.1, p.2) (distance-refused _ _ _ _ _ _ c.check_network.ensures _ c.in_err-check_network.was)

pub compile_network-requires-clause-relations_fit : goal.compile_network-requires-clause-relations_fit
compile_network-requires-clause-relations_fit c =
    let accepted = sym c.check_network.ensures ∙ c.in_ok-check_network.was in
    (accepted-relations _ accepted, accepted-windows _ accepted)

pub compile_network-requires-clause-lengths_bound : goal.compile_network-requires-clause-lengths_bound
compile_network-requires-clause-lengths_bound c = (accepted-counts _ (sym c.check_network.ensures ∙ c.in_ok-check_network.was)).elements

pub route_cost-requires : goal.route_cost-requires
route_cost-requires c = rw c.compile_network.ensures.value (accepted-sound _ _ (sym c.check_network.ensures ∙ c.in_ok-check_network.was))

pub returns : goal.returns
returns c = distance-accepted _ _ _ _ _ _ c.check_network.ensures c.in_ok-check_network.was c.compile_network.ensures.value c.route_cost.ensures
