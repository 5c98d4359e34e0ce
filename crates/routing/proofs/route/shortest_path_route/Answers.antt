-- `routing::route::shortest_path_route` meets its contract.
use mathlib.Core.Path.{sym, ◌∙◌}
use Rattle.std.proofs.lemmas.Result.{err_from_is_err_and}
use Rattle.network.proofs.Accepted.{accepted-counts, accepted-relations, accepted-windows, accepted-sound}
use Rattle.routing.specs.Route.{states_stored}
use Rattle.routing.proofs.Routes.{listing-accepted, listing-refused, stored-graph}
use Rattle.routing.proofs.route.shortest_path_route.Goals as goal

pub returns-in_err-check_network-clause-value : goal.returns-in_err-check_network-clause-value
returns-in_err-check_network-clause-value c =
    let p = err_from_is_err_and c.from_residual.result c.from_residual.ensures.1 in
    rw (p.1, p.2) (listing-refused _ _ _ _ _ _ c.check_network.ensures _ _ c.in_err-check_network.was)

pub returns-in_err-check_network-clause-states_after : goal.returns-in_err-check_network-clause-states_after
unfolding states_stored
returns-in_err-check_network-clause-states_after c =
    let p = err_from_is_err_and c.from_residual.result c.from_residual.ensures.1 in
    rw p.1

pub compile_network-requires-clause-relations_fit : goal.compile_network-requires-clause-relations_fit
compile_network-requires-clause-relations_fit c =
    let accepted = sym c.check_network.ensures ∙ c.in_ok-check_network.was in
    (accepted-relations _ accepted, accepted-windows _ accepted)

pub compile_network-requires-clause-lengths_bound : goal.compile_network-requires-clause-lengths_bound
compile_network-requires-clause-lengths_bound c = (accepted-counts _ (sym c.check_network.ensures ∙ c.in_ok-check_network.was)).elements

pub route_states-requires : goal.route_states-requires
route_states-requires c = rw c.compile_network.ensures.value (accepted-sound _ _ (sym c.check_network.ensures ∙ c.in_ok-check_network.was))

pub returns-clause-value : goal.returns-clause-value
returns-clause-value c =
    listing-accepted _ _ _ _ _ _ c.check_network.ensures _ c.in_ok-check_network.was c.compile_network.ensures.value c.route_states.ensures.value

pub returns-clause-states_after : goal.returns-clause-states_after
returns-clause-states_after c = stored-graph c.compile_network.ensures.value _ _ _ _ _ _ c.route_states.ensures.states_after
