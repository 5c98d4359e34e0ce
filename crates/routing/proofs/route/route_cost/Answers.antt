-- `routing::route::route_cost` meets its contract.
use mathlib.Core.Path.{sym, ◌∙◌}
use Rattle.routing.proofs.Routes.{some-told, none-told, known-node, node-between, route-unknown-start, route-unknown-goal}
use Rattle.routing.proofs.route.route_cost.Goals as goal

pub returns-in_err-from : goal.returns-in_err-from
returns-in_err-from c = rw c.from_residual.ensures (route-unknown-start _ _ _ _ _ (none-told _ _ (sym c.known_node.ensures ∙ c.in_err-from.was)))

pub returns-in_err-to : goal.returns-in_err-to
returns-in_err-to c =
    rw c.from_residual-in_err-to.ensures
    (route-unknown-goal _ _ _ _ _ (some-told _ _ (sym c.known_node.ensures ∙ c.in_ok-from.was)).0 (none-told _ _ (sym c.known_node-2.ensures ∙ c.in_err-to.was)))

pub distance_between-requires-clause-start_bound : goal.distance_between-requires-clause-start_bound
distance_between-requires-clause-start_bound c =
    let from = some-told _ _ (sym c.known_node.ensures ∙ c.in_ok-from.was) in
    rw from.1 (known-node _ _ _ from.0)

pub returns : goal.returns
returns c =
    let from = some-told _ _ (sym c.known_node.ensures ∙ c.in_ok-from.was) in
    let to = some-told _ _ (sym c.known_node-2.ensures ∙ c.in_ok-to.was) in
    c.distance_between.ensures ∙ node-between _ _ _ _ _ from.0 to.0 from.1 to.1
