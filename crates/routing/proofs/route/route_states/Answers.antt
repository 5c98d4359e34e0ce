-- `routing::route::route_states` meets its contract.
use mathlib.Core.Path.{refl, sym, ◌∙◌}
use Rattle.routing.specs.Route.{states_stored}
use Rattle.routing.proofs.Routes.{some-told, none-told, known-node, listing-between, stored-between, unlisted-start, unlisted-goal}
use Rattle.routing.proofs.route.route_states.Goals as goal

pub states_between-requires-clause-start_bound : goal.states_between-requires-clause-start_bound
states_between-requires-clause-start_bound c =
    let from = some-told _ _ (sym c.known_node.ensures ∙ c.in-Some-Some.is-0) in
    rw from.1 (known-node _ _ _ from.0)

pub returns-in-Some-Some-clause-value : goal.returns-in-Some-Some-clause-value
returns-in-Some-Some-clause-value c =
    let from = some-told _ _ (sym c.known_node.ensures ∙ c.in-Some-Some.is-0) in
    let to = some-told _ _ (sym c.known_node-2.ensures ∙ c.in-Some-Some.is-1) in
    listing-between _ _ _ _ _ from.0 to.0 from.1 to.1 _ _ c.states_between.ensures.value

pub returns-in-Some-Some-clause-states_after : goal.returns-in-Some-Some-clause-states_after
returns-in-Some-Some-clause-states_after c =
    let from = some-told _ _ (sym c.known_node.ensures ∙ c.in-Some-Some.is-0) in
    let to = some-told _ _ (sym c.known_node-2.ensures ∙ c.in-Some-Some.is-1) in
    stored-between _ _ _ _ _ from.0 to.0 from.1 to.1 0 _ _ c.states_between.ensures.states_after

pub returns-in_default-clause-value : goal.returns-in_default-clause-value
returns-in_default-clause-value c =
    unlisted-goal _ _ _ _ _ _ _ (some-told _ _ (sym c.known_node.ensures ∙ c.in_default.is-0)).0 (none-told _ _ (sym c.known_node-2.ensures ∙ c.in_default.is-1))

pub returns-in_default-clause-states_after : goal.returns-in_default-clause-states_after
unfolding states_stored
returns-in_default-clause-states_after c = refl

pub returns-in_default-2-clause-value : goal.returns-in_default-2-clause-value
returns-in_default-2-clause-value c = unlisted-start _ _ _ _ _ _ _ (none-told _ _ (sym c.known_node.ensures ∙ c.in_default.is-0))

pub returns-in_default-2-clause-states_after : goal.returns-in_default-2-clause-states_after
unfolding states_stored
returns-in_default-2-clause-states_after c = refl
