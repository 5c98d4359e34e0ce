-- `bridges::insert::bridges_between` meets its contract.
use mathlib.Core.Path.{ap, ◌∙◌}
use Rattle.bridges.specs.Bridges.{cheapest_of}
use Rattle.bridges.proofs.Between.{between_none, between-near, between-far}
use Rattle.bridges.proofs.insert.bridges_between.Goals as goal

pub returns-then-best : goal.returns-then-best
returns-then-best c =
    let told = c.cheapest_sides.ensures ∙ ap cheapest_of c.element_routes.ensures in
    between-near _ _ _ told _ c.in-Some.is c.if-best.true c.no_bridges.ensures

pub returns-else-best : goal.returns-else-best
returns-else-best c =
    let told = c.cheapest_sides.ensures ∙ ap cheapest_of c.element_routes.ensures in
    between-far _ _ _ told _ c.in-Some.is c.if-best.false c.trace_intermediate_netelements.ensures

pub returns-in-None : goal.returns-in-None
returns-in-None c =
    let told = c.cheapest_sides.ensures ∙ ap cheapest_of c.element_routes.ensures in
    between_none _ _ _ told c.in-None.is c.no_bridges-in-None.ensures
