-- `transition::costs::fill_row` meets its contract.
use lib.ListN.{length}
use Rattle.transition.proofs.Held.{part_length, row-filled, row-passed}
use Rattle.transition.proofs.costs.fill_row.Goals as goal

pub distances_from-requires-clause-start_bound : goal.distances_from-requires-clause-start_bound
distances_from-requires-clause-start_bound c = rw (← c.graph.view_is) c.if-start-graph.true

pub returns-then-start-graph : goal.returns-then-start-graph
returns-then-start-graph c = let long = part_length c.args.found.now c.args.at (length c.args.goals.now) c.requires.goals_in_bounds in
    row-filled _ c.args.start c.args.goals.now c.args.at c.args.found.now _ _ c.requires.goals_in_bounds long (rw (← c.graph.view_is) c.if-start-graph.true) c.distances_from.ensures

pub returns-else-start-graph : goal.returns-else-start-graph
returns-else-start-graph c = row-passed _ _ _ _ _ (rw (← c.graph.view_is) c.if-start-graph.false)
