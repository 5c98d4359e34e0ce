-- `routing::search::Search::lower` meets its contract.
use Rattle.binary64.proofs.Order.{taken}
use Rattle.routing.specs.Search.{lower_cost}
use Rattle.routing.proofs.search.Search.lower.Goals as goal

pub lower_cost-requires : goal.lower_cost-requires
lower_cost-requires c =
    record {
      i_bound = c.requires.1;
      led = c.self.invariant;
      less = taken c.if-cost-self.true;
    }

pub returns-then-cost-self : goal.returns-then-cost-self
unfolding lower_cost
returns-then-cost-self c = rw (c.lower_cost.ensures.lowered, ← c.self.view_is, c.if-cost-self.true)

pub returns-else-cost-self : goal.returns-else-cost-self
unfolding lower_cost
returns-else-cost-self c = rw (← c.self.view_is, c.if-cost-self.false)
