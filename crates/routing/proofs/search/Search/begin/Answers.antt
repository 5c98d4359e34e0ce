-- `routing::search::Search::begin` meets its contract.
use mathlib.Core.Path.{ap, refl, ◌∙◌}
use native.Mathlib.Omega.{arith}
use lib.Ieee.{of_bits}
use Rattle.routing.specs.Search.{Search, begun}
use Rattle.routing.proofs.Leaders.{none-lowered}
use Rattle.routing.proofs.search.Search.begin.Goals as goal

pub lower_cost-requires-clause-less : goal.lower_cost-requires-clause-less
unfolding of_bits
lower_cost-requires-clause-less c = rw (ap (λ (q : Search). q.tables.costs) (c.self.view_is ∙ c.requires.blank)) (none-lowered _ (omega (arith, c.requires.start_bound)))

pub returns : goal.returns
unfolding begun of_bits
returns c =
    rw (c.lower_cost.ensures.lowered, ap (λ (q : Search). q.tables.costs) (c.self.view_is ∙ c.requires.blank), ap (λ (q : Search). q.marks) (c.self.view_is ∙ c.requires.blank), ap (λ (q : Search). q.tables.preds) (c.self.view_is ∙ c.requires.blank)) refl
