-- `routing::search::Search::next_state` meets its contract.
use mathlib.Core.Bool.{true, false}
use lib.Ieee.{of_bits}
use Rattle.routing.proofs.Leaders.{pick-entries}
use Rattle.routing.proofs.search.Search.next_state.Goals as goal

pub returns-then-l : goal.returns-then-l
unfolding of_bits
returns-then-l c = λ n R.
    let S = rw (← c.self.view_is) at R in
    rw (← c.self.view_is) (pick-entries c.self.invariant n S.few S.rest _ c.lead_entries-l.ensures true c.if-l.true)

pub returns-else-l : goal.returns-else-l
unfolding of_bits
returns-else-l c = λ n R.
    let S = rw (← c.self.view_is) at R in
    rw (← c.self.view_is) (pick-entries c.self.invariant n S.few S.rest _ c.lead_entries-l.ensures false c.if-l.false)
