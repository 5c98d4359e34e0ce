-- `routing::search::Search::settle` meets its contract.
use mathlib.Core.Path.{refl}
use native.Mathlib.Omega.{arith}
use Rattle.network.proofs.Links.{opposite-lands}
use Rattle.routing.proofs.Turns.{settled-odd, settled-even}
use Rattle.routing.proofs.search.Search.settle.Goals as goal

pub overflow_mul-opposite_of : goal.overflow_mul-opposite_of
overflow_mul-opposite_of c = rw c.opposite_of.ensures (omega (arith, opposite-lands _ _ c.requires.s_bound, c.requires.sound_graph.few))

pub lower-requires : goal.lower-requires
lower-requires c = (omega arith, rw c.opposite_of.ensures (omega (arith, opposite-lands _ _ c.requires.s_bound, c.requires.sound_graph.few)))

pub returns-then-even : goal.returns-then-even
returns-then-even c =
    rw (c.relax_external.ensures, c.lower.ensures, c.mark_state.ensures.marked, c.first_link.ensures, ← c.self.view_is, ← c.graph.view_is)
    (settled-even _ _ _ c.opposite_of.ensures refl c.if-even.true refl)

pub returns-else-even : goal.returns-else-even
returns-else-even c =
    rw (c.lower.ensures, c.mark_state.ensures.marked, ← c.self.view_is, ← c.graph.view_is)
    (settled-odd _ _ _ c.opposite_of.ensures refl c.if-even.false)
