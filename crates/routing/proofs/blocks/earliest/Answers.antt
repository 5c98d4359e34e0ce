-- `routing::blocks::earliest` meets its contract.
use Rattle.routing.specs.inner.Blocks.{earliest}
use Rattle.routing.proofs.blocks.earliest.Goals as goal

pub returns : goal.returns
unfolding earliest
returns g c = λ f told.
    rw (
      c.earlier_of.ensures,
      c.earlier_of-a.ensures,
      c.earlier_of-b.ensures,
      c.earliest_four.ensures f told,
      c.earliest_four-2.ensures f told,
      c.earliest_four-3.ensures f told,
      c.earliest_four-4.ensures f told,
    )
