-- `routing::blocks::earliest_four` meets its contract.
use Rattle.routing.specs.inner.Blocks.{earliest_four}
use Rattle.routing.proofs.blocks.earliest_four.Goals as goal

pub returns : goal.returns
unfolding earliest_four
returns g c = λ f told.
    rw (
      c.earlier_of.ensures,
      c.earlier_of-a.ensures,
      c.earlier_of-b.ensures,
      told _ _ c.leader.ensures,
      told _ _ c.leader-2.ensures,
      told _ _ c.leader-3.ensures,
      told _ _ c.leader-4.ensures,
    )
