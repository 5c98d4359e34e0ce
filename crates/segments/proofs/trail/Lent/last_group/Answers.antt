-- `segments::trail::Lent::last_group` meets its contract.
use Rattle.segments.proofs.BuildGroups.{begun-by}
use Rattle.segments.proofs.trail.Lent.last_group.Goals as goal

pub returns : goal.returns
returns c = begun-by _ _ _ c.gather_group-found.ensures c.no_bridges.ensures
