-- `segments::trail::Lent::previous_group` meets its contract.
use Rattle.segments.proofs.BuildGroups.{stepped-by}
use Rattle.segments.proofs.trail.Lent.previous_group.Goals as goal

pub returns : goal.returns
returns c = stepped-by _ _ _ _ _ c.gather_group-found.ensures c.bridges_to.ensures
