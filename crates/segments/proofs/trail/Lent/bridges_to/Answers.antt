-- `segments::trail::Lent::bridges_to` meets its contract.
use Rattle.network.proofs.Accepted.{accepted-relations, accepted-windows, accepted-sound}
use Rattle.bridges.proofs.Between.{insert-accepted}
use Rattle.segments.proofs.trail.Lent.bridges_to.Goals as goal

pub insert_bridges-requires : goal.insert_bridges-requires
insert_bridges-requires c =
    record {
      relations_fit = (accepted-relations _ c.args.self.now.accepted, accepted-windows _ c.args.self.now.accepted);
      sound_graph = accepted-sound _ _ c.args.self.now.accepted;
    }

pub returns-in-Some : goal.returns-in-Some
returns-in-Some c = rw c.in-Some.is (insert-accepted _ _ _ _ c.args.self.now.accepted c.insert_bridges.ensures)
