-- `network::triple::triple_is_consistent` meets its contract.
use Rattle.std.proofs.Common.{rules}
use Rattle.network.proofs.Accepted.{accepted-fits}
use Rattle.network.proofs.triple.triple_is_consistent.Goals as goal

pub is_consistent-requires : goal.is_consistent-requires
is_consistent-requires c = accepted-fits c.args.net.now (search rules)
