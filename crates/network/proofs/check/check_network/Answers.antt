-- `network::check::check_network` meets its contract.
use Rattle.std.proofs.Common.{rules}
use Rattle.network.proofs.Accepted.{counts}
use Rattle.network.proofs.check.check_network.Goals as goal

pub sides_fit-requires : goal.sides_fit-requires
sides_fit-requires c = let n = counts c.args.net.now (search rules) in search (rules, n.to_side, n.from_side)

pub elements_differ-requires : goal.elements_differ-requires
elements_differ-requires c = let n = counts c.args.net.now (search rules) in search (rules, n.to)

pub windows_rise-requires : goal.windows_rise-requires
windows_rise-requires c = let n = counts c.args.net.now (search rules) in search (rules, n.windows)
