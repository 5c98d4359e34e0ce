-- `network::link::relation_at` meets its contract.
use Rattle.std.proofs.Common.{rules}
use Rattle.network.specs.Graph.{flag_at}
use Rattle.network.proofs.Minutes.{relation-at-minute}
use Rattle.network.proofs.link.relation_at.Goals as goal

pub returns : goal.returns
unfolding flag_at
returns c = rw (relation-at-minute _ _ _ c.requires.relations_fit.0 _ c.requires.k_in_bounds) (search rules)
