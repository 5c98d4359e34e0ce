-- `network::triple::is_passed` meets its contract.
use Rattle.std.proofs.Common.{rules}
use Rattle.network.specs.Triple.{passed}
use Rattle.network.proofs.Joining.{joined-entered, joined-departed}
use Rattle.network.proofs.triple.is_passed.Goals as goal

pub returns-then-are_joined : goal.returns-then-are_joined
unfolding passed
returns-then-are_joined c = rw (← joined-entered, ← joined-departed) (search rules)

pub returns-else-are_joined : goal.returns-else-are_joined
unfolding passed
returns-else-are_joined c = rw (← joined-entered, ← joined-departed) (search rules)
