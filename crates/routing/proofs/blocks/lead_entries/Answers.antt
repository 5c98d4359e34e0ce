-- `routing::blocks::lead_entries` meets its contract.
use Rattle.std.proofs.Common.{rules}
use Rattle.routing.specs.inner.Blocks.{leader_at}
use Rattle.routing.proofs.blocks.lead_entries.Goals as goal

pub returns : goal.returns
unfolding leader_at
returns c = c.earliest.ensures (leader_at c.args.leaders.now) (λ i l p. search rules)
