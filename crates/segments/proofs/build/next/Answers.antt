-- `segments::build::next` meets its contract.
use Rattle.std.proofs.Common.{arith, refl}
use Rattle.segments.proofs.BuildTurns.{some-left, group-reached, group-turn, bridge-turn}
use Rattle.segments.proofs.build.next.Goals as goal

pub overflow_sub-b : goal.overflow_sub-b
overflow_sub-b c = some-left _ _ c.args.b.now _ c.requires

pub returns-then-b-gt0 : goal.returns-then-b-gt0
returns-then-b-gt0 c = bridge-turn _ _ c.args.b.now _ c.requires c.if-b-gt0.true refl c.bridge_segment-b.ensures

pub previous_group-b-requires : goal.previous_group-b-requires
previous_group-b-requires c = group-reached _ _ c.args.b.now _ c.requires

pub returns : goal.returns
returns c = group-turn _ _ c.args.b.now _ c.requires (omega arith) c.previous_group-b.ensures c.from-b.ensures
