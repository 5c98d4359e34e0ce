-- `segments::trail::Lent::count_segments` meets its contract.
use Rattle.std.proofs.Common.{arith, rules}
use Rattle.segments.proofs.BuildGroups.{counting-begin, counting-turn, counting-end, counting-less}
use Rattle.segments.proofs.trail.Lent.count_segments.Goals as goal

pub loop-t-init : goal.loop-t-init
loop-t-init c = counting-begin _ _ _ c.requires

pub overflow_add-n : goal.overflow_add-n
overflow_add-n c = omega (arith, (counting-turn _ _ _ _ _ c.loop-t.invariant c.in-Some.is c.previous_group-t.ensures).small)

pub overflow_add-n-in-Some : goal.overflow_add-n-in-Some
overflow_add-n-in-Some c = omega (arith, (counting-turn _ _ _ _ _ c.loop-t.invariant c.in-Some.is c.previous_group-t.ensures).small)

pub loop-t-smaller : goal.loop-t-smaller
loop-t-smaller c = counting-less _ _ _ c.loop-t.t _ c.in-Some.is c.previous_group-t.ensures

pub loop-t-preserved : goal.loop-t-preserved
loop-t-preserved c = counting-turn _ _ _ _ _ c.loop-t.invariant c.in-Some.is c.previous_group-t.ensures

pub returns : goal.returns
returns c = counting-end _ _ _ _ _ c.loop-t.invariant (search rules)
