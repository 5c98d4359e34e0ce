-- What the loop of `groups::gather::gather_group` keeps.
use mathlib.Core.Bool.{cond}
use Prim.Native.Nat.{◌+◌}
use Rattle.groups.proofs.Reading.{Going}
use Rattle.groups.proofs.gather.gather_group.Given as goal

abbrev pub invariant-loop-g : goal.invariant-loop-g
invariant-loop-g l = Going l.journal l.initial.g.back l.g

abbrev pub decreases-loop-g : goal.decreases-loop-g
decreases-loop-g l = l.g.back.rows + cond l.g.ended 0 1
