-- `replaying::compare::Standing::compare_rows` meets its contract.
use native.Mathlib.Omega.{arith}
use mathlib.Core.Path.{sym}
use Rattle.replaying.proofs.Stretches.{compared-start, compared-end}
use Rattle.replaying.proofs.compare.Standing.compare_rows.Goals as goal

pub loop-reached-init : goal.loop-reached-init
loop-reached-init c = compared-start _ _

pub loop-reached-smaller : goal.loop-reached-smaller
loop-reached-smaller c = omega (arith, c.in-Ok.ensures)

pub loop-reached-preserved : goal.loop-reached-preserved
loop-reached-preserved c = c.in-Ok.ensures.0

pub returns : goal.returns
returns c = sym (compared-end c.args.self.now.replayable c.loop-reached.invariant c.loop-reached-test.false)
