-- `routing::states::steps_back` meets its contract.
use native.Mathlib.Nat.{sub-zero, zero-add}
use native.Mathlib.Omega.{arith}
use Rattle.routing.proofs.Back.{steps-stop, steps_on, steps-end}
use Rattle.routing.proofs.states.steps_back.Goals as goal

pub loop-n-init : goal.loop-n-init
loop-n-init c = (omega arith, c.requires.s_bound, rw (sub-zero, zero-add))

pub returns-then-at-start : goal.returns-then-at-start
returns-then-at-start c = steps-stop _ _ _ _ _ c.loop-n.invariant.2 c.loop-n-test.true c.if-at-start.true

pub loop-n-preserved : goal.loop-n-preserved
loop-n-preserved c = (omega arith, c.requires.preds_bound _, steps_on _ _ _ _ _ c.loop-n.invariant.2 c.loop-n-test.true c.if-at-start.false)

pub returns : goal.returns
returns c = steps-end _ _ _ _ _ c.loop-n.invariant.2 (omega arith)
