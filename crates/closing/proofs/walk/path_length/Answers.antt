-- `closing::walk::path_length` meets its contract.
use native.Mathlib.Omega.{arith}
use mathlib.Core.Path.{refl, ap, ◌∙◌}
use lib.ListN.{length}
use Rattle.closing.specs.inner.Walk.{RecordLeft}
use Rattle.closing.proofs.Steps.{over-rows, over-reached, over-counts}
use Rattle.closing.proofs.Storing.{path-stops, path-ends}
use Rattle.closing.proofs.walk.path_length.Goals as goal

pub loop-b-init : goal.loop-b-init
loop-b-init c = (c.requires, refl)

pub step_back-b-requires : goal.step_back-b-requires
step_back-b-requires c = record { reached = c.loop-b.invariant.0; left = c.loop-b-test.true; parent = c.if-b-ne-NO_PARENT.true }

pub loop-b-smaller : goal.loop-b-smaller
loop-b-smaller c =
    let o : RecordLeft c.args.journal.now c.loop-b.b = record { reached = c.loop-b.invariant.0; left = c.loop-b-test.true; parent = c.if-b-ne-NO_PARENT.true } in
    rw c.step_back-b.ensures (omega (arith, over-rows o))

pub loop-b-preserved : goal.loop-b-preserved
loop-b-preserved c =
    let o : RecordLeft c.args.journal.now c.loop-b.b = record { reached = c.loop-b.invariant.0; left = c.loop-b-test.true; parent = c.if-b-ne-NO_PARENT.true } in
    rw c.step_back-b.ensures (over-reached o, over-counts o ∙ c.loop-b.invariant.1)

pub returns-else-b-ne-NO_PARENT : goal.returns-else-b-ne-NO_PARENT
returns-else-b-ne-NO_PARENT c = omega (arith, c.loop-b.invariant.1, ap length (path-stops c.args.journal.now c.loop-b.b c.if-b-ne-NO_PARENT.false))

pub returns-after-loop-b : goal.returns-after-loop-b
returns-after-loop-b c = omega (arith, c.loop-b.invariant.1, ap length (path-ends c.args.journal.now c.loop-b.b (omega arith)))
