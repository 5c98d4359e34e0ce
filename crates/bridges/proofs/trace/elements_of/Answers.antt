-- `bridges::trace::elements_of` meets its contract. The invariant: the elements of the first k states are found. Assumes nothing.
use mathlib.Core.Path.{sym}
use native.Mathlib.Omega.{arith}
use lib.Seq.{length-take-le}
use Rattle.bridges.specs.inner.Found.{no_elements}
use Rattle.bridges.proofs.Tracing.{tracing-none, tracing-done, tracing-few, tracing-long, tracing-same, tracing-room, tracing-more}
use Rattle.bridges.proofs.trace.elements_of.Goals as goal
use Rattle.bridges.proofs.trace.elements_of.Goals.{then-not-is_barred, else-not-is_barred}

pub loop-state-init : goal.loop-state-init
unfolding no_elements
loop-state-init c = tracing-none _ _ _

pub slice_bounds-elements-end : goal.slice_bounds-elements-end
slice_bounds-elements-end c = omega (arith, tracing-few c.loop-state.invariant c.requires, tracing-long c.loop-state.invariant c.requires)

pub slice_bounds-is_barred-end : goal.slice_bounds-is_barred-end
slice_bounds-is_barred-end c =
    let few = tracing-few c.loop-state.invariant c.requires in
    let long = tracing-long c.loop-state.invariant c.requires in
    sym (length-take-le c.loop-state.count c.loop-state.elements (omega arith))

pub offset_bounds-elements-count : goal.offset_bounds-elements-count
offset_bounds-elements-count c = omega (arith, tracing-room c.loop-state.invariant c.requires c.loop-state-test.true c.is_barred.ensures (c.if-not-is_barred.true))

pub bounds-elements-count : goal.bounds-elements-count
bounds-elements-count c = tracing-room c.loop-state.invariant c.requires c.loop-state-test.true c.is_barred.ensures (c.if-not-is_barred.true)

pub overflow_add-count : goal.overflow_add-count
overflow_add-count c = omega (arith, tracing-few c.loop-state.invariant c.requires)

pub loop-state-preserved : goal.loop-state-preserved
loop-state-preserved c =
    elim c.if-not-is_barred.branch [
      | then-not-is_barred w ↦ rw (w.elements-is, w.count-is) (tracing-more c.loop-state.invariant c.requires c.loop-state-test.true c.is_barred.ensures w.if-not-is_barred.true)
      | else-not-is_barred w ↦ rw (w.elements-is, w.count-is) (tracing-same c.loop-state.invariant c.requires c.loop-state-test.true c.is_barred.ensures w.if-not-is_barred.false)
    ]

pub returns : goal.returns
returns c = tracing-done c.loop-state.invariant c.loop-state-test.false
