-- `text::number::read_whole` meets its contract.
use native.Mathlib.Omega.{arith}
use Prim.Native.Nat.{◌+◌, ◌*◌}
use mathlib.Core.Path.{◌≡◌, sym, ◌∙◌}
use lib.ListN.{drop}
use Rattle.text.specs.inner.Numbers.{value_below}
use Rattle.text.proofs.Numbers.{next-value, whole-past, whole-over, whole-other, whole-turn}
use Rattle.text.proofs.number.read_whole.Goals as goal

pub returns-then-base-d-clause-value : goal.returns-then-base-d-clause-value
returns-then-base-d-clause-value c = sym (c.loop-b.invariant.1 ∙ whole-other _ _ _ _ _ c.loop-b-test.true (rw c.figure-d.ensures at c.if-base-d.true))

pub overflow_mul-value : goal.overflow_mul-value
overflow_mul-value c = omega (arith, next-value c.args.base c.args.limit c.loop-b.value c.figure-d.result c.requires.1 c.requires.2 c.loop-b.invariant.0 c.if-base-d.false)

pub overflow_add-value : goal.overflow_add-value
overflow_add-value c = omega (arith, next-value c.args.base c.args.limit c.loop-b.value c.figure-d.result c.requires.1 c.requires.2 c.loop-b.invariant.0 c.if-base-d.false)

pub returns-then-limit-value-clause-value : goal.returns-then-limit-value-clause-value
returns-then-limit-value-clause-value c =
    let next : value_below c.args.base c.args.limit c.args.n c.args.bytes.now ≡ value_below c.args.base c.args.limit (c.loop-b.value * c.args.base + c.figure-d.result) (drop (c.loop-b.b-index + 1) c.args.bytes.now) = c.loop-b.invariant.1 ∙ whole-turn _ _ _ _ _ c.loop-b-test.true (rw c.figure-d.ensures at c.if-base-d.false) ∙ rw c.figure-d.ensures in
    sym (next ∙ whole-over _ _ _ _ c.requires.0 c.if-limit-value.true)

pub loop-b-preserved : goal.loop-b-preserved
loop-b-preserved c =
    let next : value_below c.args.base c.args.limit c.args.n c.args.bytes.now ≡ value_below c.args.base c.args.limit (c.loop-b.value * c.args.base + c.figure-d.result) (drop (c.loop-b.b-index + 1) c.args.bytes.now) = c.loop-b.invariant.1 ∙ whole-turn _ _ _ _ _ c.loop-b-test.true (rw c.figure-d.ensures at c.if-base-d.false) ∙ rw c.figure-d.ensures in
    (c.if-limit-value.false, next)

pub returns-clause-value : goal.returns-clause-value
returns-clause-value c = sym (c.loop-b.invariant.1 ∙ whole-past _ _ _ _ _ c.loop-b-test.false c.loop-b.invariant.0)
