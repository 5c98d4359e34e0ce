-- `closing::walk::store_back` meets its contract.
use native.Mathlib.Omega.{arith}
use borrow.Author.Tests.{lt-ltb, le-ltb}
use Rattle.closing.specs.inner.Walk.{pair_stored}
use Rattle.closing.proofs.Steps.{over-pairs, over-rows, reached-few}
use Rattle.closing.proofs.walk.store_back.Goals as goal

pub overflow_sub-i : goal.overflow_sub-i
overflow_sub-i c = rw c.step_back-next.ensures (omega (arith, over-pairs c.requires.record_left))

pub overflow_cast-rows : goal.overflow_cast-rows
overflow_cast-rows c = rw c.step_back-next.ensures (omega (arith, over-rows c.requires.record_left, reached-few _ _ c.requires.record_left.reached))

pub returns-then-b-next : goal.returns-then-b-next
unfolding pair_stored
returns-then-b-next c =
    record {
      value = c.step_back-next.ensures;
      rows_after = rw (lt-ltb _ _ c.if-b-next.true);
      candidates_after = rw (lt-ltb _ _ c.if-b-next.true);
    }

pub returns-else-b-next : goal.returns-else-b-next
unfolding pair_stored
returns-else-b-next c =
    record {
      value = c.step_back-next.ensures;
      rows_after = rw (le-ltb _ _ c.if-b-next.false);
      candidates_after = rw (le-ltb _ _ c.if-b-next.false);
    }
