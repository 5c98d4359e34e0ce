-- `journal::call::end_before` meets its contract.
use native.Mathlib.Omega.{arith}
use Rattle.journal.proofs.Ends.{some_words, ended-start, ended-room, ended-turn, ended-done}
use Rattle.journal.proofs.call.end_before.Goals as goal

pub bounds-journal-0 : goal.bounds-journal-0
bounds-journal-0 c = some_words _ _ c.requires.reads

pub loop-init : goal.loop-init
loop-init c = ended-start _ _ c.requires

pub offset_bounds-journal-at : goal.offset_bounds-journal-at
offset_bounds-journal-at c = omega (arith, ended-room _ _ _ _ c.loop.invariant c.loop-test.true)

pub bounds-journal-at : goal.bounds-journal-at
bounds-journal-at c = omega (arith, ended-room _ _ _ _ c.loop.invariant c.loop-test.true)

pub overflow_sub-at-in-loop : goal.overflow_sub-at-in-loop
overflow_sub-at-in-loop c = (ended-room _ _ _ _ c.loop.invariant c.loop-test.true).2

pub loop-preserved : goal.loop-preserved
loop-preserved c = ended-turn _ _ _ _ c.loop.invariant c.loop-test.true

pub returns : goal.returns
returns c = ended-done _ _ _ _ c.loop.invariant (omega arith)
