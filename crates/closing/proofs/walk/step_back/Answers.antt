-- `closing::walk::step_back` meets its contract.
use native.Mathlib.Omega.{arith}
use Rattle.journal.proofs.Stores.{take_rest}
use Rattle.closing.proofs.Steps.{step_room, step_words, step-candidate, step-yes, step-no, reached-few}
use Rattle.closing.proofs.walk.step_back.Goals as goal

pub offset_bounds-journal-b : goal.offset_bounds-journal-b
offset_bounds-journal-b c = omega (arith, step_room c.requires)

pub bounds-journal-b : goal.bounds-journal-b
bounds-journal-b c = omega (arith, step_room c.requires)

pub predecessor_place-requires : goal.predecessor_place-requires
predecessor_place-requires c = rw take_rest (step_words c.requires)

pub parent_of-requires : goal.parent_of-requires
parent_of-requires c = rw take_rest (step-candidate c.requires c.if-at-b.true)

pub overflow_add-result : goal.overflow_add-result
overflow_add-result c = omega (arith, reached-few _ _ c.requires.reached)

pub returns-then-at-b : goal.returns-then-at-b
returns-then-at-b c = rw (c.predecessor_place.ensures, take_rest) (step-yes c.requires c.if-at-b.true (rw take_rest at c.parent_of.ensures))

pub returns : goal.returns
returns c = step-no c.requires c.if-at-b.false
