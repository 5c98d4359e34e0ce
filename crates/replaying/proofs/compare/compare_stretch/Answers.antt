-- `replaying::compare::compare_stretch` meets its contract.
use native.Mathlib.Omega.{arith}
use mathlib.Core.Path.{refl, sym, ◌∙◌}
use Rattle.journal.specs.Record.{record_length}
use Rattle.replaying.proofs.Standing.{few-rows, at_most, row-stands, at-inside, own-head, own-minute, counts-few, next-at, place-inside-words, records-stand, row-compared}
use Rattle.replaying.proofs.Stretches.{along-start, along-turn, along-same, along-differs, along-other, along-past}
use Rattle.replaying.proofs.compare.compare_stretch.Goals as goal

pub loop-at-init : goal.loop-at-init
loop-at-init c = along-start _ _ c.requires.stands_at.0

pub offset_bounds-journal-at : goal.offset_bounds-journal-at
offset_bounds-journal-at c = omega (arith, at-inside c.requires.replayable c.loop-at.invariant.stands c.loop-at-test.true)

pub slice_bounds-own-count : goal.slice_bounds-own-count
slice_bounds-own-count c = omega (arith, at-inside c.requires.replayable c.loop-at.invariant.stands c.loop-at-test.true)

pub slice_bounds-own-start : goal.slice_bounds-own-start
slice_bounds-own-start c = omega (arith, at-inside c.requires.replayable c.loop-at.invariant.stands c.loop-at-test.true)

pub slice_bounds-own-end : goal.slice_bounds-own-end
slice_bounds-own-end c = omega (arith, at-inside c.requires.replayable c.loop-at.invariant.stands c.loop-at-test.true)

pub minute_of-requires : goal.minute_of-requires
minute_of-requires c = own-head c.requires.replayable c.loop-at.invariant.stands c.loop-at-test.true

pub returns-then-minute_of-minute : goal.returns-then-minute_of-minute
returns-then-minute_of-minute c = along-same c.loop-at.invariant (along-other c.loop-at.invariant c.requires.stands_at.2 (own-minute c.requires.replayable c.loop-at.invariant.stands c.loop-at-test.true c.minute_of.ensures) c.if-minute_of-minute.true)

pub predecessor_place-place-requires : goal.predecessor_place-place-requires
predecessor_place-place-requires c = own-head c.requires.replayable c.loop-at.invariant.stands c.loop-at-test.true

pub offset_bounds-journal-place : goal.offset_bounds-journal-place
offset_bounds-journal-place c = omega (arith, place-inside-words c.requires.replayable c.loop-at.invariant.stands c.loop-at-test.true c.predecessor_place-place.ensures)

pub slice_bounds-row_same-count : goal.slice_bounds-row_same-count
slice_bounds-row_same-count c = omega (arith, place-inside-words c.requires.replayable c.loop-at.invariant.stands c.loop-at-test.true c.predecessor_place-place.ensures)

pub slice_bounds-row_same-start : goal.slice_bounds-row_same-start
slice_bounds-row_same-start c = omega (arith, place-inside-words c.requires.replayable c.loop-at.invariant.stands c.loop-at-test.true c.predecessor_place-place.ensures)

pub slice_bounds-row_same-end : goal.slice_bounds-row_same-end
slice_bounds-row_same-end c = omega (arith, place-inside-words c.requires.replayable c.loop-at.invariant.stands c.loop-at-test.true c.predecessor_place-place.ensures)

pub row_same-requires : goal.row_same-requires
row_same-requires c = records-stand c.requires.replayable c.loop-at.invariant.stands c.loop-at-test.true c.predecessor_place-place.ensures c.requires.track_fits refl

pub returns-then-not-row_same : goal.returns-then-not-row_same
returns-then-not-row_same c = along-differs c.loop-at.invariant (record { stands = row-stands c.requires.replayable c.loop-at.invariant.stands c.loop-at-test.true; minute-is = sym (own-minute c.requires.replayable c.loop-at.invariant.stands c.loop-at-test.true c.minute_of.ensures) ∙ c.if-minute_of-minute.false; is = sym (row-compared c.requires.replayable c.loop-at.invariant.stands c.loop-at-test.true c.predecessor_place-place.ensures _ c.row_same.ensures) ∙ c.if-not-row_same.true })

pub candidate_count-requires : goal.candidate_count-requires
candidate_count-requires c = omega (arith, own-head c.requires.replayable c.loop-at.invariant.stands c.loop-at-test.true)

pub before_count-requires : goal.before_count-requires
before_count-requires c = omega (arith, own-head c.requires.replayable c.loop-at.invariant.stands c.loop-at-test.true)

pub record_length-at-requires : goal.record_length-at-requires
record_length-at-requires c = counts-few c.requires.replayable c.loop-at.invariant.stands c.loop-at-test.true c.candidate_count.ensures c.before_count.ensures

pub overflow_add-at : goal.overflow_add-at
overflow_add-at c = omega (arith, c.record_length-at.ensures.1, at_most c.requires.replayable c.loop-at.invariant.stands, c.requires.replayable.ends)

pub overflow_add-row : goal.overflow_add-row
overflow_add-row c = omega (arith, row-stands c.requires.replayable c.loop-at.invariant.stands c.loop-at-test.true, few-rows c.requires.replayable)

pub loop-at-smaller : goal.loop-at-smaller
unfolding record_length
loop-at-smaller c = omega (arith, c.record_length-at.ensures.0, c.loop-at-test.true)

pub loop-at-preserved : goal.loop-at-preserved
loop-at-preserved c = along-turn c.loop-at.invariant (next-at c.requires.replayable c.loop-at.invariant.stands c.loop-at-test.true c.candidate_count.ensures c.before_count.ensures c.record_length-at.ensures.0).1 (record { stands = row-stands c.requires.replayable c.loop-at.invariant.stands c.loop-at-test.true; minute-is = sym (own-minute c.requires.replayable c.loop-at.invariant.stands c.loop-at-test.true c.minute_of.ensures) ∙ c.if-minute_of-minute.false; is = sym (row-compared c.requires.replayable c.loop-at.invariant.stands c.loop-at-test.true c.predecessor_place-place.ensures _ c.row_same.ensures) ∙ c.if-not-row_same.false })

pub returns : goal.returns
returns c = along-same c.loop-at.invariant (along-past c.loop-at.invariant c.requires.stands_at.0 c.requires.stands_at.1 c.loop-at-test.false)
