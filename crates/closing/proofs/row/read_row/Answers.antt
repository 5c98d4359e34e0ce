-- `closing::row::read_row` meets its contract.
use mathlib.Core.Path.{sym, ◌∙◌}
use Prim.Native.Nat.{◌+◌, ◌≤◌}
use native.Mathlib.Omega.{arith}
use lib.ListN.{length}
use Rattle.std.proofs.lemmas.Result.{err_from_is_err_and}
use Rattle.journal.specs.Record.{first_cell}
use Rattle.journal.specs.inner.Buffer.{RecordWhole}
use Rattle.closing.specs.Row.{row_buffers_of}
use Rattle.closing.proofs.Rows.{Rooms, rooms, same-room, words_from, row-unread, row-past, row-standing, row-place, row-whole, row-reading, row-refused, head-whole, fields-stand, floats-stand, distances-stand, row-longer, distances-longer, row-answer, row-filled}
use Rattle.closing.proofs.row.read_row.Goals as goal
use Rattle.closing.proofs.row.read_row.Goals.{After-end_before, Else-min-count}

pub returns-in_err-survey : goal.returns-in_err-survey
returns-in_err-survey c = let a = c.args in
    let p = err_from_is_err_and c.from_residual.result c.from_residual.ensures.1 in
    let lent = row_buffers_of a.elements.now a.intrinsics.now a.near.now a.raw_logs.now a.parents.now a.scores.now a.distances.now in
    let e = row-unread a.journal.now a.row lent (sym c.read_journal.ensures ∙ c.in_err-survey.was) in rw (p.1, p.2) (row-refused lent e)

pub returns-then-survey-number : goal.returns-then-survey-number
returns-then-survey-number c = let a = c.args in
    let lent = row_buffers_of a.elements.now a.intrinsics.now a.near.now a.raw_logs.now a.parents.now a.scores.now a.distances.now in
    let e = row-past a.journal.now (sym c.read_journal.ensures ∙ c.in_ok-survey.was) _ lent c.if-survey-number.true in row-refused lent e

pub end_before-requires : goal.end_before-requires
end_before-requires c = row-standing c.args.journal.now (sym c.read_journal.ensures ∙ c.in_ok-survey.was) _ c.if-survey-number.false

-- the record of the row
inside : (c : After-end_before) → c.end_before.result ≤ length c.args.journal.now
inside c = row-place c.args.journal.now (sym c.read_journal.ensures ∙ c.in_ok-survey.was) _ c.if-survey-number.false c.end_before.ensures

whole : (c : After-end_before) → RecordWhole (words_from c.args.journal.now c.end_before.result)
whole c = row-whole c.args.journal.now (sym c.read_journal.ensures ∙ c.in_ok-survey.was) _ c.if-survey-number.false c.end_before.ensures

pub offset_bounds-journal-end_before : goal.offset_bounds-journal-end_before
offset_bounds-journal-end_before c = omega (arith, inside (goal.at.offset_bounds-journal-end_before c).After-end_before)

pub slice_bounds-words-count : goal.slice_bounds-words-count
slice_bounds-words-count c = inside (goal.at.slice_bounds-words-count c).After-end_before

pub slice_bounds-words-start : goal.slice_bounds-words-start
slice_bounds-words-start c = inside (goal.at.slice_bounds-words-start c).After-end_before

pub candidate_count-count-requires : goal.candidate_count-count-requires
candidate_count-count-requires c = omega (arith, head-whole _ (whole (goal.at.candidate_count-count-requires c).After-end_before))

pub before_count-before-requires : goal.before_count-before-requires
before_count-before-requires c = omega (arith, head-whole _ (whole (goal.at.before_count-before-requires c).After-end_before))

pub distance_count-pairs-requires : goal.distance_count-pairs-requires
distance_count-pairs-requires c = omega (arith, (whole (goal.at.distance_count-pairs-requires c).After-end_before).few, (whole (goal.at.distance_count-pairs-requires c).After-end_before).few-before, c.candidate_count-count.ensures, c.before_count-before.ensures)

pub minute_of-requires : goal.minute_of-requires
minute_of-requires c = head-whole _ (whole (goal.at.minute_of-requires c).After-end_before)

-- the buffers have room
pub returns-then-min-count : goal.returns-then-min-count
returns-then-min-count c = let a = c.args in
    let lent = row_buffers_of a.elements.now a.intrinsics.now a.near.now a.raw_logs.now a.parents.now a.scores.now a.distances.now in
    let read = row-reading a.journal.now (sym c.read_journal.ensures ∙ c.in_ok-survey.was) _ c.if-survey-number.false c.end_before.ensures lent in
    let longer = rw (same-room lent c.min.ensures c.min-words_room.ensures c.min-2.ensures c.min-floats_room.ensures c.min-3.ensures) at c.if-min-count.true in
    let e = read ∙ row-longer _ (whole (goal.at.returns-then-min-count c).After-end_before) c.candidate_count-count.ensures c.before_count-before.ensures c.distance_count-pairs.ensures.pairs lent longer in
    row-refused lent e

pub returns-then-distances-pairs : goal.returns-then-distances-pairs
returns-then-distances-pairs c = let a = c.args in
    let lent = row_buffers_of a.elements.now a.intrinsics.now a.near.now a.raw_logs.now a.parents.now a.scores.now a.distances.now in
    let read = row-reading a.journal.now (sym c.read_journal.ensures ∙ c.in_ok-survey.was) _ c.if-survey-number.false c.end_before.ensures lent in
    let fit = rw (same-room lent c.min.ensures c.min-words_room.ensures c.min-2.ensures c.min-floats_room.ensures c.min-3.ensures) at c.if-min-count.false in
    let e = read ∙ distances-longer _ (whole (goal.at.returns-then-distances-pairs c).After-end_before) c.candidate_count-count.ensures c.before_count-before.ensures c.distance_count-pairs.ensures.pairs lent fit c.if-distances-pairs.true in
    row-refused lent e

fits : (c : Else-min-count) → Rooms c.candidate_count-count.result (row_buffers_of c.args.elements.now c.args.intrinsics.now c.args.near.now c.args.raw_logs.now c.args.parents.now c.args.scores.now c.args.distances.now)
fits c = let a = c.args in
    let lent = row_buffers_of a.elements.now a.intrinsics.now a.near.now a.raw_logs.now a.parents.now a.scores.now a.distances.now in
    rooms _ lent (rw (same-room lent c.min.ensures c.min-words_room.ensures c.min-2.ensures c.min-floats_room.ensures c.min-3.ensures) at c.if-min-count.false)

pub copy_fields-requires : goal.copy_fields-requires
copy_fields-requires c = let at = goal.at.copy_fields-requires c in
    fields-stand _ (whole at.After-end_before) c.candidate_count-count.ensures c.before_count-before.ensures c.distance_count-pairs.ensures.pairs 1 1024 _ (omega arith) (omega arith) (fits at.Else-min-count).elements

pub copy_floats-requires : goal.copy_floats-requires
copy_floats-requires c = let at = goal.at.copy_floats-requires c in
    floats-stand _ (whole at.After-end_before) c.candidate_count-count.ensures c.before_count-before.ensures c.distance_count-pairs.ensures.pairs (first_cell + 1) _ (omega arith) (fits at.Else-min-count).intrinsics

pub copy_fields-requires-2 : goal.copy_fields-requires-2
copy_fields-requires-2 c = let at = goal.at.copy_fields-requires-2 c in
    fields-stand _ (whole at.After-end_before) c.candidate_count-count.ensures c.before_count-before.ensures c.distance_count-pairs.ensures.pairs 1024 2 _ (omega arith) (omega arith) (fits at.Else-min-count).near

pub copy_floats-requires-2 : goal.copy_floats-requires-2
copy_floats-requires-2 c = let at = goal.at.copy_floats-requires-2 c in
    floats-stand _ (whole at.After-end_before) c.candidate_count-count.ensures c.before_count-before.ensures c.distance_count-pairs.ensures.pairs (first_cell + 3) _ (omega arith) (fits at.Else-min-count).raw_logs

pub copy_fields-requires-3 : goal.copy_fields-requires-3
copy_fields-requires-3 c = let at = goal.at.copy_fields-requires-3 c in
    fields-stand _ (whole at.After-end_before) c.candidate_count-count.ensures c.before_count-before.ensures c.distance_count-pairs.ensures.pairs 2048 32 _ (omega arith) (omega arith) (fits at.Else-min-count).parents

pub copy_floats-requires-3 : goal.copy_floats-requires-3
copy_floats-requires-3 c = let at = goal.at.copy_floats-requires-3 c in
    floats-stand _ (whole at.After-end_before) c.candidate_count-count.ensures c.before_count-before.ensures c.distance_count-pairs.ensures.pairs (first_cell + 5) _ (omega arith) (fits at.Else-min-count).scores

pub copy_floats-requires-4 : goal.copy_floats-requires-4
copy_floats-requires-4 c = distances-stand _ (whole (goal.at.copy_floats-requires-4 c).After-end_before) c.candidate_count-count.ensures c.before_count-before.ensures c.distance_count-pairs.ensures.pairs _ c.if-distances-pairs.false

pub returns : goal.returns
returns c = let a = c.args in
    let lent = row_buffers_of a.elements.now a.intrinsics.now a.near.now a.raw_logs.now a.parents.now a.scores.now a.distances.now in
    let read = row-reading a.journal.now (sym c.read_journal.ensures ∙ c.in_ok-survey.was) _ c.if-survey-number.false c.end_before.ensures lent in
    let fit = rw (same-room lent c.min.ensures c.min-words_room.ensures c.min-2.ensures c.min-floats_room.ensures c.min-3.ensures) at c.if-min-count.false in
    let h = whole (goal.at.returns c).After-end_before in
    rw read (
      rw c.minute_of.ensures (row-answer _ h c.candidate_count-count.ensures c.before_count-before.ensures c.distance_count-pairs.ensures.pairs lent fit c.if-distances-pairs.false),
      row-filled _ h c.candidate_count-count.ensures c.before_count-before.ensures c.distance_count-pairs.ensures.pairs lent fit c.if-distances-pairs.false
          c.copy_fields.ensures c.copy_floats.ensures c.copy_fields-2.ensures c.copy_floats-2.ensures c.copy_fields-3.ensures c.copy_floats-3.ensures c.copy_floats-4.ensures,
    )
