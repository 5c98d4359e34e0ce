-- `decoder::feed::write_fix` meets its contract.
use native.Mathlib.Omega.{arith}
use mathlib.Core.Path.{◌∙◌}
use Rattle.journal.proofs.Gathered.{count-in}
use Rattle.decoder.proofs.Writing.{place-used, place-stands, fix-scorable, fix-narrow, fix-room, fix-written}
use Rattle.decoder.proofs.feed.write_fix.Goals as goal

pub offset_bounds-journal-place : goal.offset_bounds-journal-place
offset_bounds-journal-place c = omega (arith, place-stands _ _ _ _ _ c.requires.feedable, c.place_of-place.ensures)

pub slice_bounds-score_row-count : goal.slice_bounds-score_row-count
slice_bounds-score_row-count c = omega (arith, place-stands _ _ _ _ _ c.requires.feedable, c.place_of-place.ensures)

pub slice_bounds-score_row-start : goal.slice_bounds-score_row-start
slice_bounds-score_row-start c = omega (arith, place-stands _ _ _ _ _ c.requires.feedable, c.place_of-place.ensures)

pub score_row-requires : goal.score_row-requires
score_row-requires c =
    let pre = c.requires in
    record {
      entries16 = pre.entries16;
      scorable = fix-scorable _ _ _ _ _ pre.feedable _ _ c.place_of-place.ensures c.candidates_of-before.ensures _ _ (omega arith) (omega arith);
    }

pub add_row-requires : goal.add_row-requires
add_row-requires c =
    let pre = c.requires in
    let place = c.place_of-place.ensures in
    let before = c.candidates_of-before.ensures in
    let scored = c.score_row.ensures in
    let p = c.before_of-p.ensures in
    let many = count-in _ pre.entries16 in
    record {
      entries16 = (pre.entries16, fix-narrow _ _ _ _ _ pre.feedable _ _ place before _ _ scored _ _ p many);
      row_in_bounds = fix-room _ _ _ _ _ pre.feedable _ _ place before _ _ scored _ _ p many _ pre.end_is;
      place_le_used = omega (arith, place, place-used _ _ _ _ _ pre.feedable, pre.end_is);
    }

pub returns : goal.returns
returns c = let pre = c.requires in
    let place = c.place_of-place.ensures in
    let before = c.candidates_of-before.ensures in
    let scored = c.score_row.ensures in
    let p = c.before_of-p.ensures in
    let many = count-in _ pre.entries16 in
    c.add_row.ensures ∙ fix-written _ _ _ _ _ pre.feedable _ _ place before _ _ scored _ _ p many _ pre.end_is
