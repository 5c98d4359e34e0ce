-- `replaying::row::row_same` meets its contract.
use native.Mathlib.Omega.{arith}
use mathlib.Core.Path.{sym}
use lib.Seq.{length-take-le}
use Rattle.replaying.proofs.Same.{own-some, own-record, few-distances, distances-stand, distances-are, fix-recorded, row-scorable, row-compared}
use Rattle.replaying.proofs.row.row_same.Goals as goal

pub candidate_count-count-requires : goal.candidate_count-count-requires
candidate_count-count-requires c = own-some c.requires

pub before_count-before-requires : goal.before_count-before-requires
before_count-before-requires c = own-some c.requires

pub candidates_at-fix-requires : goal.candidates_at-fix-requires
candidates_at-fix-requires c = own-record c.requires c.candidate_count-count.ensures

pub copy_floats-requires : goal.copy_floats-requires
copy_floats-requires c = distances-stand c.requires c.candidate_count-count.ensures c.before_count-before.ensures c.distance_count-n.ensures.pairs _ (omega arith)

pub slice_bounds-distances-end : goal.slice_bounds-distances-end
slice_bounds-distances-end c = omega (arith, few-distances c.requires c.candidate_count-count.ensures c.before_count-before.ensures c.distance_count-n.ensures.pairs)

pub slice_bounds-score_row-end : goal.slice_bounds-score_row-end
slice_bounds-score_row-end c = sym (length-take-le _ _ (omega (arith, few-distances c.requires c.candidate_count-count.ensures c.before_count-before.ensures c.distance_count-n.ensures.pairs)))

pub score_row-requires : goal.score_row-requires
score_row-requires c =
    let stands = c.requires in
    let distances = distances-are stands c.candidate_count-count.ensures c.before_count-before.ensures c.distance_count-n.ensures.pairs _ (omega arith) c.copy_floats.ensures in
    record {
      entries16 = c.candidates_at-fix.ensures.0;
      scorable = row-scorable stands (fix-recorded stands c.candidates_at-fix.result c.candidates_at-fix.ensures.1 c.candidates_at-fix.ensures.2 distances) c.before_count-before.ensures _ _ (omega arith) (omega arith);
    }

pub cells_same-requires : goal.cells_same-requires
cells_same-requires c = own-record c.requires c.candidate_count-count.ensures

pub returns : goal.returns
returns c = let stands = c.requires in
    let distances = distances-are stands c.candidate_count-count.ensures c.before_count-before.ensures c.distance_count-n.ensures.pairs _ (omega arith) c.copy_floats.ensures in
    row-compared stands (fix-recorded stands c.candidates_at-fix.result c.candidates_at-fix.ensures.1 c.candidates_at-fix.ensures.2 distances) c.before_count-before.ensures _ _ _ c.candidate_count-count.ensures c.score_row.ensures c.cells_same.ensures
