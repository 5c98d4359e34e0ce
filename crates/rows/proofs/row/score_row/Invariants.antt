-- What the loop of `rows::row::score_row` keeps.
use Prim.Native.Nat.{ℕ}
use Rattle.journal.specs.Row.{candidate_count, candidate_of}
use Rattle.journal.specs.inner.Fix.{fix_in}
use Rattle.transition.specs.Step.{step_on}
use Rattle.transition.specs.inner.Track.{track_in}
use Rattle.rows.specs.Row.{Scored, scored}
use Rattle.rows.specs.inner.Scoring.{predecessor_in, Listed, Filled}
use Rattle.rows.proofs.row.score_row.Given as goal

abbrev pub invariant-loop-i : goal.invariant-loop-i
invariant-loop-i l =
    let f = fix_in l.fn.fix l.distances in
    let found : ℕ → Scored = λ i. scored (step_on (track_in l.fn.track) l.fn.settings) (predecessor_in l.words l.before) f i (candidate_of f i) in
    record {
      listed : Listed (candidate_count f) found l.row;
      filled : Filled l.i found l.initial.parents l.initial.scores l.parents l.scores;
    }
