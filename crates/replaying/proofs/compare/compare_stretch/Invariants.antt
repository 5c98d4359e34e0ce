-- What the loop of `replaying::compare::compare_stretch` keeps.
use Prim.Native.Nat.{◌-◌}
use Rattle.journal.specs.inner.Rows.{rows_in}
use Rattle.transition.specs.Step.{step_on}
use Rattle.transition.specs.inner.Track.{track_in}
use Rattle.replaying.proofs.Stretches.{Along}
use Rattle.replaying.proofs.compare.compare_stretch.Given as goal

abbrev pub invariant-loop-at : goal.invariant-loop-at
invariant-loop-at l = Along (step_on (track_in l.track) l.settings) l.minute (rows_in l.journal) l.initial.row l.row l.at

abbrev pub decreases-loop-at : goal.decreases-loop-at
decreases-loop-at l = l.end - l.at
