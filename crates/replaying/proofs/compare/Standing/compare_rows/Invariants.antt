-- What the loop of `replaying::compare::Standing::compare_rows` keeps.
use Prim.Native.Nat.{◌-◌}
use lib.ListN.{length}
use Rattle.transition.specs.Step.{transition}
use Rattle.journal.specs.inner.Rows.{rows_in}
use Rattle.replaying.specs.inner.Comparing.{Compared}
use Rattle.replaying.proofs.compare.Standing.compare_rows.Given as goal

abbrev pub invariant-loop-reached : goal.invariant-loop-reached
invariant-loop-reached l = Compared (transition l.self.net.now l.self.settings) (rows_in l.self.journal.now) l.reached

abbrev pub decreases-loop-reached : goal.decreases-loop-reached
decreases-loop-reached l = length (rows_in l.self.journal.now) - l.reached.row
