-- What the loop of `journal::check::walk` keeps.
use Prim.Native.Nat.{◌-◌}
use lib.ListN.{length}
use Rattle.journal.proofs.Walk.{Walked}
use Rattle.journal.proofs.check.walk.Given as goal

abbrev pub invariant-loop-survey : goal.invariant-loop-survey
invariant-loop-survey l = Walked l.journal l.survey

abbrev pub decreases-loop-survey : goal.decreases-loop-survey
decreases-loop-survey l = length l.journal - l.survey.used
