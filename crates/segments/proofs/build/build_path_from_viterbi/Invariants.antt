-- What the loop of `segments::build::build_path_from_viterbi` keeps.
use Rattle.segments.proofs.BuildStoring.{Storing}
use Rattle.segments.proofs.build.build_path_from_viterbi.Given as goal

abbrev pub invariant-loop-b : goal.invariant-loop-b
invariant-loop-b l = Storing l.lent.net.now l.lent.journal.now l.initial.segments l.count l.b l.segments

abbrev pub decreases-loop-b : goal.decreases-loop-b
decreases-loop-b l = l.b.left
