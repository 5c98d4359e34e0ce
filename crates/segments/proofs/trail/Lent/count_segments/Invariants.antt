-- What the loop of `segments::trail::Lent::count_segments` keeps.
use Rattle.segments.proofs.BuildGroups.{Counting, rows_left}
use Rattle.segments.proofs.trail.Lent.count_segments.Given as goal

abbrev pub invariant-loop-t : goal.invariant-loop-t
invariant-loop-t l = Counting l.self.net.now l.self.journal.now l.initial.t l.n l.t

abbrev pub decreases-loop-t : goal.decreases-loop-t
decreases-loop-t l = rows_left l.t.group l.t.back.rows
