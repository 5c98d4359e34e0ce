-- What the loop of `journal::fix::gather` keeps.
use Rattle.journal.specs.Row.{fix_given}
use Rattle.journal.proofs.Gathered.{Gathered}
use Rattle.journal.proofs.fix.gather.Given as goal

abbrev pub invariant-loop-i : goal.invariant-loop-i
invariant-loop-i l = Gathered (fix_given l.fix).candidates l.i l.list
