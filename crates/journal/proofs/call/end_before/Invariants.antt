-- What the loop of `journal::call::end_before` keeps.
use Rattle.journal.proofs.Ends.{Ended}
use Rattle.journal.proofs.call.end_before.Given as goal

abbrev pub invariant-loop : goal.invariant-loop
invariant-loop l = Ended l.journal l.n l.counter l.at
