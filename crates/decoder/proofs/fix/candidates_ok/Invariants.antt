-- What the loop of `decoder::fix::candidates_ok` keeps.
use mathlib.Core.Path.{◌≡◌}
use mathlib.Core.Bool.{true}
use lib.ListN.{get_or}
use Rattle.lists.specs.Loops.{every_below}
use Rattle.journal.specs.Row.{candidate_given}
use Rattle.journal.specs.Ranges.{candidate_ok}
use Rattle.decoder.proofs.fix.candidates_ok.Given as goal

abbrev pub invariant-loop-i : goal.invariant-loop-i
invariant-loop-i l = every_below l.i (λ j. candidate_ok l.known (candidate_given l.fix j (get_or l.fix.elements j 0))) ≡ true
