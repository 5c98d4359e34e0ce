-- What the loop of `rows::offers::best_offer` keeps.
use mathlib.Core.Path.{◌≡◌}
use Rattle.journal.specs.Record.{read_row}
use Rattle.journal.specs.inner.Fix.{fix_in}
use Rattle.transition.specs.Step.{step_on}
use Rattle.transition.specs.inner.Track.{track_in}
use Rattle.rows.specs.Row.{offer}
use Rattle.rows.specs.inner.Scoring.{best_offer}
use Rattle.rows.proofs.offers.best_offer.Given as goal

abbrev pub invariant-loop-j : goal.invariant-loop-j
invariant-loop-j l = l.best ≡ best_offer (offer (step_on (track_in l.o.track.now) l.o.settings) (read_row l.o.words.now) (fix_in l.o.fix l.o.distances.now) l.i) l.j
