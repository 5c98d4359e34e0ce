-- What the loop of `rows::row::best_row` keeps.
use mathlib.Core.Path.{◌≡◌}
use Rattle.journal.specs.Record.{read_row}
use Rattle.journal.specs.inner.Fix.{fix_in}
use Rattle.transition.specs.Step.{step_on}
use Rattle.transition.specs.inner.Track.{track_in}
use Rattle.rows.specs.Row.{first_best, offer}
use Rattle.rows.specs.inner.Scoring.{Listed}
use Rattle.rows.proofs.Offered.{to_any}
use Rattle.rows.proofs.row.best_row.Given as goal

abbrev pub invariant-loop-i : goal.invariant-loop-i
invariant-loop-i l =
    let step = step_on (track_in l.o.track.now) l.o.settings in
    let p = read_row l.o.words.now in
    let f = fix_in l.o.fix l.o.distances.now in
    record {
      any : l.possible ≡ to_any step p f l.o.before l.i;
      listed : Listed l.i (λ i. first_best (offer step p f i) l.o.before) l.row;
    }
