-- What the loop of `rows::previous::best_previous` keeps.
use mathlib.Core.Path.{◌≡◌}
use Rattle.journal.specs.Row.{score_of}
use Rattle.journal.specs.Record.{read_row}
use Rattle.rows.specs.Row.{last_best}
use Rattle.rows.specs.inner.Scoring.{previous_of}
use Rattle.rows.proofs.previous.best_previous.Given as goal

abbrev pub invariant-loop-j : goal.invariant-loop-j
invariant-loop-j l = l.best ≡ previous_of (last_best (score_of (read_row l.words)) l.j)
