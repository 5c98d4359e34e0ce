-- What the loop of `rows::row::broken_row` keeps.
use lib.ListN.{get_or}
use Rattle.rows.specs.inner.Scoring.{Listed, broken_score}
use Rattle.journal.specs.Row.{no_candidate}
use Rattle.journal.specs.inner.Fix.{candidates_in}
use Rattle.rows.proofs.row.broken_row.Given as goal

abbrev pub invariant-loop-i : goal.invariant-loop-i
invariant-loop-i l = Listed l.i (λ k. (l.best.candidate, broken_score l.best.score (get_or (candidates_in l.fix) k no_candidate).raw_log)) l.row
