-- `rows::row::broken_score` meets its contract.
use lib.Ieee.{of_bits}
use Rattle.rows.specs.inner.Scoring.{broken_score}
use Rattle.rows.proofs.row.broken_score.Goals as goal

pub returns : goal.returns
unfolding broken_score of_bits
returns c = rw c.floored_log.ensures
